use Rattle.std.proofs.Common.{[]}
use Rattle.permit_sql_statements.proofs.read.file_alone.Goals as goal

pub returns-clause-read : goal.returns-clause-read
returns-clause-read c = λ is named shown. c.file_of.ensures.read is [] named shown

pub returns-clause-some : goal.returns-clause-some
returns-clause-some c = λ is good named shown. c.file_of.ensures.some is [] good named shown

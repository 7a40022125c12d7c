-- A statement of the program as a text and its parameters.
use Rattle.sqlite.specs.Values.{bound}
use Rattle.permit_sql_statements.specs.declared.statements.Statement as program
use Rattle.permit_sql_statements.specs.Statements.{Statement}

abbrev pub text_and_params : program.Statement → Statement
text_and_params s = (s.text.now, bound s.params.now)

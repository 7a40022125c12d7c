use Rattle.std.proofs.Common.{[], rules}
use Rattle.permit_sql.proofs.typed_files.FilesTaker.take.Goals as goal

pub returns-in-Err-Unreadable : goal.returns-in-Err-Unreadable
returns-in-Err-Unreadable c = λ f good e place.
    let was = c.file_of.ensures.some f [] good.0 good.1 e in search rules

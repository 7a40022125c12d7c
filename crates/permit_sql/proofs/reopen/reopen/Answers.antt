use Rattle.std.proofs.lemmas.Option.{IfSome_then}
use Rattle.sqlite.specs.Files.{file_state}
use Rattle.sqlite.specs.State.{HasCleanDisk}
use Rattle.permit_sql_rows.specs.Kept.{Keeps}
use Rattle.permit_sql.specs.Reopening.{FindsAgain}
use Rattle.permit_sql.proofs.Reopening.{found_again}
use Rattle.permit_sql.proofs.reopen.reopen.Goals as goal

pub returns : goal.returns
returns g c t held =
    let was = file_state c.settled.result in
    IfSome_then c.opened_again.result {P = λ again. HasCleanDisk (file_state again) →
    FindsAgain was (file_state again)} {Q = λ again. HasCleanDisk (file_state again) → Keeps t (file_state again).now} c.opened_again.ensures
    (λ again found clean. found_again t was (file_state again) (c.settled.ensures t (λ clean. (held clean).1)) (found clean))

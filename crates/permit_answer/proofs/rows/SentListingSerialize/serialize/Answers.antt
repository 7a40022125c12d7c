use Rattle.std.proofs.lemmas.Result.{on_ok_weaker}
use Rattle.permit_answer.proofs.rows.SentListingSerialize.serialize.Goals as goal

pub returns : goal.returns
returns g c =
    on_ok_weaker c.end_map.result (λ ended. (_, c.in_ok-begin_map.ensures, (_, _, c.in_ok-key.ensures, c.in_ok-send_files.ensures, ended))) c.end_map.ensures

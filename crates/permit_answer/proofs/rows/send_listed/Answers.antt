use Rattle.std.proofs.lemmas.Result.{on_ok_weaker}
use Rattle.permit_answer.specs.RowData.{later_members}
use Rattle.permit_answer.proofs.rows.send_listed.Goals as goal

pub returns : goal.returns
returns g c =
    on_ok_weaker c.send_later.result (λ later. (
      _,
      c.in_ok-begin_map.ensures,
      c.in_ok-send_before.ensures (later_members c.args.file.now) _ later,
    )) c.send_later.ensures

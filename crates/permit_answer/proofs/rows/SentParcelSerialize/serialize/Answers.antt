use Rattle.std.proofs.Common.{rules, codes}
use Rattle.std.proofs.lemmas.Result.{on_ok_weaker}
use Rattle.serde_json.specs.Data.{string}
use Rattle.permit_answer.specs.RowData.{count}
use Rattle.permit_answer.proofs.Sending.{before, nothing_left}
use Rattle.permit_answer.proofs.rows.SentParcelSerialize.serialize.Goals as goal

pub returns : goal.returns
returns g c =
    let parcel = c.args.self.now.0.now in
    on_ok_weaker c.end_map.result (λ ended. (
      _,
      c.in_ok-begin_map.ensures,
      (
          before (codes "address") (string parcel.address) c.in_ok-put_text.ensures (search rules)
          (before (codes "id") (count parcel.id) c.in_ok-put_count.ensures (search rules)
          (before (codes "lot") (string parcel.lot) c.in_ok-put_text-2.ensures (search rules)
          (before (codes "owner") (count parcel.owner) c.in_ok-put_count-2.ensures (search rules)
          (nothing_left ended))))).all,
    )) c.end_map.ensures

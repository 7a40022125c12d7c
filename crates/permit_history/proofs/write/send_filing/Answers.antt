use Rattle.std.proofs.Common.{rules, codes}
use Rattle.std.proofs.lemmas.Result.{on_ok_weaker}
use Rattle.serde_json.specs.Data.{string}
use Rattle.permit_base.specs.Words.{kind_word}
use Rattle.permit_history.specs.LineData.{count}
use Rattle.permit_history.proofs.Sending.{before, nothing_left}
use Rattle.permit_history.proofs.write.send_filing.Goals as goal

pub returns : goal.returns
returns g c =
    on_ok_weaker c.end_map.result (λ ended. (
      _,
      c.in_ok-begin_map.ensures,
      (
          before (codes "description") (string c.args.description.now) c.in_ok-put_text.ensures (search rules)
          (before (codes "kind") (string (kind_word c.args.kind)) c.in_ok-put_text-2.ensures (search rules)
          (before (codes "parcel") (count c.args.parcel) c.in_ok-put_count.ensures (search rules)
          (before (codes "valuation") (count c.args.valuation) c.in_ok-put_count-2.ensures (search rules)
          (nothing_left ended))))).all,
    )) c.end_map.ensures

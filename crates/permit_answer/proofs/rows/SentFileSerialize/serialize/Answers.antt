use Rattle.std.proofs.Common.{codes}
use Rattle.std.proofs.lemmas.Result.{on_ok_weaker}
use Rattle.serde_json.specs.Data.{member}
use Rattle.permit_answer.specs.RowData.{papers_data, later_members}
use Rattle.permit_answer.proofs.rows.SentFileSerialize.serialize.Goals as goal

pub returns : goal.returns
returns g c =
    let file = c.args.self.now.0.now in
    let papers = papers_data c.args.self.now.1.now in
    on_ok_weaker c.send_later.result (λ later. (
      _,
      c.in_ok-begin_map.ensures,
      c.in_ok-send_before.ensures (member (codes "papers") papers (later_members file)) _ (_, _, c.in_ok-key.ensures, c.in_ok-send_papers.ensures, later),
    )) c.send_later.ensures

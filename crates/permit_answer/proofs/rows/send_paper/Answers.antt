use Rattle.std.proofs.Common.{rules, codes}
use Rattle.std.proofs.lemmas.Result.{on_ok_weaker}
use Rattle.serde_json.specs.Data.{boolean, string}
use Rattle.permit_base.specs.Words.{sort_word}
use Rattle.permit_answer.specs.RowData.{count}
use Rattle.permit_answer.proofs.Sending.{before, nothing_left}
use Rattle.permit_answer.proofs.rows.send_paper.Goals as goal

pub returns : goal.returns
returns g c =
    let paper = c.args.paper.now in
    on_ok_weaker c.end_map.result (λ ended. (
      _,
      c.in_ok-begin_map.ensures,
      (
          before (codes "author") (count paper.author) c.in_ok-put_count.ensures (search rules)
          (before (codes "day") (count paper.day) c.in_ok-put_count-2.ensures (search rules)
          (before (codes "days") (count paper.days) c.in_ok-put_count-3.ensures (search rules)
          (before (codes "number") (count paper.number) c.in_ok-put_count-4.ensures (search rules)
          (before (codes "open") (boolean paper.is_open) c.in_ok-put_flag.ensures (search rules)
          (before (codes "sort") (string (sort_word paper.sort)) c.in_ok-put_text.ensures (search rules)
          (before (codes "terms") (string paper.terms) c.in_ok-put_text-2.ensures (search rules)
          (before (codes "text") (string paper.text) c.in_ok-put_text-3.ensures (search rules)
          (nothing_left ended))))))))).all,
    )) c.end_map.ensures

use Rattle.std.proofs.Common.{◌≡◌, rules, codes}
use Rattle.std.proofs.lemmas.Result.{on_ok_weaker}
use Rattle.serde_json.specs.Data.{boolean, string}
use Rattle.permit_base.specs.Words.{stage_word, timing_word}
use Rattle.permit_answer.specs.RowData.{count, count_or_null, step_or_null}
use Rattle.permit_answer.proofs.Sending.{before, nothing_left}
use Rattle.permit_answer.proofs.rows.send_later.Goals as goal

pub returns : goal.returns
returns g c =
    let file = c.args.file.now in
    let requested : c.map.result ≡ c.requested.result = search (rules, c.map.ensures.cases) in
    let reviewer : c.map-2.result ≡ c.reviewer.result = search (rules, c.map-2.ensures.cases) in
    on_ok_weaker c.end_map.result (λ ended. (
    before (codes "parcel") (count file.row.state.parcel) c.in_ok-put_count.ensures (search rules)
    (before (codes "request") (step_or_null file.row.state.request) c.in_ok-put_step.ensures (search rules)
    (before (codes "requested") (count_or_null file.row.state.requested) c.in_ok-put_number.ensures (search (rules, requested))
    (before (codes "reviewer") (count_or_null file.row.state.reviewer) c.in_ok-put_number-2.ensures (search (rules, reviewer))
    (before (codes "stage") (string (stage_word file.stage)) c.in_ok-put_text.ensures (search rules)
    (before (codes "stopped") (boolean file.row.state.stopped) c.in_ok-put_flag.ensures (search rules)
    (before (codes "temporary") (count_or_null file.row.state.temporary) c.in_ok-put_number-3.ensures (search rules)
    (before (codes "timing") (string (timing_word file.timing)) c.in_ok-put_text-2.ensures (search rules)
    (before (codes "valuation") (count file.row.valuation) c.in_ok-put_count-2.ensures (search rules)
    (nothing_left ended)))))))))).all) c.end_map.ensures

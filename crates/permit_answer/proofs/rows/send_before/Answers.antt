use Rattle.std.proofs.Common.{◌≡◌, rules, codes, length, min, take, ap, ◌∙◌}
use Rattle.std.proofs.lemmas.List.{take_min}
use Rattle.std.proofs.lemmas.Result.{on_ok_weaker}
use Rattle.serde_json.specs.Data.{string}
use Rattle.permit_base.specs.Words.{kind_word}
use Rattle.permit_model.specs.Steps.{required_steps}
use Rattle.permit_model.specs.Tables.{next_in_row}
use Rattle.permit_answer.specs.RowData.{count, count_or_null, step_or_null, steps_data, done_steps}
use Rattle.permit_answer.specs.Sent.{SendsMember}
use Rattle.permit_answer.proofs.Sending.{before}
use Rattle.permit_answer.proofs.rows.send_before.Goals as goal

pub returns : goal.returns
returns g c =
    let file = c.args.file.now in
    let ask : c.map.result ≡ c.ask.result = search (rules, c.map.ensures.cases) in
    let contractor : c.map-2.result ≡ c.contractor.result = search (rules, c.map-2.ensures.cases) in
    let inspector : c.map-3.result ≡ c.inspector.result = search (rules, c.map-3.ensures.cases) in
    let steps : take c.min.result c.required_steps-required.result.now ≡ done_steps file.row.state =
    let count : c.from-2.result ≡ file.row.state.done = search rules in
    let required : c.required_steps-required.result.now ≡ required_steps file.row.state.edition file.row.state.kind = search rules in
    let least : c.min.result ≡ min c.from-2.result (length c.required_steps-required.result.now) = search rules in
    ap (λ n. take n c.required_steps-required.result.now) least ∙ take_min c.from-2.result c.required_steps-required.result.now
    ∙ ap (λ n. take n c.required_steps-required.result.now) count
    ∙ ap (take file.row.state.done) required in
    let done : SendsMember (codes "done") (steps_data (take c.min.result c.required_steps-required.result.now)) _ _ =
    record { named = _; first = c.in_ok-key.ensures; then = c.in_ok-send_steps.ensures } in
    on_ok_weaker c.put_count-4.result (λ notices others last rest. (
    before (codes "applicant") (count file.row.state.applicant) c.in_ok-put_count.ensures (search rules)
    (before (codes "ask") (count_or_null file.row.state.ask) c.in_ok-put_number.ensures (search (rules, ask))
    (before (codes "contractor") (count_or_null file.row.state.contractor) c.in_ok-put_number-2.ensures (search (rules, contractor))
    (before (codes "deadline") (count_or_null file.row.state.deadline) c.in_ok-put_number-3.ensures (search rules)
    (before (codes "description") (string file.row.description) c.in_ok-put_text.ensures (search rules)
    (before (codes "done") (steps_data (done_steps file.row.state)) done (ap steps_data steps)
    (before (codes "filed") (count file.row.state.filed) c.in_ok-put_count-2.ensures (search rules)
    (before (codes "id") (count file.row.id) c.in_ok-put_count-3.ensures (search rules)
    (before (codes "inspector") (count_or_null file.row.state.inspector) c.in_ok-put_number-4.ensures (search (rules, inspector))
    (before (codes "kind") (string (kind_word file.row.state.kind)) c.in_ok-put_text-2.ensures (search rules)
    (before (codes "next") (step_or_null (next_in_row file.row.state)) c.in_ok-put_step.ensures (search rules)
    (before (codes "notices") (count file.row.state.notices) notices (search rules)
    (record { all = rest }))))))))))))).all) c.put_count-4.ensures

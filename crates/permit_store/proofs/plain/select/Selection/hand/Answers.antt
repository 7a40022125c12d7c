use Rattle.std.proofs.Common.{◌≡◌, get_or, ◌∙◌, ap}
use Rattle.permit_store.specs.Plain.{KeptFile}
use Rattle.permit_store.proofs.Selecting.{found_some, found_none, handed_none, handed_one, handed_last, handed_err}
use Rattle.permit_store.proofs.plain.select.Selection.hand.Goals as goal
use Rattle.permit_store.proofs.plain.select.Selection.hand.Goals.{in-Some+else-not-goes_on, in_default}

pub returns-in_err-found : goal.returns-in_err-found
returns-in_err-found g c =
    handed_err g.T.Taker.took c.args.self.now c.args.files.now c.args.handed.now c.args.taker.now c.loop-kept.kept-index c.loop-kept.handed c.loop-kept.taker c.from_residual.result
    c.from_residual.ensures.0 c.loop-kept.invariant

pub returns-then-not-goes_on : goal.returns-then-not-goes_on
returns-then-not-goes_on g c =
    let s = c.args.self.now in
    let files = c.args.files.now in
    let i = c.loop-kept.kept-index in
    let d = c.kept-item.result in
    let same : c.kept.inside.row ≡ (get_or files i d).row = ap (λ (k : KeptFile). k.row) (c.kept.view_is ∙ c.kept-item.is) in
    let one = found_some s c.kept.inside.row (get_or files i d).row c.in_ok-found.field-0 c.in-Some.found c.in-Some.is c.in_ok-found.ensures same in
    handed_last g.T.Taker.took s files c.args.handed.now c.args.taker.now i d c.loop-kept.handed c.loop-kept.taker c.take-goes_on.new.self c.in-Some.found c.loop-kept-test.true one
    c.loop-kept.invariant c.if-not-goes_on.ensures

pub loop-kept-preserved : goal.loop-kept-preserved
loop-kept-preserved g c =
    let s = c.args.self.now in
    let files = c.args.files.now in
    let i = c.loop-kept.kept-index in
    let d = c.kept-item.result in
    let same : c.kept.inside.row ≡ (get_or files i d).row = ap (λ (k : KeptFile). k.row) (c.kept.view_is ∙ c.kept-item.is) in
    elim c.match-branch-2.branch [
      | in-Some+else-not-goes_on w ↦
          let one = found_some s c.kept.inside.row (get_or files i d).row c.in_ok-found.field-0 w.in-Some.found w.in-Some.is c.in_ok-found.ensures same in
          rw (w.taker-is, w.handed-is)
          (handed_one g.T.Taker.took s files c.args.handed.now c.args.taker.now i d c.loop-kept.handed c.loop-kept.taker w.take-goes_on.new.self w.in-Some.found c.loop-kept-test.true one
          c.loop-kept.invariant w.if-not-goes_on.ensures)
      | in_default w ↦
          let none = found_none s c.kept.inside.row (get_or files i d).row c.in_ok-found.field-0 w.in_default.is c.in_ok-found.ensures same in
          rw (w.taker-is, w.handed-is)
          (handed_none g.T.Taker.took s files c.args.handed.now c.args.taker.now i d c.loop-kept.handed c.loop-kept.taker c.loop-kept-test.true none c.loop-kept.invariant)
    ]

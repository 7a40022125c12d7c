use Rattle.std.proofs.Common.{◌∙◌, ap, sym, arith}
use Rattle.std.specs.Prelude.{option_to_list}
use Rattle.permit_mirror.proofs.Handed.{handed_nothing, handed_none, handed_one, handed_last, handed_err}
use Rattle.permit_mirror.proofs.search.hand.Goals as goal
use Rattle.permit_mirror.proofs.search.hand.Goals.{in-Some+else-not-goes_on, in_default}

pub loop-number-init : goal.loop-number-init
loop-number-init g c = record { handed = handed_nothing g.T.Taker.took _ c.args.routes.now c.args.caller c.args.day c.args.numbers.now _ _ (omega arith); kept = λ t h. h }

pub returns-in_err-found-clause-handed : goal.returns-in_err-found-clause-handed
returns-in_err-found-clause-handed g c =
    handed_err g.T.Taker.took _ c.args.routes.now c.args.caller c.args.day c.args.numbers.now c.args.handed.now c.args.taker.now c.loop-number.number-index
    c.loop-number.handed c.loop-number.taker c.from_residual.result c.from_residual.ensures.0 c.loop-number.invariant.handed

pub returns-then-not-goes_on-clause-handed : goal.returns-then-not-goes_on-clause-handed
returns-then-not-goes_on-clause-handed g c =
    handed_last g.T.Taker.took _ c.args.routes.now c.args.caller c.args.day c.args.numbers.now c.args.handed.now c.args.taker.now c.loop-number.number-index 0
    c.loop-number.handed c.loop-number.taker c.take-goes_on.new.self c.in-Some.found c.loop-number-test.true
    (λ t h. ap option_to_list (sym c.in-Some.is) ∙ c.in_ok-found.ensures.found t (c.loop-number.invariant.kept t h)) c.loop-number.invariant.handed
    c.if-not-goes_on.ensures

pub loop-number-preserved : goal.loop-number-preserved
loop-number-preserved g c =
    let was = c.loop-number.invariant in
    elim c.match-branch-2.branch [
      | in-Some+else-not-goes_on w ↦ rw (w.taker-is, w.handed-is) (record {
        handed = handed_one g.T.Taker.took _ c.args.routes.now c.args.caller c.args.day c.args.numbers.now c.args.handed.now c.args.taker.now
            c.loop-number.number-index 0 c.loop-number.handed c.loop-number.taker w.take-goes_on.new.self w.in-Some.found c.loop-number-test.true
            (λ t h. ap option_to_list (sym w.in-Some.is) ∙ c.in_ok-found.ensures.found t (was.kept t h)) was.handed w.if-not-goes_on.ensures;
        kept = λ t h. c.in_ok-found.ensures.kept t (was.kept t h);
      })
      | in_default w ↦ rw (w.taker-is, w.handed-is) (record {
        handed = handed_none g.T.Taker.took _ c.args.routes.now c.args.caller c.args.day c.args.numbers.now c.args.handed.now c.args.taker.now
            c.loop-number.number-index 0 c.loop-number.handed c.loop-number.taker c.loop-number-test.true
            (λ t h. ap option_to_list (sym w.in_default.is) ∙ c.in_ok-found.ensures.found t (was.kept t h)) was.handed;
        kept = λ t h. c.in_ok-found.ensures.kept t (was.kept t h);
      })
    ]

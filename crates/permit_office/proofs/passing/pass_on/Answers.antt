use Rattle.std.proofs.Common.{refl, ap, rules}
use Rattle.permit_model.specs.Caller.{Party}
use Rattle.permit_office.proofs.PassedRows.{passed_whole, passed_to_stop, passed_on_err, same_taker}
use Rattle.permit_office.proofs.passing.pass_on.Goals as goal

pub returns-then-is_whole-clause-passed : goal.returns-then-is_whole-clause-passed
returns-then-is_whole-clause-passed g c =
    let a = c.args in
    let s = g.S.Store.view in
    let handed = c.in_ok-is_whole.ensures.handed in
    let named = same_taker g.T.Taker.took a.policy.now a.caller.now a.day _ _ a.routes.now (s a.store.now) (s c.hand.new.store) _ c.hand.new.taker
    (refl, refl, refl) refl handed in
    passed_whole g.T.Taker.took a.policy.now a.caller.now a.day _ a.routes.now (s a.store.now) (s c.hand.new.store) _ c.hand.new.taker
    (ap (λ (p : Party). p.id) c.caller.view_is) (refl, refl, refl) refl
    c.in_ok-is_whole.is_whole c.if-is_whole.true handed _ (search rules)

pub returns-else-is_whole-clause-passed : goal.returns-else-is_whole-clause-passed
returns-else-is_whole-clause-passed g c =
    let a = c.args in
    let s = g.S.Store.view in
    let handed = c.in_ok-is_whole.ensures.handed in
    let named = same_taker g.T.Taker.took a.policy.now a.caller.now a.day _ _ a.routes.now (s a.store.now) (s c.hand.new.store) _ c.hand.new.taker
    (refl, refl, refl) refl handed in
    passed_to_stop g.T.Taker.took a.policy.now a.caller.now a.day _ a.routes.now (s a.store.now) (s c.hand.new.store) _ c.hand.new.taker
    (ap (λ (p : Party). p.id) c.caller.view_is) (refl, refl, refl) refl
    c.in_ok-is_whole.is_whole c.if-is_whole.false handed _ (search rules)

pub returns-in_err-is_whole-clause-passed : goal.returns-in_err-is_whole-clause-passed
returns-in_err-is_whole-clause-passed g c =
    let a = c.args in
    let s = g.S.Store.view in
    let handed = c.in_err-is_whole.ensures.handed in
    let named = same_taker g.T.Taker.took a.policy.now a.caller.now a.day _ _ a.routes.now (s a.store.now) (s c.hand.new.store) _ c.hand.new.taker
    (refl, refl, refl) refl handed in
    passed_on_err g.T.Taker.took a.policy.now a.caller.now a.day _ a.routes.now (s a.store.now) (s c.hand.new.store) _ c.hand.new.taker
    (ap (λ (p : Party). p.id) c.caller.view_is) (refl, refl, refl) refl
    _ c.from_residual.result c.from_residual.ensures.0 handed _ (search rules)

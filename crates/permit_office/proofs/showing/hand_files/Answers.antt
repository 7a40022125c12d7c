use Rattle.std.proofs.Common.{◌∙◌, List, Err, refl, ap, sym, subst}
use Rattle.permit_base.specs.declared.words.Action.TheVariants as action
use Rattle.permit_core.specs.Taking.{TookAll, StoppedIn}
use Rattle.permit_model.specs.Caller.{Party}
use Rattle.permit_model.specs.Opened.{allowed_by}
use Rattle.permit_model.specs.Tables.{FileView}
use Rattle.permit_office.specs.Stops.{routes_for}
use Rattle.permit_office.proofs.ListingSelections.{one_route, one_selection}
use Rattle.permit_office.proofs.Listings.{named}
use Rattle.permit_office.proofs.OneRoute.{own_passed, shown, shown_some, failed_some, opens, stops, handed_at, stops_behind}
use Rattle.permit_office.proofs.showing.hand_files.Goals as goal

pub returns-in-Some-clause-shown : goal.returns-in-Some-clause-shown
returns-in-Some-clause-shown g c = λ doubt h is held.
    let a = c.args in
    let s = g.S.Store.view in
    let made = named a.policy.now a.caller.now _ a.wanted _ _ (ap (λ (p : Party). p.role) c.caller.view_is) c.deref.ensures.value c.in_ok-selections.ensures in
    let own = one_route (allowed_by a.policy.now a.caller.now.role action.List) a.wanted c.in-Some.route (sym made ∙ c.in-Some.ensures.one) in
    shown g.T.Taker.took a.policy.now h a.day a.caller.now a.wanted is own.own own.alone (s a.store.now)
    (s c.pass_on.new.store) a.taker.now c.pass_on.new.taker c.pass_on.result
    (own_passed g.T.Taker.took a.policy.now a.caller.now a.day c.in-Some.route own.own _ _ _ _ _ own.alike c.pass_on.ensures.passed) doubt held

pub returns-in-Some-clause-some : goal.returns-in-Some-clause-some
returns-in-Some-clause-some g c =
    let a = c.args in
    let s = g.S.Store.view in
    shown_some g.T.Taker.took a.policy.now a.caller.now a.day c.in-Some.route (s a.store.now)
    (s c.pass_on.new.store) a.taker.now c.pass_on.new.taker c.pass_on.result c.pass_on.ensures.passed

pub returns-in-Some-clause-opened : goal.returns-in-Some-clause-opened
returns-in-Some-clause-opened g c = λ doubt h is held.
    let a = c.args in
    let s = g.S.Store.view in
    let made = named a.policy.now a.caller.now _ a.wanted _ _ (ap (λ (p : Party). p.role) c.caller.view_is) c.deref.ensures.value c.in_ok-selections.ensures in
    let own = one_route (allowed_by a.policy.now a.caller.now.role action.List) a.wanted c.in-Some.route (sym made ∙ c.in-Some.ensures.one) in
    opens g.T.Taker.took a.policy.now h a.day a.caller.now a.wanted is own.own own.alone (s a.store.now)
    (s c.pass_on.new.store) a.taker.now c.pass_on.new.taker c.pass_on.result
    (own_passed g.T.Taker.took a.policy.now a.caller.now a.day c.in-Some.route own.own _ _ _ _ _ own.alike c.pass_on.ensures.passed) doubt held

pub returns-in-Some-clause-stopped : goal.returns-in-Some-clause-stopped
returns-in-Some-clause-stopped g c = λ doubt h is held.
    let a = c.args in
    let s = g.S.Store.view in
    let made = named a.policy.now a.caller.now _ a.wanted _ _ (ap (λ (p : Party). p.role) c.caller.view_is) c.deref.ensures.value c.in_ok-selections.ensures in
    let own = one_route (allowed_by a.policy.now a.caller.now.role action.List) a.wanted c.in-Some.route (sym made ∙ c.in-Some.ensures.one) in
    stops g.T.Taker.took a.policy.now h a.day a.caller.now a.wanted is own.own own.alone (s a.store.now)
    (s c.pass_on.new.store) a.taker.now c.pass_on.new.taker c.pass_on.result
    (own_passed g.T.Taker.took a.policy.now a.caller.now a.day c.in-Some.route own.own _ _ _ _ _ own.alike c.pass_on.ensures.passed) doubt held

pub returns-in-Some-clause-handed : goal.returns-in-Some-clause-handed
returns-in-Some-clause-handed g c =
    let a = c.args in
    let s = g.S.Store.view in
    handed_at g.T.Taker.took a.policy.now a.caller.now a.day c.in-Some.route (s a.store.now)
    (s c.pass_on.new.store) a.taker.now c.pass_on.new.taker c.pass_on.result c.pass_on.ensures.passed

pub returns-clause-stopped : goal.returns-clause-stopped
returns-clause-stopped g c = λ doubt h is held.
    let a = c.args in
    let s = g.S.Store.view in
    let role = ap (λ (p : Party). p.role) c.caller.view_is in
    let made = named a.policy.now a.caller.now _ a.wanted _ _ role c.deref.ensures.value c.in_ok-selections.ensures in
    let seen = named a.policy.now a.caller.now _ a.wanted _ _ role c.deref-2.ensures.value c.in_ok-selections.ensures in
    stops_behind g.T.Taker.took a.policy.now h a.caller.now a.day a.wanted (routes_for a.policy.now a.caller.now a.wanted) a.taker.now c.hand_out.new.taker
    (s a.store.now).handed (s c.list_selected.new.store).handed
    (λ long.
    let one = one_selection (allowed_by a.policy.now a.caller.now.role action.List) a.wanted long in
    let some = c.in_default.ensures.other one.0 (made ∙ one.1) in cc)
    (c.in-Ok.ensures.opened doubt h is held a.wanted seen).handed

pub returns-then-hand_out-clause-shown : goal.returns-then-hand_out-clause-shown
returns-then-hand_out-clause-shown g c = λ doubt h is held.
    let a = c.args in
    let seen = named a.policy.now a.caller.now _ a.wanted _ _ (ap (λ (p : Party). p.role) c.caller.view_is) c.deref-2.ensures.value c.in_ok-selections.ensures in
    subst (λ (vs : List FileView). TookAll g.T.Taker.took vs a.taker.now c.hand_out.new.taker)
    (c.in-Ok.ensures.files doubt h is held a.wanted seen)
    (rw c.if-hand_out.true at c.hand_out.ensures)

pub returns-then-hand_out-clause-opened : goal.returns-then-hand_out-clause-opened
returns-then-hand_out-clause-opened g c = λ doubt h is held.
    let a = c.args in
    let seen = named a.policy.now a.caller.now _ a.wanted _ _ (ap (λ (p : Party). p.role) c.caller.view_is) c.deref-2.ensures.value c.in_ok-selections.ensures in
    let opens = c.in-Ok.ensures.opened doubt h is held a.wanted seen in
    (opens.told, opens.handed)

pub returns-clause-shown : goal.returns-clause-shown
returns-clause-shown g c = λ doubt h is held.
    let a = c.args in
    let seen = named a.policy.now a.caller.now _ a.wanted _ _ (ap (λ (p : Party). p.role) c.caller.view_is) c.deref-2.ensures.value c.in_ok-selections.ensures in
    subst (λ (vs : List FileView). StoppedIn g.T.Taker.took vs a.taker.now c.hand_out.new.taker)
    (c.in-Ok.ensures.files doubt h is held a.wanted seen)
    (rw c.if-hand_out.false at c.hand_out.ensures)

pub returns-in_default-list_selected-clause-some : goal.returns-in_default-list_selected-clause-some
returns-in_default-list_selected-clause-some g c = failed_some g.T.Taker.took c.args.taker.now (Err _) refl

use Rattle.std.proofs.Common.{ap}
use Rattle.permit_model.specs.Caller.{Party}
use Rattle.permit_office.proofs.Listings.{named}
use Rattle.permit_office.proofs.listing.make_listing.Goals as goal

pub returns-clause-files : goal.returns-clause-files
returns-clause-files g c = λ doubt h is held.
    let a = c.args in
    c.list_selected.ensures.files doubt h is held a.wanted
    (named a.policy.now a.caller.now _ a.wanted _ _ (ap (λ (p : Party). p.role) c.caller.view_is) c.deref.ensures.value c.in_ok-selections.ensures)

pub returns-clause-opened : goal.returns-clause-opened
returns-clause-opened g c = λ doubt h is held.
    let a = c.args in
    c.list_selected.ensures.opened doubt h is held a.wanted
    (named a.policy.now a.caller.now _ a.wanted _ _ (ap (λ (p : Party). p.role) c.caller.view_is) c.deref.ensures.value c.in_ok-selections.ensures)

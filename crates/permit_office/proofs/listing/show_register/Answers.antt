use Rattle.std.proofs.Common.{ap, refl, ◌∙◌, subst}
use Rattle.std.specs.Prelude.{length}
use Rattle.permit_base.specs.declared.request.Filter.{Filter}
use Rattle.permit_model.specs.Listing.{listing}
use Rattle.permit_model.specs.Opened.{opened}
use Rattle.permit_model.specs.Machine.{RegisterShown}
use Rattle.permit_office.specs.Opening.{OpensRows}
use Rattle.permit_office.proofs.listing.show_register.Goals as goal

pub returns-clause-model : goal.returns-clause-model
returns-clause-model g c = λ doubt h is held.
    let a = c.args in
    let files = c.in_ok-listing.ensures.files doubt h is held ∙ ap (λ (w : Filter). listing a.policy.now h a.day a.caller.now w) c.register_filter.ensures in
    (ap (RegisterShown a.kind) files, refl)

pub returns-clause-opened : goal.returns-clause-opened
returns-clause-opened g c = λ doubt h is held.
    let a = c.args in
    subst (λ (w : Filter). OpensRows (length (opened a.policy.now h a.day a.caller.now w)) c.in_ok-listing.listing (g.S.Store.view a.store.now).handed
    (g.S.Store.view c.make_listing.new.store).handed) c.register_filter.ensures
    (c.in_ok-listing.ensures.opened doubt h is held)

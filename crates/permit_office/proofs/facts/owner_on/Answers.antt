use Rattle.std.proofs.Common.{◌≡◌, ap, ◌∙◌}
use Rattle.permit_model.specs.Tables.{State, tables}
use Rattle.permit_office.proofs.facts.owner_on.Goals as goal

pub returns-clause-owner : goal.returns-clause-owner
returns-clause-owner g c = λ doubt h file held s.
    let p : c.parcel.result ≡ file.filing.parcel = c.parcel.ensures ∙ ap (λ (s : State). s.parcel) s in
    rw p at (c.owner.ensures.found doubt (tables h) held)

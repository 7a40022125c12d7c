use Rattle.std.proofs.Common.{◌≡◌, ap, ◌∙◌, sym}
use Rattle.permit_base.specs.declared.request.Request.TheVariants.{AddParcel}
use Rattle.permit_base.specs.declared.words.Action.TheVariants as action
use Rattle.permit_model.specs.Caller.{Party}
use Rattle.permit_model.specs.Facts.{office_facts}
use Rattle.permit_model.specs.Policy.{decision}
use Rattle.permit_office.proofs.Deciding.{denied_outcome, allowed_outcome}
use Rattle.permit_office.proofs.Carrying.{refuses}
use Rattle.permit_office.proofs.parcels.add_parcel.Goals as goal

pub returns-in-Some-clause-model : goal.returns-in-Some-clause-model
returns-in-Some-clause-model g c = λ doubt h is held e t.
    let role = ap (λ (p : Party). p.role) c.caller.view_is in
    let denied = rw (c.office.ensures, role) at (sym c.in-Some.is ∙ c.denial.ensures) in
    let a = c.args in
    rw (denied_outcome a.policy.now h a.day a.caller.now (AddParcel a.lot.now a.address.now a.owner)
    (decision a.policy.now (office_facts a.caller.now.role action.AddParcel)) c.in-Some.name denied)
    (refuses _ _ _ _ c.refused.ensures)

pub returns-clause-model : goal.returns-clause-model
returns-clause-model g c = λ doubt h is held e t.
    let role = ap (λ (p : Party). p.role) c.caller.view_is in
    let a = c.args in
    let allowed = rw (c.office.ensures, role) at (sym c.in_default.is ∙ c.denial.ensures) in
    let caller : c.caller.inside.id ≡ a.caller.now.id = ap (λ (p : Party). p.id) c.caller.view_is in
    let done = c.make_parcel.ensures.model doubt h is held e t in
    rw (allowed_outcome a.policy.now h a.day a.caller.now (AddParcel a.lot.now a.address.now a.owner)
    (decision a.policy.now (office_facts a.caller.now.role action.AddParcel)) allowed)
    (rw caller at done)

pub returns-clause-sound : goal.returns-clause-sound
returns-clause-sound g c = λ doubt t held sound e may.
    let caller : c.caller.inside.id ≡ c.args.caller.now.id = ap (λ (p : Party). p.id) c.caller.view_is in
    c.make_parcel.ensures.sound doubt t held sound e (record { there = rw caller may.there; in_time = may.in_time; early = may.early })

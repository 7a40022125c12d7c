use Rattle.std.proofs.Common.{◌≡◌, ap, ◌∙◌, sym, refl, arith}
use Rattle.permit_base.specs.declared.request.Request.TheVariants.{ReadParcel}
use Rattle.permit_base.specs.declared.words.Stage.TheVariants.{Office}
use Rattle.permit_base.specs.declared.words.Action.TheVariants as action
use Rattle.permit_model.specs.Parcels as Parcels
use Rattle.permit_model.specs.Parcels.{Parcel}
use Rattle.std.specs.Prelude.{Some, option_map}
use Rattle.permit_model.specs.Tables.{tables}
use Rattle.permit_model.specs.Facts.{parcel_facts}
use Rattle.permit_model.specs.Policy.{decision}
use Rattle.permit_office.proofs.Carrying.{refuses}
use Rattle.permit_office.proofs.Deciding.{denied_outcome}
use Rattle.permit_office.proofs.Finding.{parcel_judged, parcel_read}
use Rattle.permit_office.proofs.reading.read_parcel.Goals as goal

pub returns-in-Some-denial-clause-model : goal.returns-in-Some-denial-clause-model
returns-in-Some-denial-clause-model g c = λ doubt h held.
    let late : (g.S.Store.view c.parcel.new.self).doubt ≡ 0 = omega arith in
    let a = c.args in
    let found = sym c.in-Some.is ∙ c.in_ok-land.ensures.found late (tables h) held in
    let kept = c.parcel.ensures.read.kept (tables h) held in
    let there : Parcels.owner h a.parcel ≡ Some c.land.inside.owner = ap (option_map (λ (p : Parcel). p.owner)) (sym found)
    ∙ ap (λ (p : Parcel). Some p.owner) (sym c.land.view_is) in
    let facts = c.in_ok-facts.ensures.facts doubt h kept there in
    let denied = rw facts at (sym c.in-Some-denial.is ∙ c.denial.ensures) in
    rw (parcel_judged a.policy.now h a.day a.caller.now a.parcel c.in-Some.land (sym found)
    ∙ denied_outcome a.policy.now h a.day a.caller.now (ReadParcel a.parcel)
    (decision a.policy.now (parcel_facts h a.caller.now a.parcel Office action.ReadParcel)) c.in-Some-denial.name denied)
    (refuses _ _ _ _ c.refused-in-Some-denial.ensures)

pub returns-clause-model : goal.returns-clause-model
returns-clause-model g c = λ doubt h held.
    let late : (g.S.Store.view c.parcel.new.self).doubt ≡ 0 = omega arith in
    let a = c.args in
    let found = sym c.in-Some.is ∙ c.in_ok-land.ensures.found late (tables h) held in
    let kept = c.parcel.ensures.read.kept (tables h) held in
    let there : Parcels.owner h a.parcel ≡ Some c.land.inside.owner = ap (option_map (λ (p : Parcel). p.owner)) (sym found)
    ∙ ap (λ (p : Parcel). Some p.owner) (sym c.land.view_is) in
    let facts = c.in_ok-facts.ensures.facts doubt h kept there in
    let allowed = rw facts at (sym c.in_default-denial.is ∙ c.denial.ensures) in
    rw (parcel_read a.policy.now h a.day a.caller.now a.parcel c.in-Some.land (sym found) allowed)
    (refl, refl)

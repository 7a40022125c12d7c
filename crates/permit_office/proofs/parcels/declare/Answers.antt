use Rattle.std.proofs.Common.{◌≡◌, ◌==◌, ap, ◌∙◌, sym, arith}
use Rattle.std.specs.Prelude.{find}
use Rattle.permit_base.specs.declared.request.Request.TheVariants.{Declare}
use Rattle.permit_base.specs.declared.words.Stage.TheVariants.{Office}
use Rattle.permit_base.specs.declared.words.Action.TheVariants as action
use Rattle.permit_model.specs.Caller.{Party}
use Rattle.permit_model.specs.Parcels.{Parcel}
use Rattle.permit_model.specs.Tables.{tables}
use Rattle.permit_model.specs.Facts.{Facts, parcel_facts}
use Rattle.permit_model.specs.Policy.{decision}
use Rattle.permit_office.proofs.Deciding.{denied_outcome, allowed_outcome}
use Rattle.permit_office.proofs.Finding.{parcel_owned, declare_judged}
use Rattle.permit_office.proofs.SoundChanges.{owned_there}
use Rattle.permit_office.proofs.Carrying.{refuses}
use Rattle.permit_office.proofs.parcels.declare.Goals as goal

pub returns-in-Some-denial-clause-model : goal.returns-in-Some-denial-clause-model
returns-in-Some-denial-clause-model g c = λ doubt h held t party.
    let late : (g.S.Store.view c.owner.new.self).doubt ≡ 0 = omega arith in
    let a = c.args in
    let found = sym c.in-Some.is ∙ c.in_ok-owner.ensures.found late (tables h) held in
    let owned = parcel_owned h a.parcel c.in-Some.owner found in
    let kept = c.owner.ensures.read.kept (tables h) held in
    let facts = c.in_ok-facts.ensures.facts doubt h kept (sym found) in
    let denied = rw facts at (sym c.in-Some-denial.is ∙ c.denial.ensures) in
    rw (declare_judged a.policy.now h a.day a.caller.now a.parcel owned.land owned.found
    ∙ denied_outcome a.policy.now h a.day a.caller.now (Declare a.parcel)
    (decision a.policy.now (parcel_facts h a.caller.now a.parcel Office action.Declare)) c.in-Some-denial.name denied)
    (refuses _ _ _ _ c.refused-in-Some-denial.ensures)

pub returns-clause-model : goal.returns-clause-model
returns-clause-model g c = λ doubt h held t party.
    let late : (g.S.Store.view c.owner.new.self).doubt ≡ 0 = omega arith in
    let later : (g.S.Store.view c.facts_on_parcel.new.store).doubt ≡ 0 = omega arith in
    let a = c.args in
    let found = sym c.in-Some.is ∙ c.in_ok-owner.ensures.found late (tables h) held in
    let owned = parcel_owned h a.parcel c.in-Some.owner found in
    let kept = c.owner.ensures.read.kept (tables h) held in
    let facts = c.in_ok-facts.ensures.facts later h kept (sym found) in
    let allowed = rw facts at (sym c.in_default-denial.is ∙ c.denial.ensures) in
    let kept_2 = c.facts_on_parcel.ensures.read.kept (tables h) kept in
    let caller = ap (λ (p : Party). p.id) c.caller.view_is in
    let conflict = ap (λ (f : Facts). f.relations.conflict) (c.facts.view_is ∙ facts) in
    let done = c.make_interest.ensures.model doubt h kept_2 owned.land owned.found (rw (sym caller) at conflict) t (rw caller party) in
    rw (declare_judged a.policy.now h a.day a.caller.now a.parcel owned.land owned.found
    ∙ allowed_outcome a.policy.now h a.day a.caller.now (Declare a.parcel)
    (decision a.policy.now (parcel_facts h a.caller.now a.parcel Office action.Declare)) allowed)
    (rw caller at done)

pub returns-clause-sound : goal.returns-clause-sound
returns-clause-sound g c = λ doubt t held sound may.
    let late : (g.S.Store.view c.owner.new.self).doubt ≡ 0 = omega arith in
    let later : (g.S.Store.view c.facts_on_parcel.new.store).doubt ≡ 0 = omega arith in
    let a = c.args in
    let placed = owned_there (find (λ (p : Parcel). p.id == a.parcel) t.parcels) c.in-Some.owner
    (sym c.in-Some.is ∙ c.in_ok-owner.ensures.found late t held) in
    let kept = c.owner.ensures.read.kept t held in
    let caller = ap (λ (p : Party). p.id) c.caller.view_is in
    let conflict = ap (λ (f : Facts). f.relations.conflict) c.facts.view_is ∙ c.in_ok-facts.ensures.conflict later t kept in
    c.make_interest.ensures.sound doubt t (c.facts_on_parcel.ensures.read.kept t kept) placed (rw (sym caller) at conflict) sound
    (record { there = rw caller may.there; in_time = may.in_time; early = may.early })

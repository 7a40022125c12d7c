use Rattle.std.proofs.Common.{◌≡◌, ◌==◌, ◌∙◌, sym, arith}
use Rattle.std.specs.Prelude.{find}
use Rattle.permit_base.specs.declared.request.Request.TheVariants.{Declare}
use Rattle.permit_model.specs.Parcels.{Parcel}
use Rattle.permit_model.specs.Tables.{tables}
use Rattle.permit_office.proofs.Finding.{parcel_owned}
use Rattle.permit_office.proofs.SoundChanges.{owned_there}
use Rattle.permit_office.proofs.Unjudged.{parcel_missing, parcel_there}
use Rattle.permit_office.proofs.Carrying.{refuses}
use Rattle.permit_office.proofs.accepting.accept_declaration.Goals as goal

pub returns-in_default-clause-model : goal.returns-in_default-clause-model
returns-in_default-clause-model g c = λ doubt h is held t party.
    let a = c.args in
    let none = sym c.in_default.is ∙ c.in_ok-_owner.ensures.found doubt (tables h) held in
    rw (parcel_missing h a.day a.caller a.parcel (Declare a.parcel) none) (refuses _ _ _ _ c.refused.ensures)

pub returns-clause-model : goal.returns-clause-model
returns-clause-model g c = λ doubt h is held t party.
    let late : (g.S.Store.view c.owner.new.self).doubt ≡ 0 = omega arith in
    let later : (g.S.Store.view c.interest.new.self).doubt ≡ 0 = omega arith in
    let a = c.args in
    let found = sym c.in-Some.is ∙ c.in_ok-_owner.ensures.found late (tables h) held in
    let owned = parcel_owned h a.parcel c.in-Some._owner found in
    let kept = c.owner.ensures.read.kept (tables h) held in
    rw (parcel_there h a.day a.caller a.parcel (Declare a.parcel) owned.land owned.found)
    (c.make_interest.ensures.model doubt h (c.interest.ensures.read.kept (tables h) kept) owned.land owned.found
    (c.in_ok-has_interest.ensures.found later (tables h) kept) t party)

pub returns-clause-sound : goal.returns-clause-sound
returns-clause-sound g c = λ doubt t held sound may.
    let late : (g.S.Store.view c.owner.new.self).doubt ≡ 0 = omega arith in
    let later : (g.S.Store.view c.interest.new.self).doubt ≡ 0 = omega arith in
    let a = c.args in
    let placed = owned_there (find (λ (p : Parcel). p.id == a.parcel) t.parcels) c.in-Some._owner
    (sym c.in-Some.is ∙ c.in_ok-_owner.ensures.found late t held) in
    let kept = c.owner.ensures.read.kept t held in
    c.make_interest.ensures.sound doubt t (c.interest.ensures.read.kept t kept) placed (c.in_ok-has_interest.ensures.found later t kept) sound may

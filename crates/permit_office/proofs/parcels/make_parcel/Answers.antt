use Rattle.std.proofs.Common.{◌+◌, ap, ◌∙◌, sym}
use Rattle.std.specs.Prelude.{Some, nat_lt}
use Rattle.std.proofs.lemmas.Bool.{ltb-true, and_parts}
use Rattle.permit_base.specs.Limits.{most_records}
use Rattle.permit_model.specs.Sound.{has_party}
use Rattle.permit_base.specs.declared.request.Request.TheVariants.{AddParcel}
use Rattle.permit_model.specs.Tables.{Desk}
use Rattle.permit_model.specs.Machine.{entry_of}
use Rattle.permit_office.specs.Answers.{reason_in}
use Rattle.permit_office.proofs.Carrying.{admitted, not_admitted}
use Rattle.permit_office.proofs.Deciding.{parcel_suits, number_is}
use Rattle.permit_office.proofs.Tables.{parcel_more}
use Rattle.permit_office.proofs.SoundChanges.{on_ok, parcel_sound}
use Rattle.permit_office.proofs.parcels.make_parcel.Goals as goal

pub returns-in-Err-clause-model : goal.returns-in-Err-clause-model
returns-in-Err-clause-model g c = λ doubt h is held e t.
    let a = c.args in
    let reason = c.in_ok-number.ensures.reason doubt h a.day a.caller a.address.now held e in
    not_admitted a.day h (entry_of h a.day a.caller (AddParcel a.lot.now a.address.now a.owner)) c.in-Err.reason _ (sym (ap reason_in c.in-Err.is) ∙ reason) _
    c.refused.ensures

pub returns-clause-model : goal.returns-clause-model
returns-clause-model g c = λ doubt h is held e t.
    let a = c.args in
    let none = sym (ap reason_in c.in-Ok.is) ∙ c.in_ok-number.ensures.reason doubt h a.day a.caller a.address.now held e in
    let count = ap (λ (d : Desk). Some (d.parcels + 1)) e in
    admitted a.day h (entry_of h a.day a.caller (AddParcel a.lot.now a.address.now a.owner)) a.caller c.in-Ok.number _ _ none
    (number_is _ c.in-Ok.number _ c.in_ok-number.ensures.number c.in-Ok.is ∙ count)
    (record { suits = parcel_suits h a.day a.caller a.lot.now a.address.now a.owner (sym none); in_time = t })
    (parcel_more h a.day a.caller a.lot.now a.address.now a.owner is)

pub returns-clause-sound : goal.returns-clause-sound
returns-clause-sound g c = λ doubt t held sound e may.
    let a = c.args in
    let fits = on_ok _ _ c.in-Ok.number c.in-Ok.is (c.in_ok-number.ensures.suits doubt t held e) in
    let owner = and_parts _ (has_party t a.owner) fits in (
      record { suits = fits; in_time = may.in_time },
      parcel_sound t a.day a.lot.now a.address.now a.owner sound may.in_time may.early
          (ltb-true t.desk.parcels most_records (and_parts (nat_lt t.desk.parcels most_records) _ owner.0).0) c.parcel_within.ensures.lot
          c.parcel_within.ensures.address owner.1,
    )

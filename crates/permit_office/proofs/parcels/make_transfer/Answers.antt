use Rattle.std.proofs.Common.{ap, ◌∙◌, sym}
use Rattle.std.proofs.lemmas.Bool.{and_from}
use Rattle.permit_base.specs.declared.request.Request.TheVariants.{Transfer}
use Rattle.permit_model.specs.Machine.{entry_of}
use Rattle.permit_office.specs.Answers.{reason_in}
use Rattle.permit_office.proofs.Carrying.{admitted, not_admitted}
use Rattle.permit_office.proofs.Deciding.{transfer_suits, number_is}
use Rattle.permit_office.proofs.Finding.{parcel_owned}
use Rattle.permit_office.proofs.Tables.{transfer_more}
use Rattle.permit_office.proofs.SoundChanges.{on_ok, owner_sound}
use Rattle.permit_office.proofs.parcels.make_transfer.Goals as goal

pub returns-in-Err-clause-model : goal.returns-in-Err-clause-model
returns-in-Err-clause-model g c = λ doubt h held owner t.
    let a = c.args in
    let reason = c.in_ok-number.ensures.reason doubt h a.day a.caller held owner in
    not_admitted a.day h (entry_of h a.day a.caller (Transfer a.parcel a.to)) c.in-Err.reason _ (sym (ap reason_in c.in-Err.is) ∙ reason) _ c.refused.ensures

pub returns-clause-model : goal.returns-clause-model
returns-clause-model g c = λ doubt h held owner t.
    let a = c.args in
    let owned = parcel_owned h a.parcel a.owner (sym owner) in
    let none = sym (ap reason_in c.in-Ok.is) ∙ c.in_ok-number.ensures.reason doubt h a.day a.caller held owner in
    admitted a.day h (entry_of h a.day a.caller (Transfer a.parcel a.to)) a.caller c.in-Ok.number _ _ none
    (number_is _ c.in-Ok.number _ c.in_ok-number.ensures.number c.in-Ok.is)
    (record { suits = transfer_suits h a.day a.caller a.parcel a.to owned.land owned.found (sym none); in_time = t })
    (transfer_more h a.day a.caller a.parcel a.to)

pub returns-clause-sound : goal.returns-clause-sound
returns-clause-sound g c = λ doubt t held placed sound may.
    let a = c.args in
    let there = on_ok _ _ c.in-Ok.number c.in-Ok.is (c.in_ok-number.ensures.receiver doubt t held) in (
      record { suits = and_from _ _ placed there; in_time = may.in_time },
      owner_sound t a.day a.parcel a.to sound may.in_time may.early there,
    )

use Rattle.std.proofs.Common.{◌∷◌, [], not, ap, ◌∙◌, sym}
use Rattle.std.proofs.lemmas.Bool.{and_from}
use Rattle.permit_base.specs.declared.request.Request.TheVariants.{Declare}
use Rattle.permit_model.specs.Admission.{first_failing}
use Rattle.permit_base.specs.declared.refusal.Reason.TheVariants.{Taken}
use Rattle.permit_model.specs.Machine.{entry_of}
use Rattle.permit_office.specs.Answers.{reason_in}
use Rattle.permit_office.proofs.Carrying.{admitted, not_admitted}
use Rattle.permit_office.proofs.Deciding.{interest_suits, one_pass, number_is}
use Rattle.permit_office.proofs.Tables.{interest_more}
use Rattle.permit_office.proofs.SoundChanges.{interest_sound}
use Rattle.permit_office.proofs.parcels.make_interest.Goals as goal

pub returns-in-Err-clause-model : goal.returns-in-Err-clause-model
returns-in-Err-clause-model g c = λ doubt h held land found conflict t party.
    let a = c.args in
    let reason = c.admit_declaration.ensures.reason ∙ ap (λ b. first_failing ((b, Taken) ∷ [])) conflict in
    not_admitted a.day h (entry_of h a.day a.party (Declare a.parcel)) c.in-Err.reason _ (sym (ap reason_in c.in-Err.is) ∙ reason) _ c.refused.ensures

pub returns-clause-model : goal.returns-clause-model
returns-clause-model g c = λ doubt h held land found conflict t party.
    let a = c.args in
    let reason = c.admit_declaration.ensures.reason ∙ ap (λ b. first_failing ((b, Taken) ∷ [])) conflict in
    let none = sym (ap reason_in c.in-Ok.is) ∙ reason in
    admitted a.day h (entry_of h a.day a.party (Declare a.parcel)) a.party c.in-Ok.number _ _ none
    (number_is _ c.in-Ok.number _ c.admit_declaration.ensures.number c.in-Ok.is)
    (record { suits = interest_suits h a.day a.party a.parcel land found party (sym none); in_time = t })
    (interest_more h a.day a.party a.parcel)

pub returns-clause-sound : goal.returns-clause-sound
returns-clause-sound g c = λ doubt t held placed conflict sound may.
    let a = c.args in
    let free = one_pass _ Taken (sym c.admit_declaration.ensures.reason ∙ ap reason_in c.in-Ok.is) in
    let suits = and_from _ _ (and_from _ _ placed may.there) (ap not (sym conflict ∙ free)) in (
      record { suits = suits; in_time = may.in_time },
      interest_sound t a.day a.parcel a.party sound may.in_time may.early placed may.there,
    )

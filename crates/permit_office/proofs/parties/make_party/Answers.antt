use Rattle.std.proofs.Common.{◌+◌, ap, ◌∙◌, sym}
use Rattle.permit_base.specs.declared.request.Request.TheVariants.{AddParty}
use Rattle.std.specs.Prelude.{Some, nat_lt}
use Rattle.std.proofs.lemmas.Bool.{ltb-true, and_parts}
use Rattle.permit_base.specs.Limits.{most_records}
use Rattle.permit_model.specs.Tables.{Desk}
use Rattle.permit_model.specs.Machine.{entry_of}
use Rattle.permit_office.specs.Answers.{reason_in}
use Rattle.permit_office.proofs.Carrying.{admitted, not_admitted}
use Rattle.permit_office.proofs.Deciding.{party_suits, number_is}
use Rattle.permit_office.proofs.Tables.{party_more}
use Rattle.permit_office.proofs.SoundChanges.{on_ok, party_sound}
use Rattle.permit_office.proofs.parties.make_party.Goals as goal

pub returns-in-Err-clause-model : goal.returns-in-Err-clause-model
returns-in-Err-clause-model g c = λ doubt h is held token digest e t.
    let a = c.args in
    let reason = c.in_ok-number.ensures.reason doubt h a.day a.caller a.name.now a.role token held e digest in
    not_admitted a.day h (entry_of h a.day a.caller (AddParty a.name.now a.role token)) c.in-Err.reason _ (sym (ap reason_in c.in-Err.is) ∙ reason) _
    c.refused.ensures

pub returns-clause-model : goal.returns-clause-model
returns-clause-model g c = λ doubt h is held token digest e t.
    let a = c.args in
    let reason = c.in_ok-number.ensures.reason doubt h a.day a.caller a.name.now a.role token held e digest in
    let none = sym (ap reason_in c.in-Ok.is) ∙ reason in
    let count = ap (λ (d : Desk). Some (d.parties + 1)) e in
    admitted a.day h (entry_of h a.day a.caller (AddParty a.name.now a.role token)) a.caller c.in-Ok.number _ _ none
    (number_is _ c.in-Ok.number _ c.in_ok-number.ensures.number c.in-Ok.is ∙ count)
    (record { suits = party_suits h a.day a.caller a.name.now a.role token _ digest (sym none); in_time = t })
    (party_more h a.day a.caller a.name.now a.role token _ digest)

pub returns-clause-sound : goal.returns-clause-sound
returns-clause-sound g c = λ doubt t held sound e may.
    let a = c.args in
    let fits = on_ok _ _ c.in-Ok.number c.in-Ok.is (c.in_ok-number.ensures.suits doubt t held e) in (
      record { suits = fits; in_time = may.in_time },
      party_sound t a.day a.name.now a.role _ sound may.in_time may.early
          (ltb-true t.desk.parties most_records (and_parts (nat_lt t.desk.parties most_records) _ fits).0) c.party_within.ensures.name
          c.party_within.ensures.digest,
    )

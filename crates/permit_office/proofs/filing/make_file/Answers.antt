use Rattle.std.proofs.Common.{◌≡◌, ◌<◌, ◌+◌, length, ap, ◌∙◌, sym, refl, arith}
use Rattle.std.proofs.lemmas.Bool.{leb-false, lt-ltb, and_from}
use Rattle.permit_base.specs.Limits.{most_records}
use Rattle.permit_base.specs.declared.refusal.Reason.TheVariants.{Full}
use Rattle.permit_base.specs.declared.request.Request.TheVariants.{File}
use Rattle.std.specs.Prelude.{Some, nat_le}
use Rattle.std.proofs.lemmas.List.{length-map}
use Rattle.permit_model.specs.History.{edition}
use Rattle.permit_model.specs.Files.{filings, case_file}
use Rattle.permit_model.specs.Tables.{Desk}
use Rattle.permit_model.specs.Machine.{entry_of}
use Rattle.permit_office.specs.Answers.{reason_in}
use Rattle.permit_office.proofs.Carrying.{admitted, not_admitted}
use Rattle.permit_office.proofs.Deciding.{file_suits, one_pass, edition_itself, number_is}
use Rattle.permit_office.proofs.Tables.{file_more}
use Rattle.permit_office.proofs.SoundChanges.{file_sound}
use Rattle.permit_office.proofs.filing.make_file.Goals as goal

pub returns-in-Err-clause-model : goal.returns-in-Err-clause-model
returns-in-Err-clause-model g c = λ doubt h is held land found e t party.
    let a = c.args in
    let count : c.desk.inside.files ≡ length (filings h) = ap (λ (d : Desk). d.files) (c.desk.view_is ∙ e) ∙ length-map (filings h) (case_file h) in
    let reason = rw count at c.next_number.ensures.reason in
    not_admitted a.day h (entry_of h a.day a.caller (File a.parcel a.kind a.valuation a.description.now)) c.in-Err.reason _
    (sym (ap reason_in c.in-Err.is) ∙ reason) _ c.refused.ensures

pub returns-clause-model : goal.returns-clause-model
returns-clause-model g c = λ doubt h is held land found e t party.
    let a = c.args in
    let count : c.desk.inside.files ≡ length (filings h) = ap (λ (d : Desk). d.files) (c.desk.view_is ∙ e) ∙ length-map (filings h) (case_file h) in
    let reason = rw count at c.next_number.ensures.reason in
    let none = sym (ap reason_in c.in-Ok.is) ∙ reason in
    let now : c.desk.inside.edition ≡ edition h = ap (λ (d : Desk). d.edition) (c.desk.view_is ∙ e) in
    let state = rw now at (c.file-state.ensures.row (length (filings h) + 1) a.valuation a.description.now) in
    let suits = file_suits h a.day a.caller a.parcel a.kind a.valuation a.description.now land found party (sym none) in
    admitted a.day h (entry_of h a.day a.caller (File a.parcel a.kind a.valuation a.description.now)) a.caller c.in-Ok.number _ _ none
    (number_is _ c.in-Ok.number _ c.next_number.ensures.number c.in-Ok.is ∙ ap (λ m. Some (m + 1)) count)
    (record { suits = rw state suits; in_time = t })
    (rw state (file_more h a.day a.caller a.parcel a.kind a.valuation a.description.now is))

pub returns-clause-sound : goal.returns-clause-sound
returns-clause-sound g c = λ doubt t held placed sound e may.
    let a = c.args in
    let count : c.desk.inside.files ≡ t.desk.files = ap (λ (d : Desk). d.files) (c.desk.view_is ∙ e) in
    let now : c.desk.inside.edition ≡ t.desk.edition = ap (λ (d : Desk). d.edition) (c.desk.view_is ∙ e) in
    let state = rw now at (c.file-state.ensures.row (t.desk.files + 1) a.valuation a.description.now) in
    let free = one_pass (nat_le most_records c.desk.inside.files) Full (sym c.next_number.ensures.reason ∙ ap reason_in c.in-Ok.is) in
    let room : t.desk.files < most_records = omega (arith, leb-false most_records c.desk.inside.files free, count) in
    let suits = and_from _ _ (and_from _ _ (and_from _ _ (lt-ltb t.desk.files most_records room) (edition_itself t.desk.edition)) placed) may.there in (
      record { suits = rw state suits; in_time = may.in_time },
      rw state (file_sound t a.day a.caller a.parcel a.kind t.desk.edition a.valuation a.description.now sound may.in_time may.early room refl placed
          may.there c.filing_within.ensures.valuation c.filing_within.ensures.description),
    )

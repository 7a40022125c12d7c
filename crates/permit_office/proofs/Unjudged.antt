-- What comes of a command that no policy judges, where its record is there and where it isn't.
use Rattle.std.proofs.Common.{◌≡◌, ◌≤◌, ℕ, true, false, refl, sym, ◌∙◌, ap}
use Rattle.std.specs.Prelude.{Option, None, Some, option_map, is_some}
use Rattle.std.proofs.lemmas.Bool.{le-ltb}
use Rattle.permit_base.specs.declared.refusal.Refusal.TheVariants as refusal
use Rattle.permit_base.specs.declared.request.Request.{Request}
use Rattle.permit_model.specs.History.{History, last_day}
use Rattle.permit_model.specs.Caller.{is_party}
use Rattle.permit_model.specs.Parcels as Parcels
use Rattle.permit_model.specs.Parcels.{Parcel, parcel_numbered}
use Rattle.permit_model.specs.Files.{CaseFile, case_numbered}
use Rattle.permit_model.specs.Tables.{FileRow, file_row}
use Rattle.permit_model.specs.Machine.{refused, outcome_of_command}
use Rattle.permit_office.specs.Accepting.{outcome_if_there, outcome_on_record, outcome_in_time, outcome_of_party, outcome_unjudged}
use Rattle.permit_office.proofs.Finding.{row_state_in, rows_found}

-- ---- a parcel

unowned : (o : Option Parcel) → None ≡ option_map (λ (p : Parcel). p.owner) o → is_some o ≡ false
unowned None e = refl
unowned (Some land) e = cc

pub parcel_missing : (h : History) (day caller parcel : ℕ) (asked : Request) → None ≡ Parcels.owner h parcel →
    outcome_if_there h day caller asked (is_some (parcel_numbered h parcel)) ≡ refused h refusal.Record
parcel_missing h day caller parcel asked none = ap (outcome_if_there h day caller asked) (unowned (parcel_numbered h parcel) none)

pub parcel_there : (h : History) (day caller parcel : ℕ) (asked : Request) (land : Parcel) → parcel_numbered h parcel ≡ Some land →
    outcome_if_there h day caller asked (is_some (parcel_numbered h parcel)) ≡ outcome_of_command h day caller asked
parcel_there h day caller parcel asked land found = ap (λ o. outcome_if_there h day caller asked (is_some o)) found

-- ---- a file

stateless : (o : Option CaseFile) → None ≡ option_map (λ (r : FileRow). r.state) (option_map file_row o) → is_some o ≡ false
stateless None e = refl
stateless (Some file) e = cc

pub file_missing : (h : History) (day caller file : ℕ) (asked : Request) → None ≡ row_state_in h file →
    outcome_if_there h day caller asked (is_some (case_numbered h file)) ≡ refused h refusal.Record
file_missing h day caller file asked none =
    ap (outcome_if_there h day caller asked)
    (stateless (case_numbered h file) (none ∙ ap (option_map (λ (r : FileRow). r.state)) (rows_found h file)))

pub file_there : (h : History) (day caller file : ℕ) (asked : Request) (one : CaseFile) → case_numbered h file ≡ Some one →
    outcome_if_there h day caller asked (is_some (case_numbered h file)) ≡ outcome_of_command h day caller asked
file_there h day caller file asked one found = ap (λ o. outcome_if_there h day caller asked (is_some o)) found

-- ---- the caller and the day

pub known_in_time : (h : History) (day caller : ℕ) (asked : Request) → true ≡ is_party h caller → last_day h ≤ day
    → outcome_unjudged h day caller asked ≡ outcome_on_record h day caller asked
known_in_time h day caller asked known time =
    ap (outcome_of_party h day caller asked) (sym known) ∙ ap (outcome_in_time h day caller asked) (le-ltb day (last_day h) time)

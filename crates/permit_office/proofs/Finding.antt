-- What a record that is found, or isn't, makes of the outcome.
use Rattle.std.proofs.Common.{◌≡◌, ℕ, ◌==◌, Bool, true, false, cond, List, [], ◌∷◌, refl, sym, ◌∙◌, ap}
use Rattle.std.specs.Prelude.{Option, None, Some, find, option_map, filter, unwrap_or}
use Rattle.std.proofs.lemmas.Bool.{eqb-true}
use Rattle.permit_base.specs.declared.words.Kind.{Kind}
use Rattle.permit_base.specs.declared.words.Stage.TheVariants.{New, Office}
use Rattle.permit_base.specs.declared.words.Action.TheVariants as action
use Rattle.permit_base.specs.declared.refusal.Refusal.TheVariants as refusal
use Rattle.permit_base.specs.declared.request.Request.TheVariants.{File, ReadFile, ReadParcel, Declare, Transfer, OnFile}
use Rattle.permit_base.specs.declared.request.Command.{Command}
use Rattle.permit_base.specs.Actions.{command_action}
use Rattle.permit_base.specs.declared.words.Stage.{Stage}
use Rattle.permit_base.specs.declared.words.Timing.{Timing}
use Rattle.permit_core.specs.Views.{row_stage, row_timing}
use Rattle.permit_model.specs.History.{History}
use Rattle.permit_model.specs.Caller.{Party}
use Rattle.permit_model.specs.Parcels as Parcels
use Rattle.permit_model.specs.Parcels.{Parcel, parcel_numbered}
use Rattle.permit_model.specs.Files.{Filing, CaseFile, filings, case_file, case_files, case_numbered}
use Rattle.permit_model.specs.Facts.{parcel_facts, file_facts}
use Rattle.permit_model.specs.Policy.{Policy, decision}
use Rattle.permit_model.specs.Tables.{Paper, State, FileRow, file_row, state_of, file_view, papers_of, tables}
use Rattle.permit_model.specs.Machine.{FileShown, ParcelShown, shown_parcel, outcome_by_decision, outcome_by_facts, outcome_by_request, refused, unchanged}
use Rattle.permit_model.specs.Machine.{shown_file}
use Rattle.permit_policy.specs.Denial.{denied}
use Rattle.permit_model.proofs.Lists.{find_mapped}
use Rattle.permit_office.proofs.Deciding.{allowed_outcome}

found_number_by : {A : Type 0} (id : A → ℕ) (k : ℕ) (x y : A) (rest : Option A) (b : Bool) → (id x == k) ≡ b → cond b (Some x) rest ≡ Some y →
    (rest ≡ Some y → id y ≡ k) → id y ≡ k
found_number_by id k x y rest true e found ih = let same : x ≡ y = ap (λ o. unwrap_or o x) found in ap id (sym same) ∙ eqb-true (id x) k e
found_number_by id k x y rest false e found ih = ih found

-- what is found by a number has it
pub found_number : {A : Type 0} (id : A → ℕ) (k : ℕ) (xs : List A) (y : A) → find (λ x. id x == k) xs ≡ Some y → id y ≡ k
found_number id k [] y found = cc
found_number id k (x ∷ xs) y found = found_number_by id k x y (find (λ z. id z == k) xs) (id x == k) refl found (found_number id k xs y)

-- a parcel whose owner is found
pub record IsOwned (h : History) (id : ℕ) : Type 0 where
  pub land : Parcel
  pub found : parcel_numbered h id ≡ Some land

owned_by : (h : History) (id owner : ℕ) (o : Option Parcel) → parcel_numbered h id ≡ o → Some owner ≡ option_map (λ (p : Parcel). p.owner) o → IsOwned h id
owned_by h id owner None e found = cc
owned_by h id owner (Some land) e found = record { land = land; found = e }

pub parcel_owned : (h : History) (id owner : ℕ) → Some owner ≡ Parcels.owner h id → IsOwned h id
parcel_owned h id owner found = owned_by h id owner (parcel_numbered h id) refl found

ownerless : (h : History) (id : ℕ) (o : Option Parcel) → parcel_numbered h id ≡ o → None ≡ option_map (λ (p : Parcel). p.owner) o → parcel_numbered h id ≡ None
ownerless h id None e found = e
ownerless h id (Some land) e found = cc

-- the filing's parcel isn't there
pub file_unplaced : (policy : Policy) (h : History) (day : ℕ) (caller : Party) (parcel : ℕ) (kind : Kind) (valuation : ℕ) (description : List ℕ) →
    None ≡ Parcels.owner h parcel →
    outcome_by_request policy h day caller (File parcel kind valuation description) ≡ refused h refusal.Record
file_unplaced policy h day caller parcel kind valuation description none =
    ap (λ (o : Option Parcel). outcome_by_facts policy h day caller (File parcel kind valuation description)
    (option_map (λ (p : Parcel). parcel_facts h caller parcel New action.File) o)) (ownerless h parcel (parcel_numbered h parcel) refl none)

-- the filing's parcel is there
pub file_judged : (policy : Policy) (h : History) (day : ℕ) (caller : Party) (parcel : ℕ) (kind : Kind) (valuation : ℕ) (description : List ℕ) (land : Parcel) →
    parcel_numbered h parcel ≡ Some land →
    outcome_by_request policy h day caller (File parcel kind valuation description)
    ≡ outcome_by_decision policy h day caller (File parcel kind valuation description) (decision policy (parcel_facts h caller parcel New action.File))
file_judged policy h day caller parcel kind valuation description land found =
    ap (λ (o : Option Parcel). outcome_by_facts policy h day caller (File parcel kind valuation description)
    (option_map (λ (p : Parcel). parcel_facts h caller parcel New action.File) o)) found

-- ---- files

-- a file found, with its filing
pub record IsFound (h : History) (id : ℕ) (row : FileRow) : Type 0 where
  pub filing : Filing
  pub found : case_numbered h id ≡ Some (case_file h filing)
  pub row_is : row ≡ file_row (case_file h filing)
  pub named : filing.id ≡ id

pub rows_found : (h : History) (id : ℕ) → find (λ (r : FileRow). r.id == id) (tables h).files ≡ option_map file_row (case_numbered h id)
rows_found h id =
    find_mapped file_row (λ (f : CaseFile). f.filing.id == id) (λ (r : FileRow). r.id == id) (λ f. refl) (case_files h)
    ∙ ap (option_map file_row) (find_mapped (case_file h) (λ (f : Filing). f.id == id) (λ (f : CaseFile). f.filing.id == id) (λ f. refl) (filings h))

found_by : (h : History) (id : ℕ) (row : FileRow) (o : Option Filing) → find (λ (f : Filing). f.id == id) (filings h) ≡ o →
    Some row ≡ option_map file_row (option_map (case_file h) o) → IsFound h id row
found_by h id row None e found = cc
found_by h id row (Some filing) e found = record {
  filing = filing;
  found = ap (option_map (case_file h)) e;
  row_is = ap (λ o. unwrap_or o row) found;
  named = found_number (λ (f : Filing). f.id) id (filings h) filing e;
}

pub file_found : (h : History) (id : ℕ) (row : FileRow) → Some row ≡ find (λ (r : FileRow). r.id == id) (tables h).files → IsFound h id row
file_found h id row found =
    let o = find (λ (f : Filing). f.id == id) (filings h) in
    found_by h id row (find (λ (f : Filing). f.id == id) (filings h)) refl (found ∙ rows_found h id)

-- the state of a file's row
abbrev pub row_state_in : History → ℕ → Option State
row_state_in h id = option_map (λ (r : FileRow). r.state) (find (λ (r : FileRow). r.id == id) (tables h).files)

-- a file whose row's state is found
pub record IsStateOf (h : History) (id : ℕ) (state : State) : Type 0 where
  pub file : CaseFile
  pub found : case_numbered h id ≡ Some file
  pub state_is : state ≡ state_of file

state_by : (h : History) (id : ℕ) (state : State) (o : Option CaseFile) → case_numbered h id ≡ o →
    Some state ≡ option_map (λ (r : FileRow). r.state) (option_map file_row o) → IsStateOf h id state
state_by h id state None e found = cc
state_by h id state (Some file) e found = record { file = file; found = e; state_is = ap (λ o. unwrap_or o state) found }

pub state_found : (h : History) (id : ℕ) (state : State) → Some state ≡ row_state_in h id → IsStateOf h id state
state_found h id state found =
    state_by h id state (case_numbered h id) refl (found ∙ ap (option_map (λ (r : FileRow). r.state)) (rows_found h id))

missing_by : (o : Option CaseFile) → None ≡ option_map file_row o → o ≡ None
missing_by None e = refl
missing_by (Some f) e = cc

stateless_by : (o : Option CaseFile) → None ≡ option_map (λ (r : FileRow). r.state) (option_map file_row o) → o ≡ None
stateless_by None e = refl
stateless_by (Some f) e = cc

pub read_missing : (policy : Policy) (h : History) (day : ℕ) (caller : Party) (id : ℕ) → None ≡ find (λ (r : FileRow). r.id == id) (tables h).files →
    outcome_by_request policy h day caller (ReadFile id) ≡ refused h refusal.Record
read_missing policy h day caller id none =
    ap (λ (o : Option CaseFile). outcome_by_facts policy h day caller (ReadFile id) (option_map (λ file. file_facts h day caller file action.Read) o))
    (missing_by (case_numbered h id) (none ∙ rows_found h id))

pub read_judged : (policy : Policy) (h : History) (day : ℕ) (caller : Party) (id : ℕ) (file : CaseFile) → case_numbered h id ≡ Some file →
    outcome_by_request policy h day caller (ReadFile id) ≡ outcome_by_decision policy h day caller (ReadFile id)
    (decision policy (file_facts h day caller file action.Read))
read_judged policy h day caller id file found =
    ap (λ (o : Option CaseFile). outcome_by_facts policy h day caller (ReadFile id) (option_map (λ f. file_facts h day caller f action.Read) o)) found

pub read_shown : (policy : Policy) (h : History) (day : ℕ) (caller : Party) (id : ℕ) (file : CaseFile) → case_numbered h id ≡ Some file →
    None ≡ denied (decision policy (file_facts h day caller file action.Read)) →
    outcome_by_request policy h day caller (ReadFile id) ≡ unchanged h (FileShown (file_view day file) (papers_of h file.filing.id))
read_shown policy h day caller id file found allowed =
    read_judged policy h day caller id file found
    ∙ allowed_outcome policy h day caller (ReadFile id) (decision policy (file_facts h day caller file action.Read)) allowed
    ∙ ap (λ (o : Option CaseFile). unchanged h (shown_file h day o)) found

-- a row with its stage, its timing and its papers is the file shown
pub shown_as : (h : History) (day id : ℕ) (filing : Filing) (row : FileRow) (s : Stage) (t : Timing) (ps : List Paper) → row ≡ file_row (case_file h filing) →
    filing.id ≡ id →
    s ≡ row_stage day row.state → t ≡ row_timing day row.state → ps ≡ filter (λ p. p.file == id) (tables h).papers →
    FileShown (record { row = row; stage = s; timing = t }) ps ≡ FileShown (file_view day (case_file h filing)) (papers_of h filing.id)
shown_as h day id filing row s t ps e named es et ep =
    ap (λ x. FileShown (record { row = row; stage = x; timing = t }) ps) es
    ∙ ap (λ x. FileShown (record { row = row; stage = row_stage day row.state; timing = x }) ps) et
    ∙ ap (λ (r : FileRow). FileShown (record { row = r; stage = row_stage day r.state; timing = row_timing day r.state }) ps) e
    ∙ ap (λ x. FileShown (file_view day (case_file h filing)) x) (ep ∙ ap (papers_of h) (sym named))

-- a declaration's parcel is there, and one that is read
pub declare_judged : (policy : Policy) (h : History) (day : ℕ) (caller : Party) (parcel : ℕ) (land : Parcel) → parcel_numbered h parcel ≡ Some land →
    outcome_by_request policy h day caller (Declare parcel) ≡ outcome_by_decision policy h day caller (Declare parcel)
    (decision policy (parcel_facts h caller parcel Office action.Declare))
declare_judged policy h day caller parcel land found =
    ap (λ (o : Option Parcel). outcome_by_facts policy h day caller (Declare parcel)
    (option_map (λ (p : Parcel). parcel_facts h caller parcel Office action.Declare) o)) found

pub parcel_judged : (policy : Policy) (h : History) (day : ℕ) (caller : Party) (parcel : ℕ) (land : Parcel) → parcel_numbered h parcel ≡ Some land →
    outcome_by_request policy h day caller (ReadParcel parcel) ≡ outcome_by_decision policy h day caller (ReadParcel parcel)
    (decision policy (parcel_facts h caller parcel Office action.ReadParcel))
parcel_judged policy h day caller parcel land found =
    ap (λ (o : Option Parcel). outcome_by_facts policy h day caller (ReadParcel parcel)
    (option_map (λ (p : Parcel). parcel_facts h caller parcel Office action.ReadParcel) o)) found

pub parcel_read : (policy : Policy) (h : History) (day : ℕ) (caller : Party) (parcel : ℕ) (land : Parcel) → parcel_numbered h parcel ≡ Some land →
    None ≡ denied (decision policy (parcel_facts h caller parcel Office action.ReadParcel)) →
    outcome_by_request policy h day caller (ReadParcel parcel) ≡ unchanged h (ParcelShown land)
parcel_read policy h day caller parcel land found allowed =
    parcel_judged policy h day caller parcel land found
    ∙ allowed_outcome policy h day caller (ReadParcel parcel) (decision policy (parcel_facts h caller parcel Office action.ReadParcel)) allowed
    ∙ ap (λ (o : Option Parcel). unchanged h (shown_parcel o)) found

pub transfer_judged : (policy : Policy) (h : History) (day : ℕ) (caller : Party) (parcel to : ℕ) (land : Parcel) → parcel_numbered h parcel ≡ Some land →
    outcome_by_request policy h day caller (Transfer parcel to) ≡ outcome_by_decision policy h day caller (Transfer parcel to)
    (decision policy (parcel_facts h caller parcel Office action.Transfer))
transfer_judged policy h day caller parcel to land found =
    ap (λ (o : Option Parcel). outcome_by_facts policy h day caller (Transfer parcel to)
    (option_map (λ (p : Parcel). parcel_facts h caller parcel Office action.Transfer) o)) found

-- ---- a command on a file

pub command_missing : (policy : Policy) (h : History) (day : ℕ) (caller : Party) (id : ℕ) (command : Command) → None ≡ row_state_in h id →
    outcome_by_request policy h day caller (OnFile id command) ≡ refused h refusal.Record
command_missing policy h day caller id command none =
    ap (λ (o : Option CaseFile). outcome_by_facts policy h day caller (OnFile id command)
    (option_map (λ file. file_facts h day caller file (command_action command)) o))
    (stateless_by (case_numbered h id) (none ∙ ap (option_map (λ (r : FileRow). r.state)) (rows_found h id)))

pub command_judged : (policy : Policy) (h : History) (day : ℕ) (caller : Party) (id : ℕ) (command : Command) (file : CaseFile) →
    case_numbered h id ≡ Some file →
    outcome_by_request policy h day caller (OnFile id command) ≡ outcome_by_decision policy h day caller (OnFile id command)
    (decision policy (file_facts h day caller file (command_action command)))
command_judged policy h day caller id command file found =
    ap (λ (o : Option CaseFile). outcome_by_facts policy h day caller (OnFile id command)
    (option_map (λ f. file_facts h day caller f (command_action command)) o)) found

-- a file that is there, with its filing
pub record IsCase (h : History) (id : ℕ) (file : CaseFile) : Type 0 where
  pub filing : Filing
  pub found : find (λ (f : Filing). f.id == id) (filings h) ≡ Some filing
  pub is : case_file h filing ≡ file
  pub named : filing.id ≡ id

case_by : (h : History) (id : ℕ) (file : CaseFile) (o : Option Filing) → find (λ (f : Filing). f.id == id) (filings h) ≡ o →
    option_map (case_file h) o ≡ Some file → IsCase h id file
case_by h id file None e there = cc
case_by h id file (Some filing) e there = record {
  filing = filing;
  found = e;
  is = ap (λ o. unwrap_or o (case_file h filing)) there;
  named = found_number (λ (f : Filing). f.id) id (filings h) filing e;
}

pub case_found : (h : History) (id : ℕ) (file : CaseFile) → case_numbered h id ≡ Some file → IsCase h id file
case_found h id file there = case_by h id file (find (λ (f : Filing). f.id == id) (filings h)) refl there

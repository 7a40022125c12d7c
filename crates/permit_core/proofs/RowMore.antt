-- The row of a file after one more command is what the command makes of its row.
use Rattle.std.proofs.Common.{◌≡◌, ◌≤◌, ℕ, ◌+◌, ◌-◌, Bool, true, false, not, cond, List, [], ◌∷◌, length, refl, sym, ◌∙◌, ap, arith, length-append}
use Rattle.std.specs.Prelude.{Option, None, Some, unwrap_or, option_map, filter, ◌&&◌, ◌||◌, if◌then◌else◌}
use Rattle.std.proofs.lemmas.Bool.{eq-eqb}
use Rattle.permit_base.specs.declared.words.Kind.{Kind}
use Rattle.permit_base.specs.declared.words.Step.{Step}
use Rattle.permit_base.specs.declared.request.Command.{Command}
use Rattle.permit_base.specs.declared.request.Command.TheVariants.{Notice, ClearNotice, Stop, Lift}
use Rattle.permit_base.specs.declared.request.Request.TheVariants.{File, OnFile}
use Rattle.permit_model.specs.Search.{add_last, has_number}
use Rattle.permit_model.specs.Effects.{effects}
use Rattle.permit_model.specs.History.{History, last_day, edition}
use Rattle.permit_model.specs.Files.{Filing, Act, CaseFile, filings, case_file, case_numbered}
use Rattle.permit_model.specs.Work.{approved_steps, pending_step, requested_day, pending_ask, open_notices, is_stopped, makes_paper, paper_count}
use Rattle.permit_model.specs.Deadline.{deadline}
use Rattle.permit_model.specs.Admission.{first_failing, file_tests, tests_on, reason_against}
use Rattle.permit_model.specs.Tables.{State, state_of}
use Rattle.permit_model.specs.Machine.{IsHistory, paper_number, entry_of}
use Rattle.permit_model.proofs.Notices.{notices_after as open_after, open_more, fresh}
use Rattle.permit_model.proofs.Appending.{base_stage-more, FallFrom, open_fall, length-cleared}
use Rattle.permit_model.proofs.Projection.{filing_numbered, find_last, found_has_id, no_acts, WasAdmitted, WereAdmitted, DoneTo, done_to}
use Rattle.permit_model.proofs.Numbers.{files_below}
use Rattle.permit_model.proofs.StopOrders.{stopped_by_order, released_by_lift}
use Rattle.permit_model.proofs.Fronts.{are_numbered}
use Rattle.permit_model.proofs.Deadlines as deadlines
use Rattle.permit_model.proofs.Deadlines.{act_by, case_of, tests_passed, unanchored, deadline_more}
use Rattle.permit_core.specs.Views.{filed_by}
use Rattle.permit_core.specs.RowAfter.{deadline_after, done_after, requested_after, notices_after, papers_after, row_after, file_after}

-- ---- the deadline

same_deadline : (command : Command) (day : ℕ) (ask old : Option ℕ) → deadlines.deadline_after command day ask old
    ≡ deadline_after (effects command).grants (effects command).stage (effects command).anchor day ask old
same_deadline command day ask old = grind arith

-- ---- steps, requests and asks

done_more : (command : Command) (steps : List Step) → length (add_last steps (effects command).step) ≡ done_after (effects command).step (length steps)
done_more command steps = grind (arith, length-append)

request_more : (caller day : ℕ) (command : Command) (number : Option ℕ) (before : List Act) →
    pending_step (act_by caller day command number ∷ before) ≡ unwrap_or (effects command).request (pending_step before)
request_more caller day command number before = grind arith

requested_more : (caller day : ℕ) (command : Command) (number : Option ℕ) (before : List Act) →
    requested_day (act_by caller day command number ∷ before) ≡ requested_after day (effects command).request (requested_day before)
requested_more caller day command number before = grind arith

ask_more : (caller day : ℕ) (command : Command) (number : Option ℕ) (before : List Act) →
    pending_ask (act_by caller day command number ∷ before) ≡ unwrap_or (effects command).ask (pending_ask before)
ask_more caller day command number before = grind arith

-- ---- stop work orders

stopped_more : (filing : Filing) (caller day : ℕ) (command : Command) (number : Option ℕ) (before : List Act) → WereAdmitted filing before →
    is_stopped (act_by caller day command number ∷ before) ≡ ((effects command).stops || (not (effects command).lifts && is_stopped before))
stopped_more filing caller day (Stop text conditions) number before all = stopped_by_order filing caller day text conditions number before all
stopped_more filing caller day Lift number before all = released_by_lift filing caller day number before all
stopped_more filing caller day _ number before all = refl

-- ---- papers and notices

not_false : (b : Bool) → not b ≡ false → b ≡ true
not_false b e = grind arith

counted_more : {A : Type 0} (x : A) (xs : List A) (b : Bool) → length (cond b (x ∷ xs) xs) ≡ (if b then length xs + 1 else length xs)
counted_more x xs b = grind arith

papers_more : (act : Act) (before : List Act) → paper_count (act ∷ before) ≡ papers_after act.command (paper_count before)
papers_more act before = counted_more act (filter (λ a. makes_paper a.command) before) (makes_paper act.command)

-- numbers that fall from a bound are no more than it
falling_few : (bound : ℕ) (ns : List ℕ) → FallFrom bound ns → length ns ≤ bound
falling_few bound [] f = omega arith
falling_few bound (n ∷ ns) f = omega (arith, falling_few (n - 1) ns f.2, f.0, f.1)

-- no more notices are open than the file has papers
pub notices_few : (filing : Filing) (acts : List Act) → WereAdmitted filing acts → length (open_notices acts) ≤ paper_count acts
notices_few filing acts w = falling_few (paper_count acts) (open_notices acts) (open_fall acts (are_numbered filing acts w))

counted_after : (filing : Filing) (caller day : ℕ) (command : Command) (number : Option ℕ) (before : List Act) →
    WasAdmitted filing (act_by caller day command number) before → WereAdmitted filing before →
    length (open_after command number (open_notices before)) ≡ notices_after (effects command).notice (effects command).cleared (length (open_notices before))
counted_after filing caller day (Notice text) number before w all = rw (w.numbered) (omega arith)
counted_after filing caller day (ClearNotice paper) number before w all =
    let there : has_number (open_notices before) paper ≡ true = not_false (has_number (open_notices before) paper)
    (tests_passed filing (act_by caller day (ClearNotice paper) number) before w).1.0 in
    omega (arith, length-cleared (paper_count before) paper (open_notices before) (open_fall before (are_numbered filing before all)) there)
counted_after filing caller day _ number before w all = refl

notices_more : (filing : Filing) (caller day : ℕ) (command : Command) (number : Option ℕ) (before : List Act) →
    WasAdmitted filing (act_by caller day command number) before → WereAdmitted filing before →
    length (open_notices (act_by caller day command number ∷ before)) ≡ notices_after (effects command).notice (effects command).cleared
    (length (open_notices before))
notices_more filing caller day command number before w all =
    ap length (open_more caller day command number before (fresh filing caller day command number before w all))
    ∙ counted_after filing caller day command number before w all

-- ---- the whole row

same_row : (a b : State) → a.parcel ≡ b.parcel → a.applicant ≡ b.applicant → a.contractor ≡ b.contractor → a.reviewer ≡ b.reviewer → a.inspector ≡ b.inspector →
    a.kind ≡ b.kind → a.edition ≡ b.edition → a.filed ≡ b.filed → a.stage ≡ b.stage → a.deadline ≡ b.deadline →
    a.done ≡ b.done → a.request ≡ b.request → a.requested ≡ b.requested → a.ask ≡ b.ask → a.stopped ≡ b.stopped → a.notices ≡ b.notices → a.papers ≡ b.papers →
    a.temporary ≡ b.temporary → a ≡ b
same_row a b e0 e1 e2 e3 e4 e5 e6 e7 e8 e9 e10 e11 e12 e13 e14 e15 e16 e17 = grind arith

row_of_act : (filing : Filing) (caller day : ℕ) (command : Command) (number : Option ℕ) (before : List Act) →
    WasAdmitted filing (act_by caller day command number) before → WereAdmitted filing before →
    state_of (case_of filing (act_by caller day command number ∷ before)) ≡ row_after day command (state_of (case_of filing before))
row_of_act filing caller day command number before w all =
    same_row (state_of (case_of filing (act_by caller day command number ∷ before))) (row_after day command (state_of (case_of filing before)))
    refl refl refl refl refl refl refl refl
    (base_stage-more (act_by caller day command number) before)
    (deadline_more filing caller day command number before w (unanchored filing before all)
    ∙ same_deadline command day (pending_ask before) (deadline (case_of filing before)))
    (done_more command (approved_steps before))
    (request_more caller day command number before)
    (requested_more caller day command number before)
    (ask_more caller day command number before)
    (stopped_more filing caller day command number before all)
    (notices_more filing caller day command number before w all)
    (papers_more (act_by caller day command number) before)
    refl

-- what an admitted command of a history makes of a file's row
pub row_more : (h : History) (id day caller : ℕ) (file : CaseFile) (command : Command) → IsHistory h → case_numbered h id ≡ Some file → last_day h ≤ day →
    reason_against h day caller (OnFile id command) ≡ None →
    state_of (file_after day command caller file) ≡ row_after day command (state_of file)
row_more h id day caller file command is there later admitted =
    let done : DoneTo h file = done_to h id file is there in
    let none : first_failing (file_tests h day file command) ≡ None = sym (ap (λ (o : Option CaseFile). first_failing (tests_on h day o command)) there)
    ∙ admitted in
    row_of_act file.filing caller day command (paper_number command (Some file)) file.acts
    (record { history = h; admitted = none; numbered = refl; in_time = omega (arith, done.until, later) }) done.admitted

-- the open notices of a file of a history are no more than its papers
pub notices_within : (h : History) (id : ℕ) (file : CaseFile) → IsHistory h → case_numbered h id ≡ Some file → (state_of file).notices ≤ (state_of file).papers
notices_within h id file is there = notices_few file.filing file.acts (done_to h id file is there).admitted

-- ---- the file of the history with the entry added

file_recorded : (h : History) (id day caller : ℕ) (command : Command) (filing : Filing) → filing.id ≡ id → case_numbered h id ≡ Some (case_file h filing) →
    case_file (entry_of h day caller (OnFile id command) ∷ h) filing ≡ file_after day command caller (case_file h filing)
file_recorded h id day caller command filing named there = grind arith

recorded_by : (h : History) (id day caller : ℕ) (file after : CaseFile) (command : Command) (o : Option Filing) → filing_numbered (filings h) id ≡ o →
    case_numbered h id ≡ Some file → option_map (case_file h) o ≡ Some file →
    option_map (case_file (entry_of h day caller (OnFile id command) ∷ h)) o ≡ Some after → after ≡ file_after day command caller file
recorded_by h id day caller file after command None e there was is = cc
recorded_by h id day caller file after command (Some filing) e there was is =
    let same : case_file h filing ≡ file = ap (λ o. unwrap_or o file) was in
    let named : filing.id ≡ id = found_has_id (filings h) id filing e in
    sym (ap (λ o. unwrap_or o after) is) ∙ file_recorded h id day caller command filing named (there ∙ sym was) ∙ ap (file_after day command caller) same

-- the file after a command is the file of its number in the history with the entry added
pub recorded : (h : History) (id day caller : ℕ) (file after : CaseFile) (command : Command) → case_numbered h id ≡ Some file →
    case_numbered (entry_of h day caller (OnFile id command) ∷ h) id ≡ Some after →
    after ≡ file_after day command caller file
recorded h id day caller file after command there is = recorded_by h id day caller file after command (filing_numbered (filings h) id) refl there there is

-- ---- the file of the history with a filing added

-- the new file is found by the next number, and nothing was done to it
pub filing_recorded : (h : History) (day caller parcel : ℕ) (kind : Kind) (valuation : ℕ) (description : List ℕ) → IsHistory h →
    case_numbered (entry_of h day caller (File parcel kind valuation description) ∷ h) (length (filings h) + 1)
    ≡ Some (filed_by caller parcel kind (edition h) day (length (filings h) + 1) valuation description)
filing_recorded h day caller parcel kind valuation description is = grind (arith, filing_numbered, files_below, find_last, eq-eqb, case_of, no_acts)

-- The papers of every history are sound.
use Rattle.std.proofs.Common.{◌≡◌, ◌≤◌, ℕ, Bool, true, false, not, ◌==◌, List, [], ◌∷◌, ◌++◌, map, length, refl, sym, ◌∙◌, ap, subst, arith}
use Rattle.std.specs.Prelude.{Option, None, Some, is_some, is_none, ◌&&◌, ◌||◌, nat_le, IsTrue, option_map, unwrap_or}
use Rattle.std.specs.List.{list_all, cons_option}
use Rattle.std.proofs.lemmas.Bool.{eq-eqb, eqb-true, le-leb, leb-true, leb-false, ltb-false, and_from, and_parts}
use Rattle.std.proofs.lemmas.List.Folds.{list_all-append}
use Rattle.permit_base.specs.Limits.{is_between, most_papers}
use Rattle.permit_base.specs.Texts.{is_printable}
use Rattle.permit_base.specs.declared.words.PaperSort.{PaperSort}
use Rattle.permit_base.specs.declared.words.Stage.{Stage}
use Rattle.permit_base.specs.declared.request.Command.{Command}
use Rattle.permit_base.specs.declared.request.Command.TheVariants.{Return, Resubmit, Reject, Issue, AskExtension, GrantExtension, RefuseExtension}
use Rattle.permit_base.specs.declared.request.Command.TheVariants.{Notice, Stop, Lift, Revoke, Temporary, Certify}
use Rattle.permit_base.specs.declared.request.Request.TheVariants.{OnFile}
use Rattle.permit_model.specs.Days.{longest_permit_extension, longest_temporary}
use Rattle.permit_model.specs.Search.{add_last, when}
use Rattle.permit_model.specs.History.{Deed, Founding, Upgrade, Accepted, Entry, History, last_day}
use Rattle.permit_model.specs.Caller.{is_party}
use Rattle.permit_model.specs.Files.{Filing, Act, act_of, acts_on, CaseFile, filings, case_file, case_files, case_numbered}
use Rattle.permit_model.specs.Work.{pending_ask, open_notices, paper_sort, paper_count}
use Rattle.permit_model.specs.Facts.{stage_on}
use Rattle.permit_model.specs.Admission.{ask_limit}
use Rattle.permit_model.specs.Tables.{FileRow, file_row, state_of, Paper, paper_by, paper_of_deed, papers_made, papers_of, is_notice, tables}
use Rattle.permit_model.specs.Machine.{IsAccepted, MayFollow, IsFounding, IsHistory}
use Rattle.permit_model.specs.Laws.{OfEachFile}
use Rattle.permit_model.specs.Within.{is_command_within, is_deed_within, AreWithinLimits}
use Rattle.permit_model.specs.Sound.{if_any, has_file, has_sound_days, has_sound_text, has_sound_terms, is_sound_paper, never_fall, are_sound_papers_of}
use Rattle.permit_model.specs.Sound.{are_sound_papers}
use Rattle.permit_model.proofs.Lists.{find_mapped}
use Rattle.permit_model.proofs.Papers.{papers_from, papers_of-case, found_by}
use Rattle.permit_model.proofs.Projection.{last_touched, WasAdmitted, WereAdmitted, filing_numbered, found_has_id, admitted_by, done_to}
use Rattle.permit_model.proofs.Numbers.{papers_numbered}
use Rattle.permit_model.proofs.Deadlines.{act_by, case_of, tests_passed, filed_first}
use Rattle.permit_model.proofs.SoundLists.{between, numbered_test, all_more, all_two, there_last, mapped_there}
use Rattle.permit_model.proofs.SoundOffice.{entry_by, party_stays}
use Rattle.permit_model.proofs.SoundFilings.{later_day, all_rows}
use Rattle.permit_model.proofs.SoundWork.{ActsWithin, ask_of_any, longest_of_all, limit_kept, least_days}

-- ---- what was done to a file is within the limits

command_within : (id g : ℕ) (entry : Entry) (command : Command) (acts : List Act) (b : Bool) → is_command_within command ≡ true → ActsWithin acts →
    ActsWithin (cons_option (option_map (act_of entry) (when b command)) acts)
command_within id g entry command acts b within ih = grind arith

within_deed : (h : History) (id caller day : ℕ) (deed : Deed) (number : Option ℕ) → is_deed_within deed ≡ true → ActsWithin (acts_on id h) →
    ActsWithin (acts_on id (entry_by caller day deed number ∷ h))
within_deed h id caller day deed number within ih = grind arith

pub acts_within : (h : History) (id : ℕ) → AreWithinLimits h → ActsWithin (acts_on id h)
acts_within [] id within = refl
acts_within (entry ∷ before) id within =
    let parts = and_parts (is_deed_within entry.deed) (list_all (λ e. is_deed_within e.deed) before) within in
    within_deed before id entry.caller entry.day entry.deed entry.number parts.0 (acts_within before id parts.1)

pub case_within : (h : History) (id : ℕ) (file : CaseFile) → AreWithinLimits h → case_numbered h id ≡ Some file → ActsWithin file.acts
case_within h id file within there = grind (arith, ActsWithin, found_by, filing_numbered, acts_within)

-- ---- what a paper says

-- there is no paper, or one that passes
abbrev pub if_paper : (Paper → Bool) → Option Paper → Bool
if_paper test None = true
if_paper test (Some p) = test p

abbrev pub says : Paper → Bool
says p = has_sound_days p && has_sound_text p && has_sound_terms p && (not p.is_open || is_notice p.sort)

or_true : (b : Bool) → (b || true) ≡ true
or_true b = grind arith

granted : (most : ℕ) (ask : Option ℕ) → is_none ask ≡ false → if_any (is_between 1 most) ask ≡ true → is_between 1 most (unwrap_or ask 0) ≡ true
granted most ask pending e = grind arith

text_of : (b : Bool) (text : List ℕ) → (b && is_printable text) ≡ true → is_printable text ≡ true
text_of b text e = (and_parts b (is_printable text) e).1

-- a paper says what its sort does
written : (filing : Filing) (file : ℕ) (open_now : List ℕ) (caller day : ℕ) (command : Command) (number : Option ℕ) (before : List Act) →
    WasAdmitted filing (act_by caller day command number) before → WereAdmitted filing before → ActsWithin before → is_command_within command ≡ true →
    if_paper says (paper_by file open_now (act_by caller day command number) before) ≡ true
written filing file open_now caller day (Return text) number before w all past within = and_from _ _ (and_from _ _ within refl) refl
written filing file open_now caller day (Resubmit text) number before w all past within = and_from _ _ (and_from _ _ within refl) refl
written filing file open_now caller day (Reject text) number before w all past within = and_from _ _ (and_from _ _ within refl) refl
written filing file open_now caller day (RefuseExtension text) number before w all past within = and_from _ _ (and_from _ _ within refl) refl
written filing file open_now caller day (Revoke text) number before w all past within = and_from _ _ (and_from _ _ within refl) refl
written filing file open_now caller day (Notice text) number before w all past within = and_from _ _ (and_from _ _ within refl) (or_true _)
written filing file open_now caller day (AskExtension days text) number before w all past within =
    let s : Stage = stage_on day (case_of filing before) in
    let small : days ≤ ask_limit s = ltb-false (ask_limit s) days (tests_passed filing (act_by caller day (AskExtension days text) number) before w).1.0 in
    let most = between 1 longest_permit_extension days (least_days days text within) (omega (arith, small, limit_kept s, longest_of_all s)) in
    and_from _ _ (and_from _ _ (and_from _ _ most (text_of _ text within)) refl) refl
written filing file open_now caller day GrantExtension number before w all past within =
    let pending = (tests_passed filing (act_by caller day GrantExtension number) before w).1.0 in
    let days = granted longest_permit_extension (pending_ask before) pending (ask_of_any filing before all past) in
    and_from _ _ (and_from _ _ (and_from _ _ days refl) refl) refl
written filing file open_now caller day (Temporary days text) number before w all past within =
    let small : days ≤ longest_temporary =
    ltb-false longest_temporary days (tests_passed filing (act_by caller day (Temporary days text) number) before w).1.1.0 in
    and_from _ _ (and_from _ _ (and_from _ _ (between 1 longest_temporary days (least_days days text within) small) (text_of _ text within)) refl) refl
written filing file open_now caller day (Stop text conditions) number before w all past within =
    let parts = and_parts (is_printable text) (is_printable conditions) within in
    and_from _ _ (and_from _ _ parts.0 parts.1) refl
written filing file open_now caller day _ number before w all past within = refl

-- ---- each paper of the table

passing_last : (test : Paper → Bool) (xs : List Paper) (new : Option Paper) → list_all test xs ≡ true → if_paper test new ≡ true →
    list_all test (add_last xs new) ≡ true
passing_last test xs new all here = grind (arith, list_all-append, and_from)

-- the file with its acts, where it is there
pub record OnTheFile (h : History) (g : ℕ) : Type 0 where
  pub filing : Filing
  pub found : filing_numbered (filings h) g ≡ Some filing
  pub there : case_numbered h g ≡ Some (case_of filing (acts_on g h))

on_the_file : (h : History) (g : ℕ) (o : Option Filing) → filing_numbered (filings h) g ≡ o → is_some (option_map (case_file h) o) ≡ true → OnTheFile h g
on_the_file h g o e there = grind (arith, found_has_id, case_of)

says_command : (now h : History) (g caller day : ℕ) (command : Command) (number : Option ℕ) → IsHistory h → AreWithinLimits h →
    IsAccepted h (entry_by caller day (Accepted (OnFile g command)) number) (OnFile g command) → is_command_within command ≡ true → OnTheFile h g →
    if_paper says (paper_by g (open_notices (acts_on g now)) (act_by caller day command number) (acts_on g h)) ≡ true
says_command now h g caller day command number is past may within on =
    let was = admitted_by h g on.filing is on.found in
    written on.filing g (open_notices (acts_on g now)) caller day command number (acts_on g h)
    (record {
      history = h;
      admitted = rw on.there at may.admitted;
      numbered = rw on.there at may.numbered;
      in_time = omega (arith, was.1, may.in_time);
    }) was.0 (acts_within h g past) within

says_deed : (now h : History) (caller day : ℕ) (deed : Deed) (number : Option ℕ) → IsHistory h → AreWithinLimits h →
    MayFollow h (entry_by caller day deed number) deed → is_deed_within deed ≡ true →
    if_paper says (paper_of_deed now (entry_by caller day deed number) deed h) ≡ true
says_deed now h caller day (Founding name digest) number is past may within = refl
says_deed now h caller day Upgrade number is past may within = refl
says_deed now h caller day (Accepted (OnFile g command)) number is past may within =
    says_command now h g caller day command number is past may within (on_the_file h g (filing_numbered (filings h) g) refl may.record_there)
says_deed now h caller day (Accepted request) number is past may within = refl

none_first : (now : History) (caller day : ℕ) (deed : Deed) (number : Option ℕ) → IsFounding (entry_by caller day deed number) deed →
    paper_of_deed now (entry_by caller day deed number) deed [] ≡ None
none_first now caller day deed number is = grind arith

all_say : (now h : History) → IsHistory h → AreWithinLimits h → list_all says (papers_made now h) ≡ true
all_say now [] is within = absurd is
all_say now (entry ∷ []) is within =
    ap (λ o. list_all says (add_last [] o)) (none_first now entry.caller entry.day entry.deed entry.number is)
all_say now (entry ∷ last ∷ before) is within =
    let parts = and_parts (is_deed_within entry.deed) (list_all (λ e. is_deed_within e.deed) (last ∷ before)) within in
    passing_last says (papers_made now (last ∷ before)) (paper_of_deed now entry entry.deed (last ∷ before)) (all_say now (last ∷ before) is.1 parts.1)
    (says_deed now (last ∷ before) entry.caller entry.day entry.deed entry.number is.1 parts.1 is.0 parts.0)

-- ---- whose paper it is

file_stays : (h : History) (entry : Entry) (id : ℕ) → is_some (case_numbered h id) ≡ true → is_some (case_numbered (entry ∷ h) id) ≡ true
file_stays h entry id e = grind (arith, mapped_there, filing_numbered, there_last)

-- a file that is there has a row
row_there : (h : History) (id : ℕ) → is_some (case_numbered h id) ≡ true → has_file (tables h) id ≡ true
row_there h id e =
    ap is_some (find_mapped file_row (λ (f : CaseFile). f.filing.id == id) (λ (f : FileRow). f.id == id) (λ f. refl) (case_files h)
    ∙ ap (option_map file_row) (find_mapped (case_file h) (λ (f : Filing). f.id == id) (λ (f : CaseFile). f.filing.id == id) (λ f. refl) (filings h)))
    ∙ mapped_there file_row (case_numbered h id) ∙ e

abbrev pub is_here : History → Paper → Bool
is_here h p = is_some (case_numbered h p.file) && is_party h p.author && nat_le p.day (last_day h)

here_stays : (h : History) (entry : Entry) → last_day h ≤ entry.day → (p : Paper) → is_here h p ≡ true → is_here (entry ∷ h) p ≡ true
here_stays h entry later p e = grind (arith, and_parts, and_from, file_stays, party_stays, le-leb, leb-true)

here_by : (h : History) (g : ℕ) (open_now : List ℕ) (act : Act) (before : List Act) (s : Option PaperSort) → paper_sort act.command ≡ s →
    (is_some (case_numbered h g) && is_party h act.caller && nat_le act.day (last_day h)) ≡ true → if_paper (is_here h) (paper_by g open_now act before) ≡ true
here_by h g open_now act before s e here = grind arith

here_deed : (now h : History) (caller day : ℕ) (deed : Deed) (number : Option ℕ) → MayFollow h (entry_by caller day deed number) deed →
    if_paper (is_here (entry_by caller day deed number ∷ h)) (paper_of_deed now (entry_by caller day deed number) deed h) ≡ true
here_deed now h caller day deed number may = grind (arith, entry_by, here_by, act_by, and_from, file_stays, party_stays, le-leb)

here_more : (now h : History) (entry : Entry) → MayFollow h entry entry.deed → list_all (is_here h) (papers_made now h) ≡ true →
    list_all (is_here (entry ∷ h)) (papers_made now (entry ∷ h)) ≡ true
here_more now h entry may ih =
    passing_last (is_here (entry ∷ h)) (papers_made now h) (paper_of_deed now entry entry.deed h)
    (all_more (is_here h) (is_here (entry ∷ h)) (papers_made now h)
    (here_stays h entry (later_day h entry.caller entry.day entry.deed entry.number may)) ih)
    (here_deed now h entry.caller entry.day entry.deed entry.number may)

all_here : (now h : History) → IsHistory h → list_all (is_here h) (papers_made now h) ≡ true
all_here now [] is = absurd is
all_here now (entry ∷ []) is =
    ap (λ o. list_all (is_here (entry ∷ [])) (add_last [] o)) (none_first now entry.caller entry.day entry.deed entry.number is)
all_here now (entry ∷ last ∷ before) is = here_more now (last ∷ before) entry is.0 (all_here now (last ∷ before) is.1)

paper_sound : (h : History) (p : Paper) → is_here h p ≡ true → says p ≡ true → is_sound_paper (tables h) p ≡ true
paper_sound h p here said = grind (arith, and_parts, and_from, row_there)

-- ---- the papers of a file together

-- a file has no more papers than it may have
few_more : (filing : Filing) (caller day : ℕ) (command : Command) (number : Option ℕ) (before : List Act) →
    WasAdmitted filing (act_by caller day command number) before → paper_count before ≤ most_papers →
    paper_count (act_by caller day command number ∷ before) ≤ most_papers
few_more filing caller day (Return text) number before w ih =
    omega (arith, leb-false most_papers (paper_count before) (tests_passed filing (act_by caller day (Return text) number) before w).1.0)
few_more filing caller day (Resubmit text) number before w ih =
    omega (arith, leb-false most_papers (paper_count before) (tests_passed filing (act_by caller day (Resubmit text) number) before w).1.0)
few_more filing caller day (Reject text) number before w ih =
    omega (arith, leb-false most_papers (paper_count before) (tests_passed filing (act_by caller day (Reject text) number) before w).1.0)
few_more filing caller day Issue number before w ih =
    omega (arith, leb-false most_papers (paper_count before) (tests_passed filing (act_by caller day Issue number) before w).1.0)
few_more filing caller day (AskExtension days text) number before w ih =
    omega (arith, leb-false most_papers (paper_count before) (tests_passed filing (act_by caller day (AskExtension days text) number) before w).1.1.1.0)
few_more filing caller day GrantExtension number before w ih =
    omega (arith, leb-false most_papers (paper_count before) (tests_passed filing (act_by caller day GrantExtension number) before w).1.1.0)
few_more filing caller day (RefuseExtension text) number before w ih =
    omega (arith, leb-false most_papers (paper_count before) (tests_passed filing (act_by caller day (RefuseExtension text) number) before w).1.1.0)
few_more filing caller day (Notice text) number before w ih =
    omega (arith, leb-false most_papers (paper_count before) (tests_passed filing (act_by caller day (Notice text) number) before w).1.1.0)
few_more filing caller day (Stop text conditions) number before w ih =
    omega (arith, leb-false most_papers (paper_count before) (tests_passed filing (act_by caller day (Stop text conditions) number) before w).1.1.0)
few_more filing caller day Lift number before w ih =
    omega (arith, leb-false most_papers (paper_count before) (tests_passed filing (act_by caller day Lift number) before w).1.1.0)
few_more filing caller day (Revoke text) number before w ih =
    omega (arith, leb-false most_papers (paper_count before) (tests_passed filing (act_by caller day (Revoke text) number) before w).1.0)
few_more filing caller day (Temporary days text) number before w ih =
    omega (arith, leb-false most_papers (paper_count before) (tests_passed filing (act_by caller day (Temporary days text) number) before w).1.1.1.1.1.0)
few_more filing caller day Certify number before w ih =
    omega (arith, leb-false most_papers (paper_count before) (tests_passed filing (act_by caller day Certify number) before w).1.1.1.0)
few_more filing caller day _ number before w ih = ih

pub few_papers : (filing : Filing) (acts : List Act) → WereAdmitted filing acts → paper_count acts ≤ most_papers
few_papers filing [] w = omega arith
few_papers filing (act ∷ before) w = few_more filing act.caller act.day act.command act.number before w.0 (few_papers filing before w.1)

-- a paper more, on a day that is none before
fall_last : (first : ℕ) (papers : List Paper) (p : Paper) → first ≤ p.day → never_fall first (map (λ (q : Paper). q.day) papers) ≡ true →
    list_all (λ (q : Paper). nat_le q.day p.day) papers ≡ true → never_fall first (map (λ (q : Paper). q.day) (papers ++ p ∷ [])) ≡ true
fall_last first [] p low falls all = and_from _ _ (le-leb first p.day low) refl
fall_last first (q ∷ qs) p low falls all =
    let f = and_parts (nat_le first q.day) (never_fall q.day (map (λ (x : Paper). x.day) qs)) falls in
    let a = and_parts (nat_le q.day p.day) (list_all (λ (x : Paper). nat_le x.day p.day) qs) all in
    and_from _ _ f.0 (fall_last q.day qs p (leb-true q.day p.day a.0) f.1 a.1)

-- the papers are in the order of their days, up to the day
pub record InOrder (filed until : ℕ) (papers : List Paper) : Type 0 where
  pub falls : never_fall filed (map (λ (p : Paper). p.day) papers) ≡ true
  pub by : list_all (λ (p : Paper). nat_le p.day until) papers ≡ true

by_later : (until later : ℕ) (papers : List Paper) → until ≤ later → list_all (λ (p : Paper). nat_le p.day until) papers ≡ true →
    list_all (λ (p : Paper). nat_le p.day later) papers ≡ true
by_later until later papers more all = grind (arith, all_more, le-leb, leb-true)

order_last : (filed until day : ℕ) (papers : List Paper) (new : Option Paper) → until ≤ day → filed ≤ day → InOrder filed until papers →
    if_paper (λ p. p.day == day) new ≡ true → InOrder filed day (add_last papers new)
order_last filed until day papers None later late o here = record { falls = o.falls; by = by_later until day papers later o.by }
order_last filed until day papers (Some p) later late o here =
    let same : p.day ≡ day = eqb-true p.day day here in
    let by : list_all (λ (q : Paper). nat_le q.day day) papers ≡ true = by_later until day papers later o.by in
    record {
      falls = fall_last filed papers p (omega (arith, late, same)) o.falls (by_later day p.day papers (omega (arith, same)) by);
      by = passing_last (λ (q : Paper). nat_le q.day day) papers (Some p) by (le-leb p.day day (omega (arith, same)));
    }

dated_by : (file : ℕ) (open_now : List ℕ) (act : Act) (before : List Act) (s : Option PaperSort) → paper_sort act.command ≡ s →
    if_paper (λ p. p.day == act.day) (paper_by file open_now act before) ≡ true
dated_by file open_now act before s e = grind arith

in_order : (filing : Filing) (file : ℕ) (open_now : List ℕ) (acts : List Act) → WereAdmitted filing acts →
    InOrder filing.filed (last_touched filing acts) (papers_from file open_now acts)
in_order filing file open_now [] w = record { falls = refl; by = refl }
in_order filing file open_now (act ∷ before) w =
    order_last filing.filed (last_touched filing before) act.day (papers_from file open_now before) (paper_by file open_now act before) w.0.in_time
    (filed_first filing (act ∷ before) w) (in_order filing file open_now before w.1)
    (dated_by file open_now act before (paper_sort act.command) refl)

papers_of_sound : OfEachFile (λ h file. are_sound_papers_of (papers_of h file.filing.id) (state_of file) ≡ true)
papers_of_sound h id file is there =
    let numbered = papers_numbered h id file is there in
    let admitted = (done_to h id file is there).admitted in
    let order : InOrder file.filing.filed (last_touched file.filing file.acts) (papers_of h file.filing.id) =
    subst (InOrder file.filing.filed (last_touched file.filing file.acts)) (sym (papers_of-case h id file there))
    (in_order file.filing file.filing.id (open_notices file.acts) file.acts admitted) in
    and_from _ _ (and_from _ _ (and_from _ _ (eq-eqb (paper_count file.acts) (length (papers_of h file.filing.id)) (sym numbered.1))
    (le-leb (paper_count file.acts) most_papers (few_papers file.filing file.acts admitted)))
    (numbered_test (λ (p : Paper). p.number) 1 (papers_of h file.filing.id) numbered.0)) order.falls

pub papers_sound : (h : History) → IsHistory h → AreWithinLimits h → IsTrue (are_sound_papers (tables h))
papers_sound h is within =
    and_from _ _ (all_two (is_here h) says (is_sound_paper (tables h)) (papers_made h h) (paper_sound h) (all_here h h is) (all_say h h is within))
    (all_rows (λ f. are_sound_papers_of (papers_of h f.id) f.state) h is (λ id file there. papers_of_sound h id file is there))

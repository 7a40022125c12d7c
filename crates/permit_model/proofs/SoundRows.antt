-- The open notices of a file are its open papers, and the work on the files of every history is sound.
use Rattle.std.proofs.Common.{◌≡◌, ◌<◌, inl, inr, ℕ, suc, ◌+◌, Bool, true, false, not}
use Rattle.std.proofs.Common.{cond, ◌==◌, List, [], ◌∷◌, ◌++◌, length, refl, sym, ◌∙◌, ap, arith}
use Rattle.std.specs.Prelude.{Option, None, Some, is_some, is_none, filter, ◌&&◌, ◌||◌, IsTrue, slice_get}
use Rattle.std.proofs.lemmas.Bool.{eq-eqb, eqb-true, and_from}
use Rattle.permit_base.specs.Limits.{is_between}
use Rattle.permit_base.specs.declared.words.Step.{Step}
use Rattle.permit_base.specs.declared.request.Command.{Command}
use Rattle.permit_model.specs.Search.{add_last, has_number}
use Rattle.permit_model.specs.Days.{longest_temporary}
use Rattle.permit_model.specs.Steps.{required_steps, has_certificates}
use Rattle.permit_model.specs.History.{History, last_day}
use Rattle.permit_model.specs.Files.{Act}
use Rattle.permit_model.specs.Work.{approved_steps, pending_inspection, pending_step, requested_day}
use Rattle.permit_model.specs.Work.{is_cleared, notices_given, open_notices, is_stopped, temporary_until}
use Rattle.permit_model.specs.BaseStage.{base_stage}
use Rattle.permit_model.specs.Tables.{file_row, state_of, Paper, papers_of, tables}
use Rattle.permit_model.specs.Machine.{IsHistory}
use Rattle.permit_model.specs.Laws.{OfEachFile}
use Rattle.permit_model.specs.Within.{AreWithinLimits}
use Rattle.permit_model.specs.Sound.{is_begun, may_be_stopped, is_occupied, has_sound_request}
use Rattle.permit_model.specs.Sound.{has_sound_certificate, has_sound_notices, has_sound_work, is_sound_work}
use Rattle.permit_model.proofs.Papers.{papers_from, papers_of-case}
use Rattle.permit_model.proofs.Projection.{last_touched, done_to}
use Rattle.permit_model.proofs.Appending.{AreNumbered}
use Rattle.permit_model.proofs.Members.{IsMember, passed, kept, one_passes, any_of_member}
use Rattle.permit_model.proofs.Fronts.{fronts, are_numbered, next_at_count}
use Rattle.permit_model.proofs.Deadlines.{act_by}
use Rattle.permit_model.proofs.SoundStates.{for_next, dated}
use Rattle.permit_model.proofs.SoundLists.{any_more, between_later}
use Rattle.permit_model.proofs.SoundFilings.{all_rows}
use Rattle.permit_model.proofs.SoundWork.{done_in, request_in, request_dated_in, stopped_in}
use Rattle.permit_model.proofs.SoundWork.{ask_in, certificate_ends, certificate_in, notices_in}
use Rattle.permit_model.proofs.SoundPapers.{case_within}

-- ---- open papers

abbrev pub opened : List Paper → List Paper
opened papers = filter (λ (p : Paper). p.is_open) papers

opened_by : (q : Paper) (qs : List Paper) (p : Paper) (b : Bool) → q.is_open ≡ b → opened (qs ++ p ∷ []) ≡ opened qs ++ opened (p ∷ []) →
    cond b (q ∷ opened (qs ++ p ∷ [])) (opened (qs ++ p ∷ [])) ≡ cond b (q ∷ opened qs) (opened qs) ++ opened (p ∷ [])
opened_by q qs p b e ih = grind arith

opened_last : (papers : List Paper) (p : Paper) → opened (papers ++ p ∷ []) ≡ opened papers ++ opened (p ∷ [])
opened_last [] p = refl
opened_last (q ∷ qs) p = opened_by q qs p q.is_open refl (opened_last qs p)

length_by : (xs : List Paper) (p : Paper) (b : Bool) → length (xs ++ cond b (p ∷ []) []) ≡ cond b (suc (length xs)) (length xs)
length_by [] p true = refl
length_by [] p false = refl
length_by (x ∷ xs) p true = ap suc (length_by xs p true)
length_by (x ∷ xs) p false = ap suc (length_by xs p false)

length_last : (papers : List Paper) (p : Paper) (b : Bool) → p.is_open ≡ b → length (opened (papers ++ p ∷ [])) ≡ cond b (suc (length (opened papers)))
    (length (opened papers))
length_last papers p b e = ap length (opened_last papers p) ∙ ap (λ c. length (opened papers ++ cond c (p ∷ []) [])) e ∙ length_by (opened papers) p b

-- whether there is a paper and it is open
abbrev pub made_open : Option Paper → Bool
made_open None = false
made_open (Some p) = p.is_open

counted_last : (papers : List Paper) (new : Option Paper) (b : Bool) → made_open new ≡ b →
    length (opened (add_last papers new)) ≡ cond b (suc (length (opened papers))) (length (opened papers))
counted_last papers new b e = grind (arith, length_last)

-- the numbers of the notices given that are among those open now
abbrev pub still_open : List ℕ → List ℕ → List ℕ
still_open open_now given = filter (has_number open_now) given

noticed : (open_now : List ℕ) (n : ℕ) (given : List ℕ) (count : ℕ) (b : Bool) → has_number open_now n ≡ b → count ≡ length (still_open open_now given) →
    cond b (suc count) count ≡ length (still_open open_now (n ∷ given))
noticed open_now n given count b e ih = grind arith

open_more : (file : ℕ) (open_now : List ℕ) (caller day : ℕ) (command : Command) (number : Option ℕ) (before : List Act) →
    AreNumbered (act_by caller day command number ∷ before) →
    length (opened (papers_from file open_now before)) ≡ length (still_open open_now (notices_given before)) →
    length (opened (papers_from file open_now (act_by caller day command number ∷ before)))
    ≡ length (still_open open_now (notices_given (act_by caller day command number ∷ before)))
open_more file open_now caller day command number before numbered ih = grind (arith, counted_last, papers_from, act_by, noticed)

-- the open papers are as many as the notices that are open now
open_counted : (file : ℕ) (open_now : List ℕ) (acts : List Act) → AreNumbered acts →
    length (opened (papers_from file open_now acts)) ≡ length (still_open open_now (notices_given acts))
open_counted file open_now [] numbered = refl
open_counted file open_now (act ∷ before) numbered =
    open_more file open_now act.caller act.day act.command act.number before numbered (open_counted file open_now before numbered.1)

-- ---- a number of the list is among those that pass where it passes

same_by : (p q : ℕ → Bool) (x : ℕ) (xs : List ℕ) → p x ≡ q x → filter p xs ≡ filter q xs → filter p (x ∷ xs) ≡ filter q (x ∷ xs)
same_by p q x xs e ih = ap (λ b. cond b (x ∷ filter p xs) (filter p xs)) e ∙ ap (λ ys. cond (q x) (x ∷ ys) ys) ih

same_filter : (p q : ℕ → Bool) (xs : List ℕ) → ((x : ℕ) → IsMember x xs → p x ≡ q x) → filter p xs ≡ filter q xs
same_filter p q [] same = refl
same_filter p q (x ∷ xs) same = same_by p q x xs (same x (inl refl)) (same_filter p q xs (λ y m. same y (inr m)))

passing_number : (p : ℕ → Bool) (xs : List ℕ) (n : ℕ) → has_number (filter p xs) n ≡ true → p n ≡ true
passing_number p xs n e = grind (arith, one_passes, eqb-true, passed)

among_by : (p : ℕ → Bool) (xs : List ℕ) (n : ℕ) (a b : Bool) → has_number (filter p xs) n ≡ a → p n ≡ b → IsMember n xs → a ≡ b
among_by p xs n a b e f m = grind (arith, passing_number, any_of_member, kept, eq-eqb)

still_those : (p : ℕ → Bool) (xs : List ℕ) → still_open (filter p xs) xs ≡ filter p xs
still_those p xs = same_filter (has_number (filter p xs)) p xs (λ n m. among_by p xs n (has_number (filter p xs) n) (p n) refl refl m)

-- ---- the row

only_where : (n : ℕ) (b : Bool) → (0 < n → b ≡ true) → ((n == 0) || b) ≡ true
only_where n b e = grind arith

if_some : (o : Option Step) (b : Bool) → (is_some o ≡ true → b ≡ true) → (is_none o || b) ≡ true
if_some o b e = grind arith

if_some_number : (o : Option ℕ) (b : Bool) → (is_some o ≡ true → b ≡ true) → (is_none o || b) ≡ true
if_some_number o b e = grind arith

where_true : (a b : Bool) → (a ≡ true → b ≡ true) → (not a || b) ≡ true
where_true a b e = grind arith

request_sound : OfEachFile (λ h file. has_sound_request (last_day h) (state_of file) ≡ true)
request_sound h id file is there =
    let done = done_to h id file is there in
    let next = next_at_count file.filing file.acts done.admitted in
    let f = fronts file.filing file.acts done.admitted in
    and_from _ _ (and_from _ _ (and_from _ _
    (for_next (pending_step file.acts) (slice_get (required_steps file.filing.edition file.filing.kind) (length (approved_steps file.acts)))
    (λ step e. sym next ∙ f.pending step e))
    (dated (pending_inspection file.acts)))
    (if_some (pending_step file.acts) (is_begun (base_stage file.acts)) (request_in file.filing file.acts done.admitted)))
    (any_more (is_between file.filing.filed (last_touched file.filing file.acts)) (is_between file.filing.filed (last_day h)) (requested_day file.acts)
    (λ n. between_later file.filing.filed (last_touched file.filing file.acts) (last_day h) n done.until)
    (request_dated_in file.filing file.acts done.admitted))

certificate_sound : OfEachFile (λ h file. AreWithinLimits h → has_sound_certificate (last_day h) (state_of file) ≡ true)
certificate_sound h id file is there within =
    let done = done_to h id file is there in
    and_from _ _
    (any_more (is_between (file.filing.filed + 1) (last_touched file.filing file.acts + longest_temporary))
    (is_between (file.filing.filed + 1) (last_day h + longest_temporary)) (temporary_until file.acts)
    (λ n. between_later (file.filing.filed + 1) (last_touched file.filing file.acts + longest_temporary) (last_day h + longest_temporary) n
    (omega (arith, done.until)))
    (certificate_ends file.filing file.acts done.admitted (case_within h id file within there)))
    (if_some_number (temporary_until file.acts) (is_occupied (base_stage file.acts) && has_certificates file.filing.kind)
    (certificate_in file.filing file.acts done.admitted))

notices_sound : OfEachFile (λ h file. has_sound_notices (papers_of h file.filing.id) (state_of file) ≡ true)
notices_sound h id file is there =
    let admitted = (done_to h id file is there).admitted in
    let papers = ap (λ ps. length (opened ps)) (papers_of-case h id file there) in
    let here = open_counted file.filing.id (open_notices file.acts) file.acts (are_numbered file.filing file.acts admitted) in
    let those = ap length (still_those (λ number. not (is_cleared file.acts number)) (notices_given file.acts)) in
    and_from _ _ (eq-eqb (length (open_notices file.acts)) (length (opened (papers_of h file.filing.id))) (sym (papers ∙ here ∙ those)))
    (only_where (length (open_notices file.acts)) (is_begun (base_stage file.acts)) (notices_in file.filing file.acts admitted))

row_sound : OfEachFile (λ h file. AreWithinLimits h → has_sound_work (tables h) (file_row file) ≡ true)
row_sound h id file is there within =
    let admitted = (done_to h id file is there).admitted in
    and_from _ _ (and_from _ _ (and_from _ _ (and_from _ _ (and_from _ _ (done_in file.filing file.acts admitted) (request_sound h id file is there))
    (where_true (is_stopped file.acts) (may_be_stopped (base_stage file.acts)) (stopped_in file.filing file.acts admitted)))
    (ask_in file.filing file.acts admitted (case_within h id file within there)))
    (certificate_sound h id file is there within)) (notices_sound h id file is there)

pub work_sound : (h : History) → IsHistory h → AreWithinLimits h → IsTrue (is_sound_work (tables h))
work_sound h is within = all_rows (has_sound_work (tables h)) h is (λ id file there. row_sound h id file is there within)

-- The papers that are there already, after a command on a file: they stay, but for a notice that it clears.
use Rattle.std.proofs.Common.{◌≡◌, ◌<◌, ◌+◌, ℕ, ◌==◌, Bool, true, false, cond, not, List, [], ◌∷◌, length, refl, sym, ◌∙◌, ap, subst, map, arith}
use Rattle.std.specs.Prelude.{Option, None, Some, find, filter, option_map, unwrap_or, is_some, if◌then◌else◌, IsTrue, ◌||◌, ◌&&◌}
use Rattle.std.specs.List.{cons_option}
use Rattle.std.proofs.lemmas.Bool.{eqb-true, and_right}
use Rattle.std.proofs.lemmas.List.{map-append}
use Rattle.std.proofs.lemmas.Bool.Decides.{nat_tests}
use Rattle.permit_base.specs.declared.words.PaperSort.{PaperSort}
use Rattle.permit_base.specs.declared.request.Command.{Command}
use Rattle.permit_base.specs.declared.request.Request.TheVariants.{OnFile}
use Rattle.permit_model.specs.Search.{add_last, has_number, when}
use Rattle.permit_model.specs.History.{Deed, Founding, Upgrade, Accepted, Entry, History}
use Rattle.permit_model.specs.Files.{Filing, Act, act_of, acts_on, filings, case_file, case_numbered}
use Rattle.permit_model.specs.Work.{open_notices, paper_sort, makes_paper, paper_count}
use Rattle.permit_model.specs.Tables.{Paper, paper_by, paper_of_deed, papers_made, paper_days, paper_text, paper_terms, is_notice}
use Rattle.permit_model.specs.Machine.{IsHistory, IsFounding, MayFollow, paper_number}
use Rattle.permit_model.proofs.Appending.{command_entry}
use Rattle.permit_model.proofs.Notices.{notices_after, IsFresh, open_more}
use Rattle.permit_store.specs.Changes.{closed_by}
use Rattle.permit_office.proofs.Finding.{found_number}

-- the notices of a file that are open in a history
abbrev pub open_in : History → ℕ → List ℕ
open_in h file = open_notices (acts_on file h)

abbrev pub act_now : (caller day : ℕ) → Command → Option ℕ → Act
act_now caller day command number = record { caller = caller; day = day; command = command; number = number }

open_by : (caller day : ℕ) (command : Command) (number : Option ℕ) (acts : List Act) (b : Bool) → (b ≡ true → IsFresh acts command number) →
    open_notices (cons_option (option_map (λ (c : Command). act_now caller day c number) (if b then Some command else None)) acts)
    ≡ (if b then notices_after command number (open_notices acts) else open_notices acts)
open_by caller day command number acts true fresh = open_more caller day command number acts (fresh refl)
open_by caller day command number acts false fresh = refl

-- the open notices of each file after a command
pub open_after : (caller day id : ℕ) (command : Command) (number : Option ℕ) (h : History) (file : ℕ) →
    ((id == file) ≡ true → IsFresh (acts_on file h) command number) →
    open_in (command_entry caller day id command number ∷ h) file ≡ (if id == file then notices_after command number (open_in h file) else open_in h file)
open_after caller day id command number h file fresh = open_by caller day command number (acts_on file h) (id == file) fresh

-- ---- papers that stay

paper_stays : (later now : History) (entry : Entry) (deed : Deed) (before : History) → ((file : ℕ) → open_in later file ≡ open_in now file) →
    paper_of_deed later entry deed before ≡ paper_of_deed now entry deed before
paper_stays later now entry (Accepted (OnFile file command)) before same = ap (λ o. paper_by file o (act_of entry command) (acts_on file before)) (same file)
paper_stays later now entry _ before same = refl

-- papers stay where the same notices are open
pub papers_stay : (later now : History) → ((file : ℕ) → open_in later file ≡ open_in now file) → (h : History) → papers_made later h ≡ papers_made now h
papers_stay later now same [] = refl
papers_stay later now same (entry ∷ before) =
    ap (λ ps. add_last ps (paper_of_deed later entry entry.deed before)) (papers_stay later now same before)
    ∙ ap (λ p. add_last (papers_made now before) p) (paper_stays later now entry entry.deed before same)

-- ---- a notice more

-- an entry's paper of the file has a number below the bound
abbrev pub IsBelow : ℕ → ℕ → Deed → Option ℕ → Type 0
IsBelow id bound (Accepted (OnFile file command)) number = (file == id) ≡ true → unwrap_or number 0 < bound
IsBelow id bound _ number = Unit {0}

abbrev pub AreBelow : ℕ → ℕ → History → Type 0
AreBelow id bound [] = Unit {0}
AreBelow id bound (entry ∷ before) = IsBelow id bound entry.deed entry.number × AreBelow id bound before

below_by : (act : Act) (acts : List Act) (number : Option ℕ) (bound : ℕ) (m : Bool) → number ≡ when m (paper_count acts + 1) →
    length (cond m (act ∷ filter (λ (a : Act). makes_paper a.command) acts) (filter (λ (a : Act). makes_paper a.command) acts)) < bound →
    (unwrap_or number 0 < bound) × (paper_count acts < bound)
below_by act acts number bound true e small = let k : unwrap_or number 0 ≡ paper_count acts + 1 = ap (λ o. unwrap_or o 0) e in (omega arith, omega arith)
below_by act acts number bound false e small = let k : unwrap_or number 0 ≡ 0 = ap (λ o. unwrap_or o 0) e in (omega arith, omega arith)

number_by : (h : History) (id : ℕ) (command : Command) (o : Option Filing) → find (λ (f : Filing). f.id == id) (filings h) ≡ o →
    IsTrue (is_some (option_map (case_file h) o)) →
    paper_number command (option_map (case_file h) o) ≡ when (makes_paper command) (paper_count (acts_on id h) + 1)
number_by h id command None e there = cc
number_by h id command (Some f) e there = ap (λ n. when (makes_paper command) (paper_count (acts_on n h) + 1))
    (found_number (λ (g : Filing). g.id) id (filings h) f e)

below_command : (h : History) (id g caller day bound : ℕ) (command : Command) (number : Option ℕ) (b : Bool) → (g == id) ≡ b →
    number ≡ paper_number command (case_numbered h g) → IsTrue (is_some (case_numbered h g)) →
    paper_count (cons_option (option_map (act_of (record { caller = caller; day = day; deed = Accepted (OnFile g command); number = number }))
    (if b then Some command else None)) (acts_on id h)) < bound →
    (b ≡ true → unwrap_or number 0 < bound) × (paper_count (acts_on id h) < bound)
below_command h id g caller day bound command number false e numbered there small = (λ t. cc, small)
below_command h id g caller day bound command number true e numbered there small =
    let same : g ≡ id = eqb-true g id e in
    let found : IsTrue (is_some (case_numbered h id)) = subst (λ n. IsTrue (is_some (case_numbered h n))) same there in
    let next : number ≡ when (makes_paper command) (paper_count (acts_on id h) + 1) =
    numbered ∙ ap (λ n. paper_number command (case_numbered h n)) same ∙ number_by h id command (find (λ (f : Filing). f.id == id) (filings h)) refl found in
    let both = below_by (act_now caller day command number) (acts_on id h) number bound (makes_paper command) next small in
    (λ t. both.0, both.1)

below_deed : (h : History) (id caller day bound : ℕ) (deed : Deed) (number : Option ℕ) →
    MayFollow h (record { caller = caller; day = day; deed = deed; number = number }) deed →
    paper_count (acts_on id (record { caller = caller; day = day; deed = deed; number = number } ∷ h)) < bound → IsBelow id bound deed number
    × (paper_count (acts_on id h) < bound)
below_deed h id caller day bound (Founding name digest) number may small = absurd may
below_deed h id caller day bound Upgrade number may small = (tt, small)
below_deed h id caller day bound (Accepted (OnFile g command)) number may small =
    below_command h id g caller day bound command number (g == id) refl may.numbered may.record_there small
below_deed h id caller day bound (Accepted request) number may small = (tt, small)

below_first : (id caller day bound : ℕ) (deed : Deed) (number : Option ℕ) →
    IsFounding (record { caller = caller; day = day; deed = deed; number = number }) deed → IsBelow id bound deed number
below_first id caller day bound (Founding name digest) number is = tt
below_first id caller day bound Upgrade number is = absurd is
below_first id caller day bound (Accepted request) number is = absurd is

-- a file's papers have numbers below any bound above their count
pub are_below : (h : History) (id bound : ℕ) → IsHistory h → paper_count (acts_on id h) < bound → AreBelow id bound h
are_below [] id bound is small = tt
are_below (entry ∷ []) id bound is small = (below_first id entry.caller entry.day bound entry.deed entry.number is, tt)
are_below (entry ∷ last ∷ before) id bound is small =
    let both = below_deed (last ∷ before) id entry.caller entry.day bound entry.deed entry.number is.0 small in
    (both.0, are_below (last ∷ before) id bound is.1 both.1)

same_way : (a b : ℕ) → (a == b) ≡ (b == a)
same_way a b = grind (arith, nat_tests)

other : (n m : ℕ) → m < n → (n == m) ≡ false
other n m below = grind (arith, nat_tests)

opened_by : (bound number : ℕ) (open_now : List ℕ) (b : Bool) → (b ≡ true → number < bound) →
    has_number (if b then bound ∷ open_now else open_now) number ≡ has_number open_now number
opened_by bound number open_now false small = refl
opened_by bound number open_now true small = ap (λ (t : Bool). t || has_number open_now number) (other bound number (small refl))

-- the paper of an act, by whether its number is among the open notices
abbrev paper_if : ℕ → Act → List Act → Bool → Option Paper
paper_if file act before is_open_now =
    option_map (λ s. record {
      file = file;
      number = unwrap_or act.number 0;
      day = act.day;
      author = act.caller;
      sort = s;
      days = paper_days act.command before;
      text = paper_text act.command;
      terms = paper_terms act.command;
      is_open = is_notice s && is_open_now;
    }) (paper_sort act.command)

stays_below : (later now : History) (id bound : ℕ) → ((file : ℕ) → open_in later file ≡ (if id == file then bound ∷ open_in now file else open_in now file)) →
    (entry : Entry) (deed : Deed) (before : History) → IsBelow id bound deed entry.number →
    paper_of_deed later entry deed before ≡ paper_of_deed now entry deed before
stays_below later now id bound opened entry (Accepted (OnFile file command)) before below =
    ap (λ o. paper_by file o (act_of entry command) (acts_on file before)) (opened file)
    ∙ ap (λ t. paper_if file (act_of entry command) (acts_on file before) t)
    (opened_by bound (unwrap_or entry.number 0) (open_in now file) (id == file) (λ e. below (same_way file id ∙ e)))
stays_below later now id bound opened entry _ before below = refl

-- a notice of a higher number leaves the papers that are there
pub papers_below : (later now : History) (id bound : ℕ) → ((file : ℕ) →
    open_in later file ≡ (if id == file then bound ∷ open_in now file else open_in now file)) →
    (h : History) → AreBelow id bound h → papers_made later h ≡ papers_made now h
papers_below later now id bound opened [] below = refl
papers_below later now id bound opened (entry ∷ before) below =
    ap (λ ps. add_last ps (paper_of_deed later entry entry.deed before)) (papers_below later now id bound opened before below.1)
    ∙ ap (λ p. add_last (papers_made now before) p) (stays_below later now id bound opened entry entry.deed before below.0)

-- ---- a notice cleared

cleared_by : (k m n : ℕ) (rest kept : Bool) (b c : Bool) → (m == k) ≡ b → (n == k) ≡ c → kept ≡ (if b then false else rest) →
    (if c then kept else ((n == m) || kept)) ≡ (if b then false else ((n == m) || rest))
cleared_by k m n rest kept true true e f ih = ih
cleared_by k m n rest kept true false e f ih =
    let d : (n == m) ≡ false = grind (arith, nat_tests) in
    ap (λ (t : Bool). t || kept) d ∙ ih
cleared_by k m n rest kept false true e f ih =
    let d : (n == m) ≡ false = grind (arith, nat_tests) in
    ih ∙ sym (ap (λ (t : Bool). t || rest) d)
cleared_by k m n rest kept false false e f ih = ap (λ (t : Bool). (n == m) || t) ih

without_by : (k m n : ℕ) (ns : List ℕ) (c : Bool) → has_number (cond (not c) (n ∷ filter (λ x. not (x == k)) ns) (filter (λ x. not (x == k)) ns)) m
    ≡ (if c then has_number (filter (λ x. not (x == k)) ns) m else ((n == m) || has_number (filter (λ x. not (x == k)) ns) m))
without_by k m n ns true = refl
without_by k m n ns false = refl

nothing_left : (b : Bool) → false ≡ (if b then false else false)
nothing_left true = refl
nothing_left false = refl

-- a number that is taken out is not among those left
pub without : (k m : ℕ) (ns : List ℕ) → has_number (filter (λ n. not (n == k)) ns) m ≡ (if m == k then false else has_number ns m)
without k m [] = nothing_left (m == k)
without k m (n ∷ ns) =
    without_by k m n ns (n == k)
    ∙ cleared_by k m n (has_number ns m) (has_number (filter (λ x. not (x == k)) ns) m) (m == k) (n == k) refl refl (without k m ns)

cleared_in : (k m : ℕ) (open_now : List ℕ) (b c : Bool) → (m == k) ≡ c →
    has_number (if b then filter (λ n. not (n == k)) open_now else open_now) m ≡ (if b && c then false else has_number open_now m)
cleared_in k m open_now false c e = refl
cleared_in k m open_now true c e = without k m open_now ∙ ap (λ (t : Bool). if t then false else has_number open_now m) e

closed_paper : (p : Paper) (notice was : Bool) (c : Bool) → record p { is_open = notice && (if c then false else was) }
    ≡ (if c then record p { is_open = false } else record p { is_open = notice && was })
closed_paper p notice was true = ap (λ t. record p { is_open = t }) (and_right notice false refl)
closed_paper p notice was false = refl

closed_if : (file id k : ℕ) (act : Act) (before : List Act) (was : Bool) (o : Option PaperSort) → paper_sort act.command ≡ o →
    paper_if file act before (if (id == file) && (unwrap_or act.number 0 == k) then false else was) ≡ option_map (closed_by id k) (paper_if file act before was)
closed_if file id k act before was None e = rw e refl
closed_if file id k act before was (Some s) e = rw (e, same_way id file) (ap Some (closed_paper (record {
  file = file;
  number = unwrap_or act.number 0;
  day = act.day;
  author = act.caller;
  sort = s;
  days = paper_days act.command before;
  text = paper_text act.command;
  terms = paper_terms act.command;
  is_open = false;
}) (is_notice s) was ((file == id) && (unwrap_or act.number 0 == k))))

paper_closes : (later now : History) (id k : ℕ) → ((file : ℕ) → open_in later file
    ≡ (if id == file then filter (λ n. not (n == k)) (open_in now file) else open_in now file)) →
    (entry : Entry) (deed : Deed) (before : History) → paper_of_deed later entry deed before ≡ option_map (closed_by id k) (paper_of_deed now entry deed before)
paper_closes later now id k cleared entry (Accepted (OnFile file command)) before =
    ap (λ o. paper_by file o (act_of entry command) (acts_on file before)) (cleared file)
    ∙ ap (λ t. paper_if file (act_of entry command) (acts_on file before) t)
    (cleared_in k (unwrap_or entry.number 0) (open_in now file) (id == file) (unwrap_or entry.number 0 == k) refl)
    ∙ closed_if file id k (act_of entry command) (acts_on file before) (has_number (open_in now file) (unwrap_or entry.number 0)) (paper_sort command) refl
paper_closes later now id k cleared entry _ before = refl

closed_last : (id k : ℕ) (papers : List Paper) (o : Option Paper) → add_last (map (closed_by id k) papers) (option_map (closed_by id k) o)
    ≡ map (closed_by id k) (add_last papers o)
closed_last id k papers None = refl
closed_last id k papers (Some p) = sym (map-append (closed_by id k) papers (p ∷ []))

-- a clearing closes the file's paper of the number, and leaves each other one
pub papers_close : (later now : History) (id k : ℕ) → ((file : ℕ) → open_in later file
    ≡ (if id == file then filter (λ n. not (n == k)) (open_in now file) else open_in now file)) →
    (h : History) → papers_made later h ≡ map (closed_by id k) (papers_made now h)
papers_close later now id k cleared [] = refl
papers_close later now id k cleared (entry ∷ before) =
    ap (λ ps. add_last ps (paper_of_deed later entry entry.deed before)) (papers_close later now id k cleared before)
    ∙ ap (λ p. add_last (map (closed_by id k) (papers_made now before)) p) (paper_closes later now id k cleared entry entry.deed before)
    ∙ closed_last id k (papers_made now before) (paper_of_deed now entry entry.deed before)

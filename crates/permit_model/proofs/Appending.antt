-- What one more act on a file changes.
use Rattle.std.proofs.Common.{◌≡◌, ◌≢◌, ◌≤◌, ◌<◌, ℕ, ◌+◌, max, Bool, true, false, not, cond, ◌==◌, List, [], ◌∷◌, map, length, refl, ap, arith}
use Rattle.std.specs.Prelude.{suc, ◌-◌, ◌||◌, IsTrue, if◌then◌else◌, Option, Some, unwrap_or, option_map, filter}
use Rattle.permit_model.specs.Search.{has_number}
use Rattle.permit_base.specs.declared.words.Stage.TheVariants as stage
use Rattle.permit_base.specs.declared.request.Command.{Command}
use Rattle.std.specs.Option.{option_or}
use Rattle.permit_model.specs.Search.{latest}
use Rattle.permit_model.specs.Days.{greatest}
use Rattle.permit_model.specs.Effects.{effects}
use Rattle.permit_model.specs.Files.{Filing, Act, CaseFile}
use Rattle.permit_model.specs.Work.{notices_given, is_cleared, open_notices}
use Rattle.permit_model.specs.BaseStage.{base_stage}
use Rattle.permit_model.specs.Deadline.{extended}
use Rattle.std.proofs.lemmas.Bool.{eqb-true, ne_eqb}
use Rattle.permit_base.specs.declared.request.Request.TheVariants.{OnFile}
use Rattle.permit_model.specs.Search.{when}
use Rattle.permit_model.specs.History.{Accepted, Entry, History}
use Rattle.permit_model.specs.Files.{filings, case_file, case_files}
use Rattle.permit_model.specs.Work.{makes_paper, paper_count}

-- the file with one more act
abbrev pub with_act : CaseFile → Act → CaseFile
with_act file act = record { filing = file.filing; acts = act ∷ file.acts }

-- ---- the stage

unwrap_or-option_or : {A : Type 0} (a b : Option A) (d : A) → unwrap_or (option_or a b) d ≡ unwrap_or a (unwrap_or b d)
unwrap_or-option_or a b d = grind arith

-- an act gives its stage, or leaves the one before
pub base_stage-more : (act : Act) (acts : List Act) → base_stage (act ∷ acts) ≡ unwrap_or ((effects act.command).stage) (base_stage acts)
base_stage-more act acts = unwrap_or-option_or ((effects act.command).stage) (latest (λ a. (effects a.command).stage) acts) stage.Filed

-- ---- the deadline

pub extended-zero : (xs : List ℕ) → extended 0 xs ≡ xs
extended-zero [] = refl
extended-zero (x ∷ xs) = let e : x + 0 ≡ x = omega arith in rw (e, extended-zero xs)

greatest_step : (days x : ℕ) (rest : Option ℕ) → max (x + days) (unwrap_or (option_map (λ r. r + days) rest) 0) ≡ max x (unwrap_or rest 0) + days
greatest_step days x rest = grind arith

-- granted days move the greatest reach by as many
pub greatest-extended : (days : ℕ) (xs : List ℕ) → greatest (extended days xs) ≡ option_map (λ r. r + days) (greatest xs)
greatest-extended days [] = refl
greatest-extended days (x ∷ xs) = rw (greatest-extended days xs) (ap Some (greatest_step days x (greatest xs)))

-- ---- the whole row

-- ---- the list of files

-- an entry of a command on a file
abbrev pub command_entry : (caller day id : ℕ) → Command → Option ℕ → Entry
command_entry caller day id command number = record { caller = caller; day = day; deed = Accepted (OnFile id command); number = number }

-- the file, with the act where it is on this file
abbrev pub touched : ℕ → Act → CaseFile → CaseFile
touched id act file = if id == file.filing.id then with_act file act else file

case_touched : (caller day id : ℕ) (command : Command) (number : Option ℕ) (h : History) (filing : Filing) →
    case_file (command_entry caller day id command number ∷ h) filing
    ≡ touched id (record { caller = caller; day = day; command = command; number = number }) (case_file h filing)
case_touched caller day id command number h filing = grind arith

all_touched : (caller day id : ℕ) (command : Command) (number : Option ℕ) (h : History) (made : List Filing) →
    map (case_file (command_entry caller day id command number ∷ h)) made
    ≡ map (touched id (record { caller = caller; day = day; command = command; number = number })) (map (case_file h) made)
all_touched caller day id command number h [] = refl
all_touched caller day id command number h (filing ∷ made) =
    rw (case_touched caller day id command number h filing, all_touched caller day id command number h made) refl

-- a command on a file adds its act to that file, and leaves each other one
pub case_files-command : (caller day id : ℕ) (command : Command) (number : Option ℕ) (h : History) →
    case_files (command_entry caller day id command number ∷ h)
    ≡ map (touched id (record { caller = caller; day = day; command = command; number = number })) (case_files h)
case_files-command caller day id command number h = all_touched caller day id command number h (filings h)

-- ---- open notices

-- each paper has the next number
abbrev pub AreNumbered : List Act → Type 0
AreNumbered [] = Unit {0}
AreNumbered (act ∷ before) = (act.number ≡ when (makes_paper act.command) (paper_count before + 1)) × AreNumbered before

-- the numbers fall, from one that is at most the bound
abbrev pub FallFrom : ℕ → List ℕ → Type 0
FallFrom bound [] = Unit {0}
FallFrom bound (n ∷ ns) = (n ≤ bound) × (0 < n) × FallFrom (n - 1) ns

FallFrom-more : (bound more : ℕ) (ns : List ℕ) → bound ≤ more → FallFrom bound ns → FallFrom more ns
FallFrom-more bound more [] h f = tt
FallFrom-more bound more (n ∷ ns) h f = (omega (arith, f.0), f.1, f.2)

FallFrom-filter : (bound : ℕ) (keeps : ℕ → Bool) (ns : List ℕ) → FallFrom bound ns → FallFrom bound (filter keeps ns)
FallFrom-filter bound keeps [] f = tt
FallFrom-filter bound keeps (n ∷ ns) f = elim (keeps n) as (λ b. FallFrom bound (cond b (n ∷ filter keeps ns) (filter keeps ns))) [
  | true ↦ (f.0, f.1, FallFrom-filter (n - 1) keeps ns f.2)
  | false ↦ FallFrom-more (n - 1) bound (filter keeps ns) (omega (arith, f.0)) (FallFrom-filter (n - 1) keeps ns f.2)
]

-- nothing above the bound is taken out
keeps_all : (bound paper : ℕ) (ns : List ℕ) → FallFrom bound ns → bound < paper → length (filter (λ n. not (n == paper)) ns) ≡ length ns
keeps_all bound paper [] f above = refl
keeps_all bound paper (n ∷ ns) f above =
    let other : n ≢ paper = omega (arith, f.0, above) in
    let e : (n == paper) ≡ false = ne_eqb n paper other in
    let ih : length (filter (λ n. not (n == paper)) ns) ≡ length ns = keeps_all (n - 1) paper ns f.2 (omega (arith, f.0, above)) in
    rw (e, ih) refl

-- the two cases at the first of the open notices
cleared_here : (paper n : ℕ) (ns : List ℕ) (b : Bool) → (n == paper) ≡ b → FallFrom (n - 1) ns → 0 < n → IsTrue (b || has_number ns paper) →
    (IsTrue (has_number ns paper) → length (filter (λ n. not (n == paper)) ns) + 1 ≡ length ns) →
    length (cond (not b) (n ∷ filter (λ n. not (n == paper)) ns) (filter (λ n. not (n == paper)) ns)) + 1 ≡ suc (length ns)
cleared_here paper n ns b e f pos there ih = grind (arith, eqb-true, keeps_all)

-- clearing a notice that is open leaves one fewer
pub length-cleared : (bound paper : ℕ) (ns : List ℕ) → FallFrom bound ns → IsTrue (has_number ns paper) →
    length (filter (λ n. not (n == paper)) ns) + 1 ≡ length ns
length-cleared bound paper [] f there = cc
length-cleared bound paper (n ∷ ns) f there = cleared_here paper n ns (n == paper) refl f.2 f.1 there (length-cleared (n - 1) paper ns f.2)

-- one more command keeps the numbers of the notices falling
fall_more : (caller day : ℕ) (command : Command) (number : Option ℕ) (before : List Act) → number ≡ when (makes_paper command) (paper_count before + 1) →
    FallFrom (paper_count before) (notices_given before) →
    FallFrom (paper_count (record { caller = caller; day = day; command = command; number = number } ∷ before))
    (notices_given (record { caller = caller; day = day; command = command; number = number } ∷ before))
fall_more caller day command number before e f = grind (arith, FallFrom-more)

-- the notices have falling numbers, up to the count of papers
given_fall : (acts : List Act) → AreNumbered acts → FallFrom (paper_count acts) (notices_given acts)
given_fall [] numbered = tt
given_fall (act ∷ before) numbered = fall_more act.caller act.day act.command act.number before numbered.0 (given_fall before numbered.1)

-- the open notices have falling numbers, up to the count of papers
pub open_fall : (acts : List Act) → AreNumbered acts → FallFrom (paper_count acts) (open_notices acts)
open_fall acts numbered = FallFrom-filter (paper_count acts) (λ n. not (is_cleared acts n)) (notices_given acts) (given_fall acts numbered)

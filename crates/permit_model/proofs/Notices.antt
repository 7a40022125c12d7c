-- The open notices of a file after one more act.
use Rattle.std.proofs.Common.{◌≡◌, ◌≢◌, ◌≤◌, ◌<◌, ◌-◌, ℕ, Bool, true, false, not, cond, ◌==◌, List, [], ◌∷◌, refl, arith}
use Rattle.std.specs.Prelude.{Option, None, Some, filter, ◌||◌}
use Rattle.std.proofs.lemmas.Bool.{ne_eqb}
use Rattle.permit_base.specs.declared.request.Command.{Command}
use Rattle.permit_base.specs.declared.request.Command.TheVariants.{Notice, ClearNotice}
use Rattle.permit_model.specs.Search.{has_number}
use Rattle.permit_model.specs.Files.{Filing, Act}
use Rattle.permit_model.specs.Work.{notices_given, is_cleared, open_notices, paper_count}
use Rattle.permit_model.proofs.Appending.{FallFrom, open_fall}
use Rattle.permit_model.proofs.Projection.{WasAdmitted, WereAdmitted}
use Rattle.permit_model.proofs.Fronts.{are_numbered}
use Rattle.permit_model.proofs.Deadlines.{act_by, tests_passed}

-- what a command makes of the numbers of the open notices: a notice adds its own, a clearing takes one away
abbrev pub notices_after : Command → Option ℕ → List ℕ → List ℕ
notices_after (Notice text) (Some number) open_before = number ∷ open_before
notices_after (ClearNotice paper) number open_before = filter (λ n. not (n == paper)) open_before
notices_after _ number open_before = open_before

-- the number of a notice that the command gives is named by no clearing before it
abbrev pub IsFresh : List Act → Command → Option ℕ → Type 0
IsFresh before (Notice text) (Some number) = is_cleared before number ≡ false
IsFresh before _ number = Unit {0}

-- ---- one act more

taken_here : (paper n : ℕ) (cleared : ℕ → Bool) (ns : List ℕ) (a b : Bool) → (n == paper) ≡ a →
    filter (λ m. not ((m == paper) || cleared m)) ns ≡ filter (λ m. not (m == paper)) (filter (λ m. not (cleared m)) ns) →
    cond (not (a || b)) (n ∷ filter (λ m. not ((m == paper) || cleared m)) ns) (filter (λ m. not ((m == paper) || cleared m)) ns)
    ≡ filter (λ m. not (m == paper)) (cond (not b) (n ∷ filter (λ m. not (cleared m)) ns) (filter (λ m. not (cleared m)) ns))
taken_here paper n cleared ns a b e ih = grind arith

-- one more clearing takes its number away from those that are left
taken_away : (paper : ℕ) (cleared : ℕ → Bool) (ns : List ℕ) → filter (λ n. not ((n == paper) || cleared n)) ns
    ≡ filter (λ n. not (n == paper)) (filter (λ n. not (cleared n)) ns)
taken_away paper cleared [] = refl
taken_away paper cleared (n ∷ ns) = taken_here paper n cleared ns (n == paper) (cleared n) refl (taken_away paper cleared ns)

-- the open notices after one more act
pub open_more : (caller day : ℕ) (command : Command) (number : Option ℕ) (before : List Act) → IsFresh before command number →
    open_notices (act_by caller day command number ∷ before) ≡ notices_after command number (open_notices before)
open_more caller day (Notice text) None before fresh = refl
open_more caller day (Notice text) (Some n) before fresh = rw fresh refl
open_more caller day (ClearNotice paper) number before fresh = taken_away paper (is_cleared before) (notices_given before)
open_more caller day _ number before fresh = refl

-- ---- a notice has a number that no clearing named

either : (b c : Bool) → (b || c) ≡ true → b ≡ false → c ≡ true
either b c e f = grind arith

among_here : (bound n m : ℕ) (ns : List ℕ) (b : Bool) → (n == m) ≡ b → FallFrom bound (n ∷ ns) → (b || has_number ns m) ≡ true →
    (has_number ns m ≡ true → m ≤ n - 1) → m ≤ bound
among_here bound n m ns b e f there ih = grind arith

-- numbers that fall from a bound are at most the bound
among_falling : (bound m : ℕ) (ns : List ℕ) → FallFrom bound ns → has_number ns m ≡ true → m ≤ bound
among_falling bound m [] f there = cc
among_falling bound m (n ∷ ns) f there = among_here bound n m ns (n == m) refl f there (among_falling (n - 1) m ns f.2)

not_false : (b : Bool) → not b ≡ false → b ≡ true
not_false b e = grind arith

uncleared_more : (filing : Filing) (caller day : ℕ) (command : Command) (made : Option ℕ) (before : List Act) (number : ℕ) →
    WasAdmitted filing (act_by caller day command made) before → WereAdmitted filing before →
    paper_count (act_by caller day command made ∷ before) < number → (paper_count before < number → is_cleared before number ≡ false) →
    is_cleared (act_by caller day command made ∷ before) number ≡ false
uncleared_more filing caller day (ClearNotice paper) made before number w all above ih =
    let there : has_number (open_notices before) paper ≡ true = not_false (has_number (open_notices before) paper)
    (tests_passed filing (act_by caller day (ClearNotice paper) made) before w).1.0 in
    let small : paper ≤ paper_count before = among_falling (paper_count before) paper (open_notices before)
    (open_fall before (are_numbered filing before all)) there in
    let other : number ≢ paper = omega (arith, small, above) in
    let e : (number == paper) ≡ false = ne_eqb number paper other in
    rw e (ih above)
uncleared_more filing caller day _ made before number w all above ih = ih (omega (arith, above))

-- no clearing names a number above the count of papers
pub uncleared : (filing : Filing) (acts : List Act) (number : ℕ) → WereAdmitted filing acts → paper_count acts < number → is_cleared acts number ≡ false
uncleared filing [] number w above = refl
uncleared filing (act ∷ before) number w above = uncleared_more filing act.caller act.day act.command act.number before number w.0 w.1 above
    (uncleared filing before number w.1)

-- an admitted notice has a number that no clearing named
pub fresh : (filing : Filing) (caller day : ℕ) (command : Command) (number : Option ℕ) (before : List Act) →
    WasAdmitted filing (act_by caller day command number) before → WereAdmitted filing before → IsFresh before command number
fresh filing caller day command number before w all = grind (arith, uncleared)

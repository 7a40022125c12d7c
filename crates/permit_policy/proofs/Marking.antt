-- Which rules a pass over the sets of relations of a cell marks.
use Rattle.std.proofs.Common.{rules, ◌≡◌, ◌≢◌, ◌⊎◌, refl, ap, sym, ◌∙◌, arith, w64, Bool, true, false, not, cond, ◌&&◌, ◌||◌, ◌==◌, ℕ, suc, ◌+◌, ◌<◌}
use Rattle.std.proofs.Common.{◌≤◌, ◌^◌, zero-add, List, [], ◌∷◌, map, length, drop, get_or, set, Some, None, bit_and}
use Rattle.std.specs.Int.{bit_not, trailing_zeros}
use Rattle.std.specs.List.{position_from, flat_map, range_with_len}
use Rattle.std.proofs.Math.Dec.{eqb-suc-zero}
use Rattle.std.proofs.lemmas.Bool.Decides.{eqb_tells}
use Rattle.std.proofs.lemmas.Nat.Bits.{bit_at-trailing_zeros}
use Rattle.std.proofs.lemmas.List.{at_drop_more, at_drop_all, get_or-map, get_or-set_same, get_or-set_other}
use Rattle.std.proofs.lemmas.List.FromFn.{get_or-range_with_len}
use Rattle.permit_base.specs.declared.words.Role.{Role}
use Rattle.permit_base.specs.declared.words.Action.{Action}
use Rattle.permit_base.specs.declared.words.Relations.{Relations}
use Rattle.permit_model.specs.Facts.{Facts, no_relations}
use Rattle.permit_model.specs.Policy.{Rule, Policy, matches}
use Rattle.permit_model.specs.Opened.{Cell, cell_facts}
use Rattle.permit_policy.specs.Masks.{set_number, has_bit, has_set}
use Rattle.permit_policy.specs.Hits.{covers, IsHit}
use Rattle.permit_policy.specs.Dead.{deciding, IsLive}
use Rattle.permit_policy.specs.Marks.{is_marked}
use Rattle.permit_policy.proofs.Bits.{set_in_and, set_in_not, set_in_none}
use Rattle.permit_policy.proofs.Deciding.{matches_in}

-- ---- a mask that isn't 0 holds some set

bools : List Bool
bools = false ∷ true ∷ []

-- each set once, by its number
all_sets : List Relations
all_sets =
    flat_map (λ f. flat_map (λ e. flat_map (λ d. flat_map (λ c. flat_map (λ b. map (λ a.
    record { applicant = a; contractor = b; owner = c; assigned_reviewer = d; assigned_inspector = e; conflict = f }) bools) bools) bools) bools) bools) bools

set_numbers : map set_number all_sets ≡ range_with_len 0 64
unfolding all_sets bools
set_numbers = refl

sets_count : length all_sets ≡ 64
unfolding all_sets bools
sets_count = refl

numbered_set : (n : ℕ) → n < 64 → set_number (get_or all_sets n no_relations) ≡ n
numbered_set n h =
    let within : n < length all_sets = rw sets_count h in
    sym (get_or-map set_number all_sets n no_relations 0 within) ∙ ap (λ xs. get_or xs n 0) set_numbers ∙ get_or-range_with_len 0 64 n 0 h ∙ zero-add n

-- each number below 64 is a set's
pub set_of_number : (n : ℕ) → n < 64 → (one : Relations) × (set_number one ≡ n)
set_of_number n h = (get_or all_sets n no_relations, numbered_set n h)

pub some_set : (mask : ℕ) → mask < 2 ^ 64 → 0 < mask → (one : Relations) × (has_set mask one ≡ true)
some_set mask h k =
    let lowest = bit_at-trailing_zeros w64 mask k h in
    let n : ℕ = trailing_zeros w64 mask in
    let one : Relations = get_or all_sets n no_relations in
    let number : set_number one ≡ n = numbered_set n lowest.0 in
    (one, ap (has_bit mask) number ∙ ap (λ b. b == 1) lowest.1)

-- ---- one mark

or_none : (a : Bool) → a ≡ (a || false)
or_none a = grind arith

marked_by : (marks : List Bool) (i : ℕ) (b : Bool) (k : ℕ) → i < length marks → (((k == i) ≡ true) × (k ≡ i)) ⊎ (((k == i) ≡ false) × (k ≢ i))
    → is_marked (set marks i (is_marked marks i || b)) k ≡ (is_marked marks k || ((k == i) && b))
marked_by marks i b k h h2 = grind (arith, get_or-set_same, get_or-set_other, or_none)

-- a rule is marked too where it decides
pub marked_after : (marks : List Bool) (i : ℕ) (b : Bool) (k : ℕ) → i < length marks
    → is_marked (set marks i (is_marked marks i || b)) k ≡ (is_marked marks k || ((k == i) && b))
marked_after marks i b k h = marked_by marks i b k h (eqb_tells k i)

-- ---- the rules that are left

-- where no rule has decided, those from the place on do; where one has, it is marked
pub record Passes (rules : Policy) (place : ℕ) (facts : Facts) (undecided : Bool) (marks : List Bool) : Type 0 where
  pub left : undecided ≡ true → position_from (λ r. matches r facts) place (drop place rules) ≡ deciding rules facts
  pub marked : undecided ≡ false → (k : ℕ) → deciding rules facts ≡ Some k → is_marked marks k ≡ true

pub passes_start : (rules : Policy) (facts : Facts) (undecided : Bool) (marks : List Bool) → undecided ≡ true → Passes rules 0 facts undecided marks
passes_start rules facts undecided marks e = record { left = λ u. refl; marked = λ u k d. let bad : true ≡ false = sym e ∙ u in cc }

-- at the end no rule is left to decide
pub passes_end : (rules : Policy) (place : ℕ) (facts : Facts) (undecided : Bool) (marks : List Bool) → length rules ≤ place
    → Passes rules place facts undecided marks → (k : ℕ) → deciding rules facts ≡ Some k → is_marked marks k ≡ true
passes_end rules place facts true marks h p k d =
    let none : position_from (λ r. matches r facts) place (drop place rules) ≡ None =
    at_drop_all (λ rs. position_from (λ r. matches r facts) place rs) rules place h in
    let bad : None ≡ Some k = sym none ∙ p.left refl ∙ d in cc
passes_end rules place facts false marks h p k d = p.marked refl k d

or_left : (a b : Bool) → a ≡ true → (a || b) ≡ true
or_left a b e = rw e refl

or_right : (a b : Bool) → b ≡ true → (a || b) ≡ true
or_right a b e = grind arith

-- what the rule at the place finds
here_decides : (rules : Policy) (i : ℕ) (rule : Rule) (facts : Facts) (b : Bool) → i < length rules → rule ≡ get_or rules i rule → matches rule facts ≡ b
    → position_from (λ r. matches r facts) i (drop i rules) ≡ cond b (Some i) (position_from (λ r. matches r facts) (i + 1) (drop (i + 1) rules))
here_decides rules i rule facts b h e m =
    at_drop_more (λ rs. position_from (λ r. matches r facts) i rs) rules i rule h
    ∙ ap (λ r. position_from (λ x. matches x facts) i (r ∷ drop (i + 1) rules)) (sym e)
    ∙ ap (λ t. cond t (Some i) (position_from (λ r. matches r facts) (i + 1) (drop (i + 1) rules))) m

itself_by : (i : ℕ) → (((i == i) ≡ true) × (i ≡ i)) ⊎ (((i == i) ≡ false) × (i ≢ i)) → ((i == i) && true) ≡ true
itself_by i h = grind arith

is_itself : (i : ℕ) → ((i == i) && true) ≡ true
is_itself i = itself_by i (eqb_tells i i)

-- one set more: whether the rule matches, whether no rule before did, and whether the rule is marked for some set
abbrev pub Next : Policy → ℕ → Facts → Bool → Bool → Bool → List Bool → Type 0
Next rules i facts matched undecided found marks =
    Passes rules (i + 1) facts (undecided && not (matched && undecided)) (set marks i (is_marked marks i || found))

next : (rules : Policy) (i : ℕ) (facts : Facts) (matched undecided found : Bool) (marks : List Bool) → i < length marks
    → position_from (λ r. matches r facts) i (drop i rules) ≡ cond matched (Some i) (position_from (λ r. matches r facts) (i + 1) (drop (i + 1) rules))
    → ((matched && undecided) ≡ true → found ≡ true) → Passes rules i facts undecided marks → Next rules i facts matched undecided found marks
next rules i facts matched undecided found marks h here f p = grind (arith, is_itself, marked_after, or_right, or_left)

-- ---- a rule more

nonzero : (n : ℕ) → not (n == 0) ≡ true → 0 < n
nonzero n e = grind arith

not_zero : (n : ℕ) → not (suc n == 0) ≡ true
not_zero n = ap not (eqb-suc-zero n)

-- a mask that holds a set isn't 0
found_by : (n : ℕ) (one : Relations) → has_set n one ≡ true → not (n == 0) ≡ true
found_by n one e = grind (arith, set_in_none, not_zero)

-- the rule at a place, with the sets that it hits and those that it decides
pub record Decides (rules : Policy) (i : ℕ) (rule : Rule) (role : Role) (action : Action) (cell : Cell) (hits undecided decided : ℕ) : Type 0 where
  pub within : i < length rules
  pub here : rule ≡ get_or rules i rule
  pub fits : decided < 2 ^ 64
  pub hit : IsHit role action rule hits
  pub made : (one : Relations) → has_set decided one ≡ (covers rule cell && has_set hits one && has_set undecided one)

pub matched_by : (rules : Policy) (i : ℕ) (rule : Rule) (role : Role) (action : Action) (cell : Cell) (hits undecided decided : ℕ) (one : Relations)
    → Decides rules i rule role action cell hits undecided decided
    → matches rule (cell_facts role action cell one) ≡ (covers rule cell && has_set hits one)
matched_by rules i rule role action cell hits undecided decided one d = matches_in rule role action cell one ∙ ap (λ b. covers rule cell && b) (sym (d.hit one))

pub step_passes : (rules : Policy) (i : ℕ) (rule : Rule) (role : Role) (action : Action) (cell : Cell) (hits undecided decided : ℕ) (marks : List Bool)
    (one : Relations)
    → Decides rules i rule role action cell hits undecided decided → i < length marks
    → Passes rules i (cell_facts role action cell one) (has_set undecided one) marks
    → Passes rules (i + 1) (cell_facts role action cell one) (has_set (bit_and undecided (bit_not w64 decided)) one)
    (set marks i (is_marked marks i || not (decided == 0)))
step_passes rules i rule role action cell hits undecided decided marks one d h p =
    let facts = cell_facts role action cell one in
    let u = has_set undecided one in
    let m = covers rule cell && has_set hits one in
    let rest = here_decides rules i rule facts m d.within d.here (matched_by rules i rule role action cell hits undecided decided one d) in
    let found : (m && u) ≡ true → not (decided == 0) ≡ true = λ e. found_by decided one (d.made one ∙ e) in
    let left : has_set (bit_and undecided (bit_not w64 decided)) one ≡ (u && not (m && u)) =
    set_in_and undecided (bit_not w64 decided) one ∙ ap (λ b. u && b) (set_in_not decided one d.fits ∙ ap not (d.made one)) in
    rw left (next rules i facts m u (not (decided == 0)) marks h rest found p)

both_hold : (a b : Bool) → (a && b) ≡ true → (a ≡ true) × (b ≡ true)
both_hold a b e = grind arith

one_holds : (a b : Bool) → (a || b) ≡ true → (a ≡ true) ⊎ (b ≡ true)
one_holds a b e = grind arith

-- a rule that decides some sets is live
pub step_live : (rules : Policy) (i : ℕ) (rule : Rule) (role : Role) (action : Action) (cell : Cell) (hits undecided decided : ℕ) (marks : List Bool)
    → Decides rules i rule role action cell hits undecided decided
    → ((one : Relations) → Passes rules i (cell_facts role action cell one) (has_set undecided one) marks)
    → not (decided == 0) ≡ true → IsLive rules i
step_live rules i rule role action cell hits undecided decided marks d p n =
    let some = some_set decided d.fits (nonzero decided n) in
    let one : Relations = some.0 in
    let facts = cell_facts role action cell one in
    let parts = both_hold (covers rule cell && has_set hits one) (has_set undecided one) (sym (d.made one) ∙ some.1) in
    let first = here_decides rules i rule facts true d.within d.here (matched_by rules i rule role action cell hits undecided decided one d ∙ parts.0) in
    (facts, sym ((p one).left parts.1) ∙ first)

pub marks_kept : (marks : List Bool) (i : ℕ) (b : Bool) (k : ℕ) → i < length marks → is_marked marks k ≡ true →
    is_marked (set marks i (is_marked marks i || b)) k ≡ true
marks_kept marks i b k h e = marked_after marks i b k h ∙ or_left (is_marked marks k) ((k == i) && b) e

same_place : (k i : ℕ) → (k == i) ≡ true → (((k == i) ≡ true) × (k ≡ i)) ⊎ (((k == i) ≡ false) × (k ≢ i)) → k ≡ i
same_place k i e h = grind arith

live_at : (rules : Policy) (i k : ℕ) → k ≡ i → IsLive rules i → IsLive rules k
live_at rules i k e l = rw e l

sound_by : (rules : Policy) (Old : Type 0) (marks : List Bool) (i : ℕ) (b : Bool) (k : ℕ) → (is_marked marks k ≡ true → Old ⊎ IsLive rules k) →
    (b ≡ true → IsLive rules i)
    → (is_marked marks k ≡ true) ⊎ (((k == i) && b) ≡ true) → Old ⊎ IsLive rules k
sound_by rules Old marks i b k before here h = grind (arith, both_hold, live_at, same_place, eqb_tells)

pub marks_sound : (rules : Policy) (Old : Type 0) (marks : List Bool) (i : ℕ) (b : Bool) (k : ℕ) → i < length marks
    → (is_marked marks k ≡ true → Old ⊎ IsLive rules k) → (b ≡ true → IsLive rules i)
    → is_marked (set marks i (is_marked marks i || b)) k ≡ true → Old ⊎ IsLive rules k
marks_sound rules Old marks i b k h before here e = grind (arith, sound_by, one_holds, marked_after)

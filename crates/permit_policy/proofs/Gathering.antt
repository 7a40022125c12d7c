-- A list of groups with one piece more, which takes in each group that it can be one with.
use Rattle.std.proofs.Common.{◌≡◌, ◌≢◌, ◌⊎◌, inl, inr, refl, ap, sym, ◌∙◌, arith, Bool, true, false, not, cond, ◌&&◌, ◌||◌, ◌==◌, ℕ, ◌+◌, ◌<◌, ◌≤◌, List, [], ◌∷◌, ◌++◌, length, get_or, suc, take, drop, subst, ltb, bytes_eq, ◌^◌}
use Rattle.std.proofs.Common.{All, AllPairs, Some, None, position}
use Rattle.std.specs.List.{position_or_len, remove}
use Rattle.std.proofs.lemmas.List.Elements.{All-append, All-take, All-drop, All-get_or, All-cons, All-nil, All-push}
use Rattle.std.proofs.lemmas.Slice.Eq.{bytes_eq-Decides}
use Rattle.std.proofs.lemmas.Bool.{ltb-false}
use Rattle.std.proofs.lemmas.Bool.Decides.{eqb_tells}
use Rattle.permit_base.specs.declared.words.Effect.{Effect}
use Rattle.std.proofs.lemmas.List.Sums.{sum_by-remove, sum_by-append}
use Rattle.std.proofs.lemmas.List.Quantifiers.{all_pairs_push, all_pairs_remove}
use Rattle.permit_base.specs.declared.words.Relations.{Relations}
use Rattle.permit_model.specs.Opened.{Cell, same_truth}
use Rattle.permit_model.specs.Policy.{Decision, is_allow}
use Rattle.permit_policy.specs.Masks.{only_where, cell_number, has_set}
use Rattle.permit_policy.specs.Regions.{is_within, joined, region_of}
use Rattle.permit_policy.specs.Groups.{can_join, held, in_cell, is_cell, same_decision, AllHaveFacts, Decided, Gathers, GathersIn, GathersSets, HasFacts, IsApart, Tells}
use Rattle.permit_policy.specs.declared.groups.Group.{Group}
use Rattle.permit_policy.specs.declared.region.Region.{Region}
use Rattle.permit_policy.proofs.Marking.{some_set}
use Rattle.permit_policy.proofs.RegionLaws.{cells_same, within_cell, within_joined}

-- the piece of these decisions
abbrev pub piece_of : Region → Decision → Decision → Group
piece_of region by was = record { region = region; by = by; was = was }

-- ---- while the piece takes groups in

-- what holds of each of the groups and of the piece at first holds so still
pub record Gathering (first : Region) (by was : Decision) (old : List Group) (region : Region) (groups : List Group) : Type 0 where
  pub held : (cell : Cell) (set : Relations) → held old cell set + only_where (is_within first cell set) 1 ≤ 1
      → held groups cell set + only_where (is_within region cell set) 1 ≡ held old cell set + only_where (is_within first cell set) 1
  pub told : (now before : Decided) → Tells now before (piece_of first by was) → All (Tells now before) old
      → Tells now before (piece_of region by was) × All (Tells now before) groups
  pub full : HasFacts first → AllHaveFacts old → HasFacts region × AllHaveFacts groups
  pub apart : AllPairs IsApart old → AllPairs IsApart groups

pub gathering_starts : (first : Region) (by was : Decision) (old : List Group) → Gathering first by was old first old
gathering_starts first by was old = record { held = λ cell set h. refl; told = λ now before t all. (t, all); full = λ f all. (f, all); apart = λ a. a }

-- one truth value or the other, where not both hold
one_of : (a b : Bool) → only_where a 1 + only_where b 1 ≤ 1 → only_where (a || b) 1 ≡ only_where a 1 + only_where b 1
one_of a b h = grind arith

-- a group less, and the piece with its facts
moved : (left all other piece both whole : ℕ) → left + other ≡ all → all + piece ≡ whole → whole ≤ 1 → (other + piece ≤ 1 → both ≡ other + piece) → left + both ≡ whole
moved left all other piece both whole e f h g = let b : both ≡ other + piece = g (omega arith) in omega arith

truths_same : (a b : Bool) → same_truth a b ≡ true → a ≡ b
truths_same a b e = grind arith

effects_same : (a b : Effect) → is_allow a ≡ is_allow b → a ≡ b
effects_same a b e = grind arith

both_hold : (a b : Bool) → (a && b) ≡ true → (a ≡ true) × (b ≡ true)
both_hold a b e = grind arith

pub decisions_same : (a b : Decision) → same_decision a b ≡ true → a ≡ b
decisions_same a b e =
    let parts = both_hold (bytes_eq a.rule b.rule) (same_truth (is_allow a.effect) (is_allow b.effect)) e in
    let names : a.rule ≡ b.rule = (bytes_eq-Decides a.rule b.rule).0 parts.0 in
    let effects : a.effect ≡ b.effect = effects_same a.effect b.effect (truths_same _ _ parts.1) in
    let P : Effect → Decision = λ e. record { effect = e; rule = a.rule } in
    let Q : List ℕ → Decision = λ r. record { effect = b.effect; rule = r } in
    ap P effects ∙ ap Q names

one_holds : (a b : Bool) → (a || b) ≡ true → (a ≡ true) ⊎ (b ≡ true)
one_holds a b e = grind arith

or_right : (a b : Bool) → b ≡ true → (a || b) ≡ true
or_right a b e = grind arith

three_hold : (a b c : Bool) → (a && b && c) ≡ true → (a ≡ true) × (b ≡ true) × (c ≡ true)
three_hold a b c e = grind arith

-- what the piece and a group say, they say together
tells_joined : (now before : Decided) (region : Region) (by was : Decision) (other : Group) → can_join region by was other ≡ true
    → Tells now before (piece_of region by was) → Tells now before other → Tells now before (piece_of (joined other.region region) by was)
tells_joined now before region by was other j piece group = λ cell set within.
    let parts = three_hold _ _ _ j in
    let either = sym (within_joined other.region region cell set parts.0) ∙ within in
    elim (one_holds (is_within other.region cell set) (is_within region cell set) either) [
      | inl e ↦ let said = group cell set e in (said.0 ∙ decisions_same other.by by parts.1, said.1 ∙ decisions_same other.was was parts.2)
      | inr e ↦ piece cell set e
    ]

facts_joined : (region : Region) (by was : Decision) (other : Group) → can_join region by was other ≡ true → HasFacts region → HasFacts (joined other.region region)
facts_joined region by was other j f =
    let parts = three_hold _ _ _ j in
    (f.0, f.1, within_joined other.region region f.0 f.1 parts.0 ∙ or_right _ _ f.2)

all_left : {X : Type 0} (P : X → Type 0) (xs : List X) (i : ℕ) → All P xs → All P (remove xs i)
all_left P xs i all = All-append P (take i xs) (drop (suc i) xs) (All-take P i xs all) (All-drop P (suc i) xs all)

pub gathering_goes : (first : Region) (by was : Decision) (old : List Group) (region : Region) (groups : List Group) (place : ℕ) (other : Group)
    → place < length groups → other ≡ get_or groups place other → can_join region by was other ≡ true
    → Gathering first by was old region groups → Gathering first by was old (joined other.region region) (remove groups place)
gathering_goes first by was old region groups place other lt here j g =
    let parts = three_hold _ _ _ j in
    record {
      held = λ cell set h.
          let now = g.held cell set h in
          let less = sum_by-remove (λ (x : Group). only_where (is_within x.region cell set) 1) groups place other lt in
          let one : only_where (is_within (get_or groups place other).region cell set) 1 ≡ only_where (is_within other.region cell set) 1 =
          ap (λ (x : Group). only_where (is_within x.region cell set) 1) (sym here) in
          moved (held (remove groups place) cell set) (held groups cell set) (only_where (is_within other.region cell set) 1) (only_where (is_within region cell set) 1)
          (only_where (is_within (joined other.region region) cell set) 1) _ (omega arith) now h
          (λ k. ap (λ b. only_where b 1) (within_joined other.region region cell set parts.0) ∙ one_of _ _ k);
      told = λ now before t all.
          let both = g.told now before t all in
          let P : Group → Type 0 = Tells now before in
          let group : Tells now before other = subst P (sym here) (All-get_or P groups place other lt both.1) in
          (tells_joined now before region by was other j both.0 group, all_left P groups place both.1);
      full = λ f all.
          let both = g.full f all in
          (facts_joined region by was other j both.0, all_left (λ (x : Group). HasFacts x.region) groups place both.1);
      apart = λ a. all_pairs_remove IsApart groups place lt (g.apart a);
    }

none_by : {X : Type 0} (p : X → Bool) (x : X) (xs : List X) (b : Bool) → p x ≡ b → suc (length xs) ≤ cond (not b) (1 + position_or_len p xs) 0
    → (length xs ≤ position_or_len p xs → All (λ y. p y ≡ false) xs) → All (λ y. p y ≡ false) (x ∷ xs)
none_by p x xs true e h more = absurd (omega arith)
none_by p x xs false e h more = All-cons (λ y. p y ≡ false) x xs e (more (omega arith))

none_passes : {X : Type 0} (p : X → Bool) (xs : List X) → length xs ≤ position_or_len p xs → All (λ x. p x ≡ false) xs
none_passes p [] h = All-nil (λ x. p x ≡ false)
none_passes p (x ∷ xs) h = none_by p x xs (p x) refl h (none_passes p xs)

at_end : (b : Bool) (m n i : ℕ) → ltb m n ≡ b → cond b (Some i) None ≡ None → n ≤ m
at_end true m n i e h = cc
at_end false m n i e h = ltb-false m n e

pub gathering_ends : (first : Region) (by was : Decision) (old : List Group) (region : Region) (groups : List Group)
    → position (can_join region by was) groups ≡ None
    → Gathering first by was old region groups → Gathers first by was old (groups ++ piece_of region by was ∷ [])
gathering_ends first by was old region groups none g =
    let p = can_join region by was in
    let all = none_passes p groups (at_end _ (position_or_len p groups) (length groups) _ refl none) in
    record {
      held = λ cell set h.
          let now = g.held cell set h in
          let more = sum_by-append (λ (x : Group). only_where (is_within x.region cell set) 1) groups (piece_of region by was ∷ []) in omega arith;
      told = λ now before t said. let both = g.told now before t said in All-push (Tells now before) groups (piece_of region by was) both.1 both.0;
      full = λ f have. let both = g.full f have in All-push (λ (x : Group). HasFacts x.region) groups (piece_of region by was) both.1 both.0;
      apart = λ a. all_pairs_push IsApart groups (piece_of region by was) (g.apart a) (λ k d lt. All-get_or (λ y. p y ≡ false) groups k d lt all);
    }

-- ---- the sets of a cell

pub some_number : (n : ℕ) → n ≢ 0 → 0 < n
some_number n h = omega arith

number_itself : (n : ℕ) → (((n == n) ≡ true) × (n ≡ n)) ⊎ (((n == n) ≡ false) × (n ≢ n)) → (n == n) ≡ true
number_itself n h = grind arith

-- a cell is itself
pub cell_itself : (cell : Cell) → is_cell cell cell ≡ true
cell_itself cell = number_itself (cell_number cell) (eqb_tells (cell_number cell) (cell_number cell))

-- what a region of a cell says, by the sets
tells_cell : (now before : Decided) (sets : ℕ) (here : Cell) (by was : Decision)
    → ((set : Relations) → has_set sets set ≡ true → (now here set ≡ by) × (before here set ≡ was)) → Tells now before (piece_of (region_of sets here) by was)
tells_cell now before sets here by was said = λ cell set within.
    let parts = both_hold (is_cell here cell) (has_set sets set) (sym (within_cell sets here cell set) ∙ within) in
    let P : Cell → Type 0 = λ c. (now c set ≡ by) × (before c set ≡ was) in
    subst P (cells_same here cell parts.0) (said set parts.1)

facts_in_cell : (sets : ℕ) (here : Cell) → sets < 2 ^ 64 → 0 < sets → HasFacts (region_of sets here)
facts_in_cell sets here fits some =
    let one = some_set sets fits some in
    (here, one.0, within_cell sets here here one.0 ∙ ap (λ b. b && has_set sets one.0) (cell_itself here) ∙ one.1)

cell_by : (b c : Bool) → only_where (b && c) 1 ≡ only_where b (only_where c 1)
cell_by b c = grind arith

pub gathers_cell : (sets : ℕ) (here : Cell) (by was : Decision) (region : Region) (old new : List Group) → sets < 2 ^ 64 → 0 < sets → region ≡ region_of sets here
    → Gathers region by was old new → GathersSets sets here by was old new
gathers_cell sets here by was region old new fits some e gathers =
    let P : Region → Type 0 = λ r. Gathers r by was old new in
    let g : Gathers (region_of sets here) by was old new = subst P e gathers in
    record {
      held = λ cell set h.
          let same = ap (λ b. only_where b 1) (within_cell sets here cell set) ∙ cell_by (is_cell here cell) (has_set sets set) in
          let now = g.held cell set (omega arith) in omega arith;
      told = λ now before said. g.told now before (tells_cell now before sets here by was said);
      full = g.full (facts_in_cell sets here fits some);
      apart = g.apart;
    }

nothing_in : (here cell : Cell) (n : ℕ) → n ≡ 0 → in_cell here cell n ≡ 0
nothing_in here cell n e = grind arith

-- nothing is given
pub gathers_none : (here : Cell) (given : Relations → ℕ) (Told : Decided → Decided → Type 0) (old : List Group) → ((set : Relations) → given set ≡ 0)
    → GathersIn here given Told old old
gathers_none here given Told old none = record {
  held = λ cell set h. let nothing = nothing_in here cell (given set) (none set) in omega arith;
  told = λ now before said all. all;
  full = λ all. all;
  apart = λ a. a;
}

sum_in : (here cell : Cell) (m n : ℕ) → in_cell here cell (m + n) ≡ in_cell here cell m + in_cell here cell n
sum_in here cell m n = grind arith

-- one gathering, and then another
pub gathers_then : (here : Cell) (given more both : Relations → ℕ) (Told More Both : Decided → Decided → Type 0) (old mid new : List Group)
    → ((set : Relations) → both set ≡ given set + more set) → ((now before : Decided) → Both now before → Told now before × More now before)
    → GathersIn here given Told old mid → GathersIn here more More mid new → GathersIn here both Both old new
gathers_then here given more both Told More Both old mid new sum parts a b = record {
  held = λ cell set h.
      let whole = ap (in_cell here cell) (sum set) ∙ sum_in here cell (given set) (more set) in
      let first = a.held cell set (omega arith) in
      let second = b.held cell set (omega arith) in omega arith;
  told = λ now before said all. let said = parts now before said in b.told now before said.1 (a.told now before said.0 all);
  full = λ all. b.full (a.full all);
  apart = λ all. b.apart (a.apart all);
}

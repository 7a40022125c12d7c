-- What a policy allows, cell after cell.
use Rattle.std.proofs.Common.{◌≡◌, inl, inr, refl, ap, sym, ◌∙◌, arith, subst, Bool, true, false, not, ◌&&◌, ◌==◌, ℕ, ◌+◌, ◌-◌, ◌<◌, ◌≤◌, ◌^◌, List, [], ◌∷◌, length, get_or, map, count_by, cond, slice_index, All, AllPairs}
use Rattle.std.proofs.lemmas.Bool.Decides.{eqb_tells}
use Rattle.std.proofs.lemmas.List.Elements.{All-head, All-map, All-nil}
use Rattle.std.proofs.Common.{◌++◌, take}
use Rattle.std.proofs.lemmas.List.{get_or-map, length-map, map-append, take_more}
use Rattle.permit_base.specs.declared.words.Action.{Action}
use Rattle.permit_policy.specs.declared.access.Row.{Row}
use Rattle.std.proofs.lemmas.List.Sums.{sum_by-cons}
use Rattle.std.proofs.lemmas.Slice.Eq.{bytes_eq-Decides}
use Rattle.permit_base.specs.declared.words.Relations.{Relations}
use Rattle.permit_model.specs.Opened.{Cell, Allowed, same_truth}
use Rattle.permit_model.specs.Policy.{Decision, is_allow}
use Rattle.permit_policy.specs.Masks.{only_where, cell_number, has_set, may}
use Rattle.permit_policy.specs.Groups.{held, same_decision, AllHaveFacts, GathersSets, HasFacts, IsApart, Tells}
use Rattle.permit_policy.specs.Access.{action_of, AreAllowed, IsEmpty, IsFull}
use Rattle.permit_policy.specs.Regions.{is_within, joins}
use Rattle.permit_policy.specs.declared.groups.Group.{Group}
use Rattle.permit_policy.specs.declared.region.Region.{Region}
use Rattle.permit_policy.proofs.Bits.{set_in_every, set_in_not}
use Rattle.permit_policy.proofs.Marking.{some_set}
use Rattle.permit_policy.proofs.CellNumbers.{cell_below, cell_of}
use Rattle.permit_policy.proofs.RegionLaws.{number_back}
use Rattle.permit_policy.proofs.Changing.{held_elsewhere, held_here, at_most, below_other}

-- what is allowed in the cells before the number; each later one is still empty
pub record AllowsBefore (masks : List ℕ) (unnamed : Decision) (number : ℕ) (groups : List Group) : Type 0 where
  pub done : (cell : Cell) (set : Relations) → cell_number cell < number → held groups cell set ≡ only_where (may masks cell set) 1
  pub left : (cell : Cell) (set : Relations) → number ≤ cell_number cell → held groups cell set ≡ 0
  pub told : All (Tells (λ cell set. unnamed) (λ cell set. unnamed)) groups
  pub full : AllHaveFacts groups
  pub apart : AllPairs IsApart groups

pub allows_none : (masks : List ℕ) (unnamed : Decision) (groups : List Group) → groups ≡ [] → AllowsBefore masks unnamed 0 groups
allows_none masks unnamed groups e =
    let P : List Group → Type 0 = AllowsBefore masks unnamed 0 in
    subst P (sym e) (record {
      done = λ cell set h. absurd (omega arith);
      left = λ cell set h. refl;
      told = All-nil (Tells (λ cell set. unnamed) (λ cell set. unnamed));
      full = All-nil (λ (group : Group). HasFacts group.region);
      apart = λ i j d h k. absurd (omega arith);
    })

-- one cell more
pub allows_next : (masks : List ℕ) (unnamed : Decision) (number : ℕ) (here : Cell) (word : ℕ) (old new : List Group)
    → number < 112 → ((cell : Cell) → cell_number cell ≡ number → here ≡ cell) → word ≡ slice_index masks (cell_number here)
    → AllowsBefore masks unnamed number old → GathersSets word here unnamed unnamed old new → AllowsBefore masks unnamed (number + 1) new
allows_next masks unnamed number here word old new lt numbered e c g =
    let at : cell_number here ≡ number = ap cell_number (numbered (cell_of number) (number_back number lt)) ∙ number_back number lt in
    record {
      done = λ cell set h. elim (eqb_tells number (cell_number cell)) [
        | inl f ↦
            let P : Cell → Type 0 = λ x. held new cell set ≡ only_where (may masks x set) 1 in
            subst P (numbered cell (sym f.1))
            (held_here here cell _ _ old new set (ap (λ n. n == cell_number cell) at ∙ f.0) (c.left cell set (omega arith)) (at_most (has_set word set)) g
            ∙ ap (λ w. only_where (has_set w set) 1) e)
        | inr f ↦
            let kept = c.done cell set (omega arith) in
            let few = at_most (may masks cell set) in
            held_elsewhere here cell _ _ old new set (ap (λ n. n == cell_number cell) at ∙ f.0) (omega arith) g ∙ kept
      ];
      left = λ cell set h.
          let none = c.left cell set (omega arith) in
          held_elsewhere here cell _ _ old new set (ap (λ n. n == cell_number cell) at ∙ below_other number (cell_number cell) h) (omega arith) g ∙ none;
      told = g.told (λ cell set. unnamed) (λ cell set. unnamed) (λ set h. (refl, refl)) c.told;
      full = g.full c.full;
      apart = g.apart c.apart;
    }

-- ---- regions alone

count_bare : (p : Region → Bool) (groups : List Group) → count_by p (map (λ (group : Group). group.region) groups) ≡ count_by (λ group. p group.region) groups
count_bare p [] = refl
count_bare p (x ∷ xs) =
    sum_by-cons (λ r. cond (p r) 1 0) x.region (map (λ (group : Group). group.region) xs)
    ∙ ap (λ n. cond (p x.region) 1 0 + n) (count_bare p xs)
    ∙ sym (sum_by-cons (λ (group : Group). cond (p group.region) 1 0) x xs)

one_truth : (b : Bool) → same_truth b b ≡ true
one_truth b = grind arith

itself : (d : Decision) → same_decision d d ≡ true
itself d = ap (λ b. b && same_truth (is_allow d.effect) (is_allow d.effect)) ((bytes_eq-Decides d.rule d.rule).1 refl) ∙ one_truth (is_allow d.effect)

first_alone : (x y z : Bool) → y ≡ true → z ≡ true → (x && y && z) ≡ false → x ≡ false
first_alone x y z p q e = grind arith

-- groups that are decided alike are apart by their regions
by_region : (unnamed : Decision) (a b : Group) → a.by ≡ unnamed → a.was ≡ unnamed → b.by ≡ unnamed → b.was ≡ unnamed → IsApart a b → joins a.region b.region ≡ false
by_region unnamed a b p q r s apart =
    first_alone (joins a.region b.region) _ _
    (ap (λ x. same_decision x b.by) (p ∙ sym r) ∙ itself b.by) (ap (λ x. same_decision x b.was) (q ∙ sym s) ∙ itself b.was) apart

-- a group with facts says what is decided for all
unnamed_at : (masks : List ℕ) (unnamed : Decision) (number : ℕ) (groups : List Group) (k : ℕ) (d : Group) → k < length groups → AllowsBefore masks unnamed number groups
    → ((get_or groups k d).by ≡ unnamed) × ((get_or groups k d).was ≡ unnamed)
unnamed_at masks unnamed number groups k d lt c =
    let facts = c.full k d lt in
    let said = c.told k d lt facts.0 facts.1 facts.2 in (sym said.0, sym said.1)

pub all_allowed : (masks : List ℕ) (unnamed : Decision) (number : ℕ) (groups : List Group) → 112 ≤ number → AllowsBefore masks unnamed number groups
    → AreAllowed (may masks) (map (λ (group : Group). group.region) groups)
all_allowed masks unnamed number groups h c = record {
  once = λ cell set. let known = cell_below cell in count_bare (λ r. is_within r cell set) groups ∙ c.done cell set (omega arith);
  full = All-map HasFacts (λ (group : Group). group.region) groups c.full;
  apart = λ i j d lt within.
      let f : Group → Region = λ group. group.region in
      let g : Group = record { region = d; by = unnamed; was = unnamed } in
      let count = length-map groups f in
      let below : j < length groups = omega arith in
      let first : i < length groups = omega arith in
      let a = unnamed_at masks unnamed number groups i g first c in
      let b = unnamed_at masks unnamed number groups j g below c in
      let at_i : get_or (map f groups) i d ≡ (get_or groups i g).region = get_or-map f groups i g d first in
      let at_j : get_or (map f groups) j d ≡ (get_or groups j g).region = get_or-map f groups j g d below in
      ap (λ r. joins r (get_or (map f groups) j d)) at_i ∙ ap (joins (get_or groups i g).region) at_j
      ∙ by_region unnamed (get_or groups i g) (get_or groups j g) a.0 a.1 b.0 b.1 (c.apart i j g lt below);
}

-- ---- full and empty

pub full_next : (masks : List ℕ) (number : ℕ) (here : Cell) (word : ℕ) → ((cell : Cell) → cell_number cell ≡ number → here ≡ cell) → word ≡ slice_index masks (cell_number here)
    → word ≡ 2 ^ 64 - 1 → ((cell : Cell) (set : Relations) → cell_number cell < number → may masks cell set ≡ true)
    → (cell : Cell) (set : Relations) → cell_number cell < number + 1 → may masks cell set ≡ true
full_next masks number here word numbered e every before cell set h = elim (eqb_tells (cell_number cell) number) [
  | inl f ↦
      let P : Cell → Type 0 = λ x. may masks x set ≡ true in
      subst P (numbered cell f.1) (ap (λ w. has_set w set) (sym e ∙ every) ∙ set_in_every set)
  | inr f ↦ before cell set (omega arith)
]

more_left : (word : ℕ) → word < 2 ^ 64 → (word ≡ 2 ^ 64 - 1 → ⊥) → 0 < 2 ^ 64 - 1 - word
more_left word h n = omega arith

left_fits : (word : ℕ) → 2 ^ 64 - 1 - word < 2 ^ 64
left_fits word = omega arith

never_both : (b : Bool) → not b ≡ true → b ≡ true → ⊥
never_both true e f = cc
never_both false e f = cc

pub not_full : (masks : List ℕ) (here : Cell) (word : ℕ) → word ≡ slice_index masks (cell_number here) → word < 2 ^ 64 → (word ≡ 2 ^ 64 - 1 → ⊥) → IsFull (may masks) → ⊥
not_full masks here word e fits n full =
    let some = some_set (2 ^ 64 - 1 - word) (left_fits word) (more_left word fits n) in
    never_both (has_set word some.0) (sym (set_in_not word some.0 fits) ∙ some.1) (ap (λ w. has_set w some.0) e ∙ full here some.0)

one_there : (b : Bool) (n : ℕ) → b ≡ true → cond b 1 0 + n ≡ 0 → ⊥
one_there b n e f = grind arith

none_counted : (b : Bool) → only_where b 1 ≡ 0 → b ≡ false
none_counted b e = grind arith

-- where there is a region, something is allowed
pub not_empty : (allowed : Allowed) (regions : List Region) → 0 < length regions → AreAllowed allowed regions → IsEmpty allowed → ⊥
not_empty allowed [] h c none = omega arith
not_empty allowed (r ∷ rs) h c none =
    let facts = All-head HasFacts r rs c.full in
    let cell = facts.0 in
    let set = facts.1 in
    one_there (is_within r cell set) _ facts.2 (sym (sum_by-cons (λ x. cond (is_within x cell set) 1 0) r rs) ∙ c.once cell set ∙ ap (λ b. only_where b 1) (none cell set))

pub is_empty : (allowed : Allowed) (regions : List Region) → regions ≡ [] → AreAllowed allowed regions → IsEmpty allowed
is_empty allowed regions e c = λ cell set.
    none_counted (allowed cell set) (sym (c.once cell set) ∙ ap (λ xs. count_by (λ r. is_within r cell set) xs) e)

-- the same of what is allowed in the same cells to the same sets
pub allowed_as : (first second : Allowed) (regions : List Region) → ((cell : Cell) (set : Relations) → first cell set ≡ second cell set) → AreAllowed first regions → AreAllowed second regions
allowed_as first second regions same c = record {
  once = λ cell set. c.once cell set ∙ ap (λ b. only_where b 1) (same cell set);
  full = c.full;
  apart = c.apart;
}

some_by : (n : ℕ) → false ≡ (n == 0) → 0 < n
some_by n e = grind arith

pub some_regions : (regions : List Region) (n : ℕ) → length regions ≡ n → false ≡ (n == 0) → 0 < length regions
some_regions regions n e f = let some = some_by n f in omega arith

-- one row more
pub rows_next : (rows more : List Row) (actions : List Action) (i : ℕ) (d : Action) (one : Row) → i < length actions → one.action ≡ get_or actions i d → more ≡ rows ++ one ∷ []
    → map action_of rows ≡ take i actions → map action_of more ≡ take (i + 1) actions
rows_next rows more actions i d one h e m k =
    ap (map action_of) m ∙ map-append action_of rows (one ∷ []) ∙ ap (λ xs. xs ++ one.action ∷ []) k ∙ ap (λ a. take i actions ++ a ∷ []) e ∙ sym (take_more actions i d h)

-- Groups of facts of one role and one action, with what two policies decide for them.
use Rattle.std.specs.Prelude.{◌≡◌, ◌≤◌, ◌+◌, ◌==◌, ℕ, Bool, true, false, not, ◌&&◌, List, bytes_eq, count_by, All, AllPairs}
use Rattle.permit_base.specs.declared.words.Relations.{Relations}
use Rattle.permit_model.specs.Opened.{Cell, same_truth}
use Rattle.permit_model.specs.Policy.{Decision, is_allow}
use Rattle.permit_policy.specs.Masks.{only_where, cell_number, has_set}
use Rattle.permit_policy.specs.Regions.{is_within, joins}
use Rattle.permit_policy.specs.declared.groups.Group.{Group}
use Rattle.permit_policy.specs.declared.region.Region.{Region}

-- ---- decisions

-- whether two decisions are one
abbrev pub same_decision : Decision → Decision → Bool
same_decision a b = bytes_eq a.rule b.rule && same_truth (is_allow a.effect) (is_allow b.effect)

-- whether one allows what the other denies
abbrev pub differ : Decision → Decision → Bool
differ a b = not (same_truth (is_allow a.effect) (is_allow b.effect))

-- what is decided in each cell for each set of relations
abbrev pub Decided : Type 0
Decided = Cell → Relations → Decision

-- ---- groups

-- whether the group says that what was denied is allowed
abbrev pub opens : Group → Bool
opens group = is_allow group.by.effect

-- how many of the groups have the set in the cell
abbrev pub held : List Group → Cell → Relations → ℕ
held groups cell set = count_by (λ group. is_within group.region cell set) groups

-- the two policies decide each of the group's facts as the group says
abbrev pub Tells : Decided → Decided → Group → Type 0
Tells by was group = (cell : Cell) (set : Relations) → is_within group.region cell set ≡ true → (by cell set ≡ group.by) × (was cell set ≡ group.was)

-- the group has some facts
abbrev pub HasFacts : Region → Type 0
HasFacts region = (cell : Cell) × (set : Relations) × (is_within region cell set ≡ true)

-- whether the facts and the group differ in one of the four sets alone, or in none
abbrev pub can_join : Region → Decision → Decision → Group → Bool
can_join region by was group = joins group.region region && same_decision group.by by && same_decision group.was was

-- the two groups differ in a decision, or in two of the four sets at least
abbrev pub IsApart : Group → Group → Type 0
IsApart a b = can_join b.region b.by b.was a ≡ false

-- ---- one piece more

-- the facts of a group
abbrev pub AllHaveFacts : List Group → Type 0
AllHaveFacts groups = All (λ group. HasFacts group.region) groups

-- New has old and the facts of the region, of which old has none. All that is said of the groups of old holds of those of new, if it
-- holds of the facts.
pub record Gathers (region : Region) (by was : Decision) (old new : List Group) : Type 0 where
  pub held : (cell : Cell) (set : Relations) → held old cell set + only_where (is_within region cell set) 1 ≤ 1
      → held new cell set ≡ held old cell set + only_where (is_within region cell set) 1
  pub told : (now before : Decided) → Tells now before (record { region = region; by = by; was = was }) → All (Tells now before) old → All (Tells now before) new
  pub full : HasFacts region → AllHaveFacts old → AllHaveFacts new
  pub apart : AllPairs IsApart old → AllPairs IsApart new

-- whether two cells are one
abbrev pub is_cell : Cell → Cell → Bool
is_cell a b = cell_number a == cell_number b

-- the number where two cells are one, else 0
abbrev pub in_cell : Cell → Cell → ℕ → ℕ
in_cell here cell n = only_where (is_cell here cell) n

-- New has old and, in one cell, each set of relations as often as it is given, if old has none of them there. All that is said of the
-- groups of old holds of those of new, if it is so of what is given.
pub record GathersIn (here : Cell) (given : Relations → ℕ) (Told : Decided → Decided → Type 0) (old new : List Group) : Type 0 where
  pub held : (cell : Cell) (set : Relations) → held old cell set + in_cell here cell (given set) ≤ 1
      → held new cell set ≡ held old cell set + in_cell here cell (given set)
  pub told : (now before : Decided) → Told now before → All (Tells now before) old → All (Tells now before) new
  pub full : AllHaveFacts old → AllHaveFacts new
  pub apart : AllPairs IsApart old → AllPairs IsApart new

-- the same of the sets of a mask
abbrev pub GathersSets : ℕ → Cell → Decision → Decision → List Group → List Group → Type 0
GathersSets sets here by was =
    GathersIn here (λ set. only_where (has_set sets set) 1) (λ now before. (set : Relations) → has_set sets set ≡ true → (now here set ≡ by) × (before here set ≡ was))

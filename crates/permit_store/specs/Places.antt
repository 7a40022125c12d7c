-- Where rows are: by their numbers, and by a text of their own, as a party's digest or a parcel's lot.
use Rattle.std.specs.Prelude.{◌≡◌, ◌<◌, ◌≤◌, ℕ, ◌==◌, nat_eq, Bool, cond, List, length, map, min, get_or, Option, None, Some, IfSome, IsSomeAnd}
use Rattle.std.specs.List.{position_from, range_with_len}
use Rattle.std.specs.HashMap.{HashMap, get}
use Rattle.std.specs.Hash.FoldHasher as folding

-- the rows are numbered from 1 without a gap, so each is where its number says
abbrev pub AreNumbered : {A : Type 0} → (A → ℕ) → List A → Type 0
AreNumbered number rows = map number rows ≡ range_with_len 1 (length rows)

-- the hash of a text, by which it is looked for
unfoldable pub mark_of : List ℕ → ℕ
mark_of bytes = folding.finish (folding.write folding.initial bytes)

-- the place of the first row whose text has the mark, where the rows start at this place
abbrev pub first_marked : {A : Type 0} → (A → List ℕ) → ℕ → ℕ → List A → Option ℕ
first_marked text mark place rows = position_from (λ row. mark_of (text row) == mark) place rows

-- each mark leads to the first row that has it
abbrev pub LeadToFirst : {A S : Type 0} → (A → List ℕ) → List A → HashMap ℕ ℕ S → Type 0
LeadToFirst text rows marks = (mark : ℕ) → get nat_eq marks mark ≡ first_marked text mark 0 rows

-- where a mark leads once it is led to a place after the others: where it led, if it did
abbrev pub led_after : Option ℕ → Bool → ℕ → Option ℕ
led_after (Some before) here place = Some before
led_after None here place = cond here (Some place) None

-- ---- where a row's text may change

-- where a mark leads once it is led to a place, unless it leads before it
abbrev pub led_before : Option ℕ → Bool → ℕ → Option ℕ
led_before (Some before) here place = Some (cond here (min before place) before)
led_before None here place = cond here (Some place) None

-- a mark leads to the place or to one before it
abbrev pub IsLedBy : Option ℕ → ℕ → Type 0
IsLedBy led place = IsSomeAnd led (λ first. first ≤ place)

-- a mark that leads anywhere leads to one of so many
abbrev pub IsWithin : Option ℕ → ℕ → Type 0
IsWithin led count = IfSome led (λ place. place < count)

-- each row's mark leads to the row or before it, and no mark leads elsewhere than to a row: one that no row has any longer may
-- lead to one still
pub record LeadBefore {A S : Type 0} (text : A → List ℕ) (rows : List A) (marks : HashMap ℕ ℕ S) : Type 0 where
  pub led : (k : ℕ) (d : A) → k < length rows → IsLedBy (get nat_eq marks (mark_of (text (get_or rows k d)))) k
  pub within : (m : ℕ) → IsWithin (get nat_eq marks m) (length rows)

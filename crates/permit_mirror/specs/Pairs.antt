-- Numbers under keys.
use Rattle.std.specs.Prelude.{◌≤◌, ℕ, ◌+◌, Bool, IsTrue, List, [], ◌∷◌, ⊤}
use Rattle.std.specs.BTreeSet.{contains}
use Rattle.std.specs.Ordering.{ordering_then, nat_cmp}
use Rattle.std.specs.declared.cmp.Ordering.{Ordering}
use Rattle.permit_mirror.specs.declared.pairs.Pairs.{Pairs}

-- pairs are ordered by their keys, and those of one key by their numbers
abbrev pub pair_cmp : ℕ × ℕ → ℕ × ℕ → Ordering
pair_cmp a b = ordering_then (nat_cmp a.0 b.0) (nat_cmp a.1 b.1)

-- whether the number is under the key
abbrev pub has : Pairs → ℕ → ℕ → Bool
has pairs key number = contains pair_cmp pairs.set (key, number)

-- each number stays under its key
abbrev pub Grows : Pairs → Pairs → Type 0
Grows old new = (key number : ℕ) → IsTrue (has old key number) → IsTrue (has new key number)

-- each file on a parcel is a file of each of the parties at the parcel
abbrev pub IsClosed : (files_of files_on people_at : Pairs) → Type 0
IsClosed files_of files_on people_at =
    (parcel file party : ℕ) → IsTrue (has files_on parcel file) → IsTrue (has people_at parcel party) → IsTrue (has files_of party file)

-- the numbers rise, and the first isn't below this one
abbrev pub RiseFrom : ℕ → List ℕ → Type 0
RiseFrom low [] = ⊤
RiseFrom low (number ∷ numbers) = (low ≤ number) × RiseFrom (number + 1) numbers

-- The seal of tables.
use Rattle.std.specs.Prelude.{◌≡◌, ℕ, List}
use Rattle.std.specs.List.Sorted.{IsStrictlySortedBy}
use Rattle.std.specs.Ordering.{nat_cmp, ordering_then}
use Rattle.std.specs.declared.cmp.Ordering.{Ordering}
use Rattle.permit_base.specs.Digests.{digest_of}
use Rattle.permit_model.specs.Parcels.{Interest}
use Rattle.permit_model.specs.Tables.{Tables}
use Rattle.permit_store.specs.Interests.{DeclareSame}
use Rattle.permit_replay.specs.TablesText.{tables_text}

-- by parcel, and those of a parcel by party
abbrev pub interest_order : Interest → Interest → Ordering
interest_order a b = ordering_then (nat_cmp a.parcel b.parcel) (nat_cmp a.party b.party)

-- the digest of the tables' text, in which each declared interest is written once, in rising order
pub record IsSealOf (t : Tables) (digest : List ℕ) : Type 0 where
  pub interests : List Interest
  pub declared : DeclareSame interests t.interests
  pub rising : IsStrictlySortedBy interest_order interests
  pub is : digest ≡ digest_of (tables_text t interests)

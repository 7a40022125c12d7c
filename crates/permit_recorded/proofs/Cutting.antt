-- What a cut leaves that ends early.
use Rattle.std.proofs.Common.{◌≡◌, ◌≤◌, sym, subst, ℕ, List, length, drop, take}
use Rattle.std.proofs.lemmas.List.{length-take-le, take-append-drop}
use Rattle.std.specs.Prelude.{Result, Ok, Err, OnErr}
use Rattle.permit_journal.specs.Files.{Grown, LeavesGrown, Only}
use Rattle.permit_recorded.specs.Resuming.{HasPart}

module _ (leaves : List ℕ → List ℕ → Type 0) where
  -- the whole text has all of what is after the length
  pub whole : (text : List ℕ) (size : ℕ) → leaves (drop size text) (drop size text) → HasPart leaves text size text
  whole text size all = record { part = drop size text; allowed = all; grown = sym (take-append-drop size text) }

  pub left_by_cut : (text old new : List ℕ) (size : ℕ) → leaves (drop size text) (drop size text) → size ≤ length text → old ≡ text
      → ((base bytes : List ℕ) → length base ≡ size → Grown leaves bytes base old → Grown leaves bytes base new) → HasPart leaves text size new
  left_by_cut text old new size all within is part =
      part (take size text) (drop size text) (length-take-le size text within) (subst (HasPart leaves text size) (sym is) (whole text size all))

  pub crash_of_cut : (text : List ℕ) (old new : List ℕ → Type 0) (size : ℕ) → leaves (drop size text) (drop size text) → size ≤ length text → Only text old
      → ((base bytes : List ℕ) → length base ≡ size → LeavesGrown leaves bytes base old → LeavesGrown leaves bytes base new)
      → (c : List ℕ) → new c → HasPart leaves text size c
  crash_of_cut text old new size all within durable crash c left =
      crash (take size text) (drop size text) (length-take-le size text within)
      (λ d may. subst (HasPart leaves text size) (sym (durable d may)) (whole text size all)) c left

pub on_err : {A E P : Type 0} (r : Result A E) → P → OnErr r P
on_err (Ok done) fact = tt
on_err (Err why) fact = fact

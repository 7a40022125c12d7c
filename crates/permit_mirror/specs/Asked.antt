-- What a read asks of the store that keeps the tables.
use Rattle.std.specs.Prelude.{◌≡◌, Bool, IsFalse, Result, OnOk}

-- Memory answered. Where the store that keeps the tables was trusted, it wasn't asked, and stays trusted. After an answer it is
-- trusted.
pub record IsFromMemory {S A E : Type 0} (was_wary is_wary : Bool) (old_kept new_kept : S) (result : Result A E) : Type 0 where
  pub unasked : IsFalse was_wary → new_kept ≡ old_kept
  pub stays : IsFalse was_wary → IsFalse is_wary
  pub trusted : OnOk result (IsFalse is_wary)

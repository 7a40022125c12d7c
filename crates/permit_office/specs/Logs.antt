-- What an office enters into a log before a command is done, and what a log's calls leave of a store.
use Rattle.std.specs.Prelude.{◌≡◌, ◌⊎◌, ◌≤◌, ℕ, Option}
use Rattle.permit_base.specs.declared.request.Request.{Request}
use Rattle.permit_model.specs.Tables.{Tables}
use Rattle.permit_store.specs.Counts.{next_count}
use Rattle.permit_store.specs.Frames.{StoreView, HasOneDesk}

-- what is entered of a command: whose it is, what is asked, the number that its record gets if it makes one, and its day
pub record Noted : Type 0 where
  pub caller : ℕ
  pub asked : Request
  pub number : Option ℕ
  pub day : ℕ

abbrev pub note : (caller : ℕ) → Request → Option ℕ → (day : ℕ) → Noted
note caller asked number day = record { caller = caller; asked = asked; number = number; day = day }

-- nothing was called
pub record IsStill (old new : StoreView) : Type 0 where
  pub kept : (t : Tables) → old.holds t → new.holds t
  pub one : HasOneDesk old → HasOneDesk new
  pub doubt : new.doubt ≡ old.doubt
  pub failed : new.failed ≡ old.failed
  pub commits : new.commits ≡ old.commits
  pub handed : new.handed ≡ old.handed

-- At most one call was made, which reads: what is held stays, no doubt goes, no commit was called and no row handed out.
pub record IsWithdrawing (old new : StoreView) : Type 0 where
  pub kept : (t : Tables) → old.holds t → new.holds t
  pub doubt : old.doubt ≤ new.doubt
  pub failed : (new.failed ≡ old.failed) ⊎ (new.failed ≡ next_count old.failed)
  pub commits : new.commits ≡ old.commits
  pub handed : new.handed ≡ old.handed

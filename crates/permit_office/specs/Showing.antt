-- A listing whose files go to a taker one at a time.
use Rattle.std.specs.Prelude.{◌≡◌, ◌⊎◌, ◌≤◌, ℕ, ◌%◌, ◌^◌, Bool, true, false, not, IsTrue, List, Option, Some, Result, Ok, Err, ⊤}
use Rattle.permit_base.specs.declared.refusal.Refusal.TheVariants as refusal
use Rattle.permit_core.specs.Taking.{TookAll, StoppedIn, BeganOf}
use Rattle.permit_model.specs.Tables.{FileView, Tables}
use Rattle.permit_model.specs.Machine.{Reply, Listed, Refused}
use Rattle.permit_store.specs.declared.store.StoreError.{StoreError}
use Rattle.permit_store.specs.Counts.{next_count}
use Rattle.permit_store.specs.Frames.{StoreView, HasOneDesk}
use Rattle.permit_office.specs.declared.showing.RowsEnd.{RowsEnd}
use Rattle.permit_office.specs.declared.showing.RowsEnd.TheVariants as ended
use Rattle.permit_office.specs.Callers.{RefusesCaller}
use Rattle.permit_office.specs.Reach.{HandedMore}

-- a call of the store that failed, and want of memory, end as the store's refusal
abbrev pub end_of : Result RowsEnd StoreError → RowsEnd
end_of (Ok end) = end
end_of (Err e) = ended.Refused refusal.Store

-- each file was taken and each answer true, or the taker asked to stop at the last file that it took
abbrev pub TakesUp : {T : Type 0} → (T → FileView → T → Bool → Type 0) → List FileView → T → T → Bool → Type 0
TakesUp took files old new true = TookAll took files old new
TakesUp took files old new false = StoppedIn took files old new

-- What the taker was given is the listing of the machine's reply: all of it, or a prefix. Where the machine refuses,
-- nothing was taken.
abbrev pub Shows : {T : Type 0} → (T → FileView → T → Bool → Type 0) → Reply → T → T → RowsEnd → Type 0
Shows took (Listed files) old new (ended.All read) = TookAll took files old new
Shows took (Listed files) old new ended.Stopped = StoppedIn took files old new
Shows took (Listed files) old new (ended.Refused refusal.Store) = BeganOf took files old new
Shows took (Refused why) old new (ended.Refused refusal.Store) = new ≡ old
Shows took (Refused why) old new (ended.Refused told) = (told ≡ why) × (new ≡ old)
Shows took reply old new end = ⊥

-- a listing of some files, or why it is refused
abbrev pub IsListing : Reply → Type 0
IsListing (Listed files) = ⊤
IsListing (Refused why) = RefusesCaller why
IsListing reply = ⊥

-- What the taker was given is some listing, whichever tables there are.
abbrev pub ShowsSome : {T : Type 0} → (T → FileView → T → Bool → Type 0) → T → T → RowsEnd → Type 0
ShowsSome took old new end = (reply : Reply) × IsListing reply × Shows took reply old new end

-- the end for want of memory or a failing store
abbrev pub is_store_end : RowsEnd → Bool
is_store_end (ended.Refused refusal.Store) = true
is_store_end _ = false

-- such an end may mean a call that failed, another means none
abbrev pub FailedAt : RowsEnd → ℕ → ℕ → Type 0
FailedAt (ended.Refused refusal.Store) old new = (new ≡ old) ⊎ (new ≡ next_count old)
FailedAt end old new = new ≡ old

-- so many rows were handed out for a listing as its end reports; none for a caller or a clock that is refused
abbrev pub HandedAt : RowsEnd → ℕ → ℕ → Type 0
HandedAt (ended.All read) old new = (rows : ℕ) × (read ≡ rows % 2 ^ 32) × HandedMore rows old new
HandedAt ended.Stopped old new = ⊤
HandedAt (ended.Refused refusal.Store) old new = ⊤
HandedAt (ended.Refused why) old new = new ≡ old

-- the rows opened are those read for a listing that was taken whole
abbrev pub OpensAt : Option ℕ → RowsEnd → ℕ → ℕ → Type 0
OpensAt (Some rows) (ended.All read) old new = (read ≡ rows) × HandedMore rows old new
OpensAt rows end old new = ⊤

-- Only reads. After any end but the store's refusal, a store that is without doubt can be read.
pub record IsShowing (old new : StoreView) (end : RowsEnd) : Type 0 where
  pub kept : (t : Tables) → old.holds t → new.holds t
  pub one : new.doubt ≡ 0 → IsTrue (not (is_store_end end)) → HasOneDesk new
  pub doubt : old.doubt ≤ new.doubt
  pub failed : FailedAt end old.failed new.failed
  pub commits : new.commits ≡ old.commits
  pub handed : HandedAt end old.handed new.handed

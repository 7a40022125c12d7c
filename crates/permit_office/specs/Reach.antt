-- How far a request reaches into the rows of files, and how the counts of handed rows and of failed calls then move.
use Rattle.std.specs.Prelude.{◌≡◌, ◌⊎◌, ℕ, ◌%◌, ◌^◌, Bool, true, false, Result, Ok, Err, ⊤}
use Rattle.permit_base.specs.declared.refusal.Refusal.TheVariants as refusal
use Rattle.permit_base.specs.declared.request.Request.{Request}
use Rattle.permit_base.specs.declared.request.Request.TheVariants as request
use Rattle.permit_store.specs.declared.store.StoreError.{StoreError}
use Rattle.permit_store.specs.Counts.{next_count, failed_after}
use Rattle.permit_store.specs.Handing.{more_handed}
use Rattle.permit_office.specs.declared.reply.Listing.{Listing}
use Rattle.permit_office.specs.declared.reply.Reply.{Reply as Given}
use Rattle.permit_office.specs.declared.reply.Reply.TheVariants as given
use Rattle.permit_office.specs.Answers.{failed_by}

-- to no row, to the row of the file that is named, or to the rows of a listing
pub data Reach : Type 0 where
  NoRow : Reach
  OneRow : Reach
  ManyRows : Reach

-- how far the request reaches
abbrev pub reach_of : Request → Reach
reach_of (request.AddParty name role token) = NoRow
reach_of (request.AddParcel lot address owner) = NoRow
reach_of (request.Transfer parcel to) = NoRow
reach_of (request.Declare parcel) = NoRow
reach_of (request.ReadParcel parcel) = NoRow
reach_of (request.File parcel kind valuation description) = NoRow
reach_of (request.ReadFile file) = OneRow
reach_of (request.OnFile file command) = OneRow
reach_of (request.ListFiles wanted) = ManyRows
reach_of (request.Register kind) = ManyRows

-- whether a list is made
abbrev pub is_many : Reach → Bool
is_many NoRow = false
is_many OneRow = false
is_many ManyRows = true

-- ---- file rows handed out

-- a request on a file that is there hands one row out; with the store's refusal it may have
abbrev pub HandedOne : Given → ℕ → ℕ → Type 0
HandedOne (given.Refused refusal.Caller) old new = new ≡ old
HandedOne (given.Refused refusal.Clock) old new = new ≡ old
HandedOne (given.Refused refusal.Record) old new = new ≡ old
HandedOne (given.Refused refusal.Store) old new = (new ≡ old) ⊎ (new ≡ next_count old)
HandedOne reply old new = new ≡ next_count old

-- so many rows more were handed out, by a count of 64 bits that goes round
abbrev pub HandedMore : ℕ → ℕ → ℕ → Type 0
HandedMore rows old new = new % 2 ^ 64 ≡ more_handed rows old

-- so many rows were handed out for a listing as it reports, by a count of 32 bits that goes round
pub record WereRead (listing : Listing) (old new : ℕ) : Type 0 where
  pub rows : ℕ
  pub told : listing.read ≡ rows % 2 ^ 32
  pub handed : HandedMore rows old new

-- nothing is said of the store's refusal, before which some rows may have been handed out
abbrev pub HandedMany : Given → ℕ → ℕ → Type 0
HandedMany (given.Listed listing) old new = WereRead listing old new
HandedMany (given.Register kind listing) old new = WereRead listing old new
HandedMany (given.Refused refusal.Store) old new = ⊤
HandedMany reply old new = new ≡ old

-- the count of rows handed out after a reply
abbrev pub HandedBy : Reach → Given → ℕ → ℕ → Type 0
HandedBy NoRow reply old new = new ≡ old
HandedBy OneRow reply old new = HandedOne reply old new
HandedBy ManyRows reply old new = HandedMany reply old new

-- the same of an attempt, in which a call of the store may have failed
abbrev pub HandedIn : Reach → Result Given StoreError → ℕ → ℕ → Type 0
HandedIn NoRow result old new = new ≡ old
HandedIn OneRow (Ok reply) old new = HandedOne reply old new
HandedIn OneRow (Err e) old new = (new ≡ old) ⊎ (new ≡ next_count old)
HandedIn ManyRows (Ok reply) old new = HandedMany reply old new
HandedIn ManyRows (Err e) old new = ⊤

-- ---- failed calls

-- The count of failed calls after a reply. The store's refusal of a listing means a call that failed, or want
-- of memory with no call failed.
abbrev pub FailedBy : Reach → Given → ℕ → ℕ → Type 0
FailedBy NoRow reply old new = new ≡ failed_by reply old
FailedBy OneRow reply old new = new ≡ failed_by reply old
FailedBy ManyRows (given.Refused refusal.Store) old new = (new ≡ old) ⊎ (new ≡ next_count old)
FailedBy ManyRows reply old new = new ≡ old

-- the same of an attempt
abbrev pub FailedIn : Reach → Result Given StoreError → ℕ → ℕ → Type 0
FailedIn NoRow result old new = new ≡ failed_after result old
FailedIn OneRow result old new = new ≡ failed_after result old
FailedIn ManyRows (Ok reply) old new = new ≡ old
FailedIn ManyRows (Err e) old new = (new ≡ old) ⊎ (new ≡ next_count old)

-- What an answer of the office says of the machine.
use Rattle.std.specs.Prelude.{◌≡◌, ◌⊎◌, ℕ, Bool, true, false, Option, None, Some, Result, Ok, Err, if◌then◌else◌, not, IsTrue}
use Rattle.permit_base.specs.declared.refusal.Reason.{Reason}
use Rattle.permit_base.specs.declared.refusal.Refusal.TheVariants as refusal
use Rattle.permit_model.specs.History.{History}
use Rattle.permit_model.specs.Tables.{Tables, tables}
use Rattle.permit_model.specs.Machine.{Reply, Done, ParcelShown, FileShown, Listed, RegisterShown, Refused, Outcome}
use Rattle.permit_store.specs.declared.store.StoreError.{StoreError}
use Rattle.permit_store.specs.Counts.{next_count}
use Rattle.permit_office.specs.declared.reply.Reply.{Reply as Given}
use Rattle.permit_office.specs.declared.reply.Reply.TheVariants as given

-- the machine's reply that a reply gives
abbrev pub reply_of : Given → Reply
reply_of (given.Done number) = Done number
reply_of (given.Parcel parcel) = ParcelShown parcel
reply_of (given.File file papers) = FileShown file papers.items
reply_of (given.Listed listing) = Listed listing.files.items
reply_of (given.Register kind listing) = RegisterShown kind listing.files.items
reply_of (given.Refused why) = Refused why

-- the refusal for want of memory or a failing store
abbrev pub is_store_refusal : Given → Bool
is_store_refusal (given.Refused refusal.Store) = true
is_store_refusal _ = false

-- the reply and the tables are the machine's, or the reply is the store's refusal and the tables are those before
abbrev pub Answers : (Tables → Type 0) → Given → Outcome → History → Type 0
Answers holds reply outcome before =
    ((reply_of reply ≡ outcome.reply) × holds (tables outcome.history)) ⊎ ((reply ≡ given.Refused refusal.Store) × holds (tables before))

-- the same of an attempt, in which a call of the store may have failed
abbrev pub Attempts : (Tables → Type 0) → Result Given StoreError → Outcome → History → Type 0
Attempts holds (Ok reply) outcome before = Answers holds reply outcome before
Attempts holds (Err e) outcome before = holds (tables before)

-- the reason against a request, where there is one
abbrev pub reason_in : {A : Type 0} → Result A Reason → Option Reason
reason_in (Ok a) = None
reason_in (Err reason) = Some reason

-- the count of commits after a reply: a command that is done makes one
abbrev pub commits_after : Given → ℕ → ℕ
commits_after (given.Done number) n = next_count n
commits_after _ n = n

-- a reply that is done has made one commit, another none; a failed attempt at most one
abbrev pub Committed : Result Given StoreError → ℕ → ℕ → Type 0
Committed (Ok reply) old new = new ≡ commits_after reply old
Committed (Err e) old new = (new ≡ old) ⊎ (new ≡ next_count old)

-- the same of a reply, in which a failed attempt is the store's refusal
abbrev pub CommittedBy : Given → ℕ → ℕ → Type 0
CommittedBy (given.Refused refusal.Store) old new = (new ≡ old) ⊎ (new ≡ next_count old)
CommittedBy reply old new = new ≡ commits_after reply old

-- ---- failed calls

-- the count of failed calls after a reply: the store's refusal means one, any other reply none
abbrev pub failed_by : Given → ℕ → ℕ
failed_by reply n = if is_store_refusal reply then next_count n else n

-- a reply that isn't the store's refusal
abbrev pub IsOwn : Given → Type 0
IsOwn reply = IsTrue (not (is_store_refusal reply))

-- the reply to a command that the policy allows: it is done or not admitted
abbrev pub IsDecided : Given → Type 0
IsDecided (given.Done number) = Unit {0}
IsDecided (given.Refused (refusal.NotAdmitted why)) = Unit {0}
IsDecided _ = ⊥

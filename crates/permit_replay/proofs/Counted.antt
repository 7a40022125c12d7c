-- How the failed calls of a store are counted while a command is accepted.
use Rattle.std.proofs.Common.{◌≡◌, ℕ}
use Rattle.std.specs.Prelude.{Result}
use Rattle.permit_store.specs.declared.store.StoreError.{StoreError}
use Rattle.permit_store.specs.Counts.{failed_after}
use Rattle.permit_office.specs.declared.accepting.Recorded.{Recorded}
use Rattle.permit_office.specs.declared.accepting.Recorded.TheVariants as recorded
use Rattle.permit_office.specs.declared.reply.Reply.{Reply}
use Rattle.permit_office.specs.Accepting.{reach_recorded}
use Rattle.permit_office.specs.Reach.{FailedIn}

-- a command that a history records reaches into no listing, so an error is of a call that failed
pub counted : (act : Recorded) (answer : Result Reply StoreError) (old new : ℕ) → FailedIn (reach_recorded act) answer old new
    → new ≡ failed_after answer old
counted (recorded.NewParty name role digest) answer old new failed = failed
counted (recorded.NewParcel lot address owner) answer old new failed = failed
counted (recorded.Transfer parcel to) answer old new failed = failed
counted (recorded.Declare parcel) answer old new failed = failed
counted (recorded.File parcel kind valuation description) answer old new failed = failed
counted (recorded.OnFile file command) answer old new failed = failed

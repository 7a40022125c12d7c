-- What is reported of a database in which an office is founded, of one that is upgraded, and of one in which a token is renewed.
use Rattle.std.specs.Prelude.{◌≡◌, ◌≢◌, ◌⊎◌, ℕ, List, Option, None, Some, Result, Ok, Err}
use Rattle.sqlite.specs.Effect.{Database}
use Rattle.permit_base.specs.Digests.{digest_of}
use Rattle.permit_base.specs.declared.refusal.Reason.TheVariants as reason
use Rattle.permit_base.specs.declared.refusal.Refusal.{Refusal}
use Rattle.permit_base.specs.declared.refusal.Refusal.TheVariants as refusal
use Rattle.permit_base.specs.declared.words.Edition.TheVariants.{First, Second}
use Rattle.permit_model.specs.Renewal.{against_renewal}
use Rattle.permit_model.specs.Tables.{Tables}
use Rattle.permit_import.specs.Refusals.{refused_by}
use Rattle.permit_import.specs.declared.refused.Refused.{Refused}
use Rattle.permit_store.specs.declared.store.OpenError.TheVariants as opening
use Rattle.permit_sql_rows.specs.Kept.{Keeps}
use Rattle.permit_sql_rows.specs.Schema.{empty_schema}
use Rattle.permit_sql.specs.Found.{KeepsSound, KeepsSoundUnder}
use Rattle.permit_sql.specs.Opening.{HasOtherVersion}
use Rattle.permit_sql.specs.Upgrading.{IsUpgraded}
use Rattle.permit_subcommands.specs.declared.failure.Failure.{Failure}
use Rattle.permit_subcommands.specs.declared.failure.Failure.TheVariants as failure
use Rattle.permit_database.specs.declared.outcome.Outcome.{Outcome}
use Rattle.permit_database.specs.declared.outcome.Outcome.TheVariants as outcome

-- It is reported as founded where it was empty, and as one that exists where it wasn't. A failed call says nothing of it.
abbrev pub IsFoundedAs : Database → Result Outcome Failure → Type 0
IsFoundedAs db (Ok outcome.Founded) = db.schema ≡ empty_schema
IsFoundedAs db (Ok _) = ⊥
IsFoundedAs db (Err (failure.Database opening.Exists)) = db.schema ≢ empty_schema
IsFoundedAs db (Err (failure.Database opening.Store)) = Unit {0}
IsFoundedAs db (Err _) = ⊥

-- It is reported as upgraded with the count of its files, or why it isn't.
abbrev pub IsUpgradedAs : Database → Database → Result Outcome Failure → Type 0
IsUpgradedAs old new (Ok (outcome.Upgraded files)) = IsUpgraded files old new
IsUpgradedAs old new (Ok _) = ⊥
IsUpgradedAs old new (Err (failure.Database opening.Damaged)) = ¬ KeepsSoundUnder First old
IsUpgradedAs old new (Err (failure.Database opening.Version)) = HasOtherVersion First old
IsUpgradedAs old new (Err (failure.Database opening.Store)) = Unit {0}
IsUpgradedAs old new (Err _) = ⊥

-- what is against giving the party the token, in the tables that the database keeps
abbrev pub StandsAgainst : ℕ → List ℕ → Database → Option Refusal → Type 0
StandsAgainst party token db against = (t : Tables) → Keeps t db → against_renewal t.parties party (digest_of token) ≡ against

-- It is reported that there is no such party, or that a party has the token, where that is against it.
abbrev pub IsRefusedRenewal : ℕ → List ℕ → Database → Refused → Type 0
IsRefusedRenewal party token db why =
    (against : Refusal) × (why ≡ refused_by against) × ((against ≡ refusal.Record) ⊎ (against ≡ refusal.NotAdmitted reason.Taken))
    × StandsAgainst party token db (Some against)

-- It is reported by the party's number where nothing is against it, or why the party has no new token. A failed call says nothing
-- of the tables.
abbrev pub IsRenewedAs : ℕ → List ℕ → Database → Result Outcome Failure → Type 0
IsRenewedAs party token db (Ok (outcome.Renewed number)) = (number ≡ party) × KeepsSound db × StandsAgainst party token db None
IsRenewedAs party token db (Ok _) = ⊥
IsRenewedAs party token db (Err (failure.Refused why)) = IsRefusedRenewal party token db why
IsRenewedAs party token db (Err (failure.Database opening.Damaged)) = ¬ KeepsSound db
IsRenewedAs party token db (Err (failure.Database opening.Version)) = HasOtherVersion Second db
IsRenewedAs party token db (Err (failure.Database opening.Store)) = Unit {0}
IsRenewedAs party token db (Err _) = ⊥

-- What is reported of a renewal that is refused.
use Rattle.std.proofs.Common.{◌≡◌, ◌⊎◌, inl, inr, ℕ, List, Some, Err, refl, sym, subst}
use Rattle.sqlite.specs.Effect.{Database}
use Rattle.permit_base.specs.Digests.{digest_of}
use Rattle.permit_base.specs.declared.refusal.Reason.TheVariants as reason
use Rattle.permit_base.specs.declared.refusal.Refusal.{Refusal}
use Rattle.permit_base.specs.declared.refusal.Refusal.TheVariants as refusal
use Rattle.permit_base.specs.declared.words.Edition.TheVariants.{Second}
use Rattle.permit_model.specs.Renewal.{against_renewal}
use Rattle.permit_model.specs.Tables.{Tables}
use Rattle.permit_store.specs.declared.store.OpenError.TheVariants as opening
use Rattle.permit_sql_rows.specs.Kept.{Keeps}
use Rattle.permit_sql.specs.Found.{KeepsSound}
use Rattle.permit_sql.specs.Opening.{HasOtherVersion}
use Rattle.permit_sql.specs.declared.renew.RenewError.{RenewError}
use Rattle.permit_sql.specs.declared.renew.RenewError.TheVariants as renewal
use Rattle.permit_subcommands.specs.declared.failure.Failure.{Failure}
use Rattle.permit_database.specs.Failing.{renewal_failure}
use Rattle.permit_database.specs.Founded.{IsRenewedAs}

-- what is reported of an error that is known
known : (party : ℕ) (token : List ℕ) (db : Database) (is error : RenewError) → error ≡ is → IsRenewedAs party token db (Err (renewal_failure is)) →
    IsRenewedAs party token db (Err (renewal_failure error))
known party token db is error same told = subst (λ (e : RenewError). IsRenewedAs party token db (Err (renewal_failure e))) (sym same) told

refused_as : (party : ℕ) (token : List ℕ) (db : Database) (error : RenewError) →
    (error ≡ renewal.Refused refusal.Record) ⊎ ((error ≡ renewal.Refused (refusal.NotAdmitted reason.Taken))
    ⊎ ((error ≡ renewal.Open opening.Damaged) ⊎ ((error ≡ renewal.Open opening.Version) ⊎ (error ≡ renewal.Open opening.Store)))) →
    ((t : Tables) → Keeps t db → (why : Refusal) → error ≡ renewal.Refused why → against_renewal t.parties party (digest_of token) ≡ Some why) →
    (error ≡ renewal.Open opening.Damaged → ¬ KeepsSound db) → (error ≡ renewal.Open opening.Version → HasOtherVersion Second db) →
    IsRenewedAs party token db (Err (renewal_failure error))
refused_as party token db error (inl is) against damaged version =
    known party token db (renewal.Refused refusal.Record) error is (refusal.Record, refl, inl refl, λ t keeps. against t keeps refusal.Record is)
refused_as party token db error (inr (inl is)) against damaged version =
    known party token db (renewal.Refused (refusal.NotAdmitted reason.Taken)) error is
    (refusal.NotAdmitted reason.Taken, refl, inr refl, λ t keeps. against t keeps (refusal.NotAdmitted reason.Taken) is)
refused_as party token db error (inr (inr (inl is))) against damaged version =
    known party token db (renewal.Open opening.Damaged) error is (damaged is)
refused_as party token db error (inr (inr (inr (inl is)))) against damaged version =
    known party token db (renewal.Open opening.Version) error is (version is)
refused_as party token db error (inr (inr (inr (inr is)))) against damaged version = known party token db (renewal.Open opening.Store) error is tt

-- the same of a failure that was made of the error
pub refused_told : (party : ℕ) (token : List ℕ) (db : Database) (error : RenewError) (why : Failure) → why ≡ renewal_failure error →
    (error ≡ renewal.Refused refusal.Record) ⊎ ((error ≡ renewal.Refused (refusal.NotAdmitted reason.Taken))
    ⊎ ((error ≡ renewal.Open opening.Damaged) ⊎ ((error ≡ renewal.Open opening.Version) ⊎ (error ≡ renewal.Open opening.Store)))) →
    ((t : Tables) → Keeps t db → (why : Refusal) → error ≡ renewal.Refused why → against_renewal t.parties party (digest_of token) ≡ Some why) →
    (error ≡ renewal.Open opening.Damaged → ¬ KeepsSound db) → (error ≡ renewal.Open opening.Version → HasOtherVersion Second db) →
    IsRenewedAs party token db (Err why)
refused_told party token db error why made refusals against damaged version =
    subst (λ (f : Failure). IsRenewedAs party token db (Err f)) (sym made) (refused_as party token db error refusals against damaged version)

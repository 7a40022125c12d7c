-- Which failures an office in a database comes to.
use Rattle.std.proofs.Common.{◌≡◌, ◌⊎◌, inl, inr, ℕ, Bool, true, false, Option, Some, Result, Ok, Err, ap, refl, sym, subst}
use Rattle.std.specs.Prelude.{IfErr, IfOk, IsTrue, OnErr}
use Rattle.permit_base.specs.declared.refusal.Reason.TheVariants as reason
use Rattle.permit_base.specs.declared.refusal.Refusal.TheVariants as refusal
use Rattle.permit_history.specs.declared.fault.LineFault.{LineFault}
use Rattle.permit_history.specs.declared.fault.LineFault.TheVariants as reading
use Rattle.permit_import.specs.declared.refused.RefusalWord.TheVariants as word
use Rattle.permit_recorded.specs.declared.resuming.fault.ResumeFault.{ResumeFault}
use Rattle.permit_recorded.specs.declared.resuming.fault.ResumeFault.TheVariants as resuming
use Rattle.permit_replay.specs.declared.fault.ReplayFault.{ReplayFault}
use Rattle.permit_replay.specs.declared.fault.ReplayFault.TheVariants as replaying
use Rattle.permit_replay.specs.declared.fault.Why.{Why}
use Rattle.permit_replay.specs.declared.fault.Why.TheVariants as why
use Rattle.permit_replay.specs.declared.opening.fault.BringFault.{BringFault}
use Rattle.permit_replay.specs.declared.opening.fault.BringFault.TheVariants as bringing
use Rattle.permit_replay.specs.declared.opening.fault.CompareFault.{CompareFault}
use Rattle.permit_replay.specs.declared.opening.fault.CompareFault.TheVariants as comparing
use Rattle.permit_sql.specs.declared.renew.RenewError.{RenewError}
use Rattle.permit_sql.specs.declared.renew.RenewError.TheVariants as renewal
use Rattle.permit_store.specs.declared.store.OpenError.{OpenError}
use Rattle.permit_store.specs.declared.store.OpenError.TheVariants as opening
use Rattle.permit_subcommands.specs.Failures.{plain}
use Rattle.permit_subcommands.specs.declared.failure.Failure.{Failure}
use Rattle.permit_subcommands.specs.declared.failure.Failure.TheVariants as failure
use Rattle.permit_subcommands.specs.declared.failure.HistoryFailure.{HistoryFailure}
use Rattle.permit_subcommands.specs.declared.failure.HistoryFailure.TheVariants as history
use Rattle.permit_subcommands.specs.declared.failure.LineReason.{LineReason}
use Rattle.permit_subcommands.specs.declared.failure.LineReason.TheVariants as wrong
use Rattle.permit_database.specs.Failing.{bringing_failure, comparing_failure, entry_failure, line_failure, refusal_reason, renewal_failure, replaying_failure, resuming_failure, wrong_line}
use Rattle.permit_recorded.specs.Resuming.{may_have_redone}
use Rattle.permit_database.specs.Failing.{comes_before_redo, IsOfHistory, IsOfStore, IsOfText, IsUnrenewed, IsUnsettled, IsUnstarted, IsUnusable}

-- ---- a text

-- the failures for a text that can't be read or replayed
abbrev is_of_reading : HistoryFailure → Bool
is_of_reading history.Differs = false
is_of_reading history.Changed = false
is_of_reading history.Exists = false
is_of_reading history.Itself = false
is_of_reading history.Unused = false
is_of_reading _ = true

abbrev IsOfReading : Failure → Type 0
IsOfReading told = (told ≡ plain word.Store) ⊎ ((fault : HistoryFailure) × IsTrue (is_of_reading fault) × (told ≡ failure.History fault))

wrong_is : (line : ℕ) (reason : LineReason) → IsOfReading (wrong_line line reason)
wrong_is line reason = inr (history.Line line reason, refl, refl)

line_is : (line : ℕ) (f : LineFault) → IsOfReading (line_failure line f)
line_is line reading.Memory = inl refl
line_is line reading.Long = wrong_is line wrong.Long
line_is line reading.Syntax = wrong_is line wrong.Syntax
line_is line reading.Fields = wrong_is line wrong.Fields
line_is line reading.Form = wrong_is line wrong.Form

entry_is : (line : ℕ) (f : Why) → IsOfReading (entry_failure line f)
entry_is line why.Memory = inl refl
entry_is line why.NoCopy = inr (history.Copy, refl, refl)
entry_is line why.OtherCopy = inr (history.Copy, refl, refl)
entry_is line why.CopyDay = inr (history.Copy, refl, refl)
entry_is line why.NoFounding = wrong_is line wrong.NoFounding
entry_is line why.SecondBeginning = wrong_is line wrong.SecondBeginning
entry_is line why.SecondFounding = wrong_is line wrong.SecondFounding
entry_is line why.FirstEdition = wrong_is line wrong.FirstEdition
entry_is line why.UpgradeDay = wrong_is line wrong.UpgradeDay
entry_is line why.SecondUpgrade = wrong_is line wrong.SecondUpgrade
entry_is line (why.Refused refusal) = wrong_is line (refusal_reason refusal)
entry_is line why.Number = wrong_is line wrong.Number

replaying_is : (f : ReplayFault) → IsOfReading (replaying_failure f)
replaying_is (replaying.Line line fault) = line_is line fault
replaying_is (replaying.Entry line stands) = entry_is line stands
replaying_is replaying.Short = inr (history.Short, refl, refl)
replaying_is replaying.Endless = inr (history.Store, refl, refl)
replaying_is (replaying.Source error) = inr (history.Store, refl, refl)

-- a text that can't be read isn't one that is there already
of_text : (told : Failure) → IsOfReading told → (told ≡ plain word.Store) ⊎ IsOfText told
of_text told (inl lacking) = inl lacking
of_text told (inr (history.Differs, is, same)) = absurd cc
of_text told (inr (history.Changed, is, same)) = absurd cc
of_text told (inr (history.Exists, is, same)) = absurd cc
of_text told (inr (history.Itself, is, same)) = absurd cc
of_text told (inr (history.Unused, is, same)) = absurd cc
of_text told (inr (history.Line line reason, is, same)) = inr (history.Line line reason, λ e. cc, same)
of_text told (inr (history.Short, is, same)) = inr (history.Short, λ e. cc, same)
of_text told (inr (history.Copy, is, same)) = inr (history.Copy, λ e. cc, same)
of_text told (inr (history.Store, is, same)) = inr (history.Store, λ e. cc, same)

pub replaying_told : (f : ReplayFault) (told : Failure) → told ≡ replaying_failure f → (told ≡ plain word.Store) ⊎ IsOfText told
replaying_told f told is = of_text told (subst IsOfReading (sym is) (replaying_is f))

-- ---- an office with its history

pub without_memory : (told : Failure) → told ≡ plain word.Store → IsUnusable told
without_memory told lacking = inr (inr (inr lacking))

read_so : (told : Failure) → IsOfReading told → IsUnsettled told
read_so told is = elim (of_text told is) [
  | inl lacking ↦ inl (without_memory told lacking)
  | inr text ↦ inr text
]

comparing_is : (f : CompareFault) → IsUnsettled (comparing_failure f)
comparing_is comparing.Store = inl (inr (inr (inl refl)))
comparing_is (comparing.Text f) = read_so _ (replaying_is f)
comparing_is comparing.Long = inr (history.Store, λ e. cc, refl)

pub comparing_told : (f : CompareFault) (told : Failure) → told ≡ comparing_failure f → IsUnsettled told
comparing_told f told is = subst IsUnsettled (sym is) (comparing_is f)

bringing_is : (f : BringFault) → IsUnsettled (bringing_failure f)
bringing_is bringing.Differs = inr (history.Differs, λ e. cc, refl)
bringing_is (bringing.Stopped f) = comparing_is f
bringing_is bringing.Again = inr (history.Store, λ e. cc, refl)

pub bringing_told : (f : BringFault) (told : Failure) → told ≡ bringing_failure f → IsUnsettled told
bringing_told f told is = subst IsUnsettled (sym is) (bringing_is f)

resuming_is : (f : ResumeFault) → IsUnsettled (resuming_failure f)
resuming_is (resuming.Bring f) = bringing_is f
resuming_is resuming.File = inr (history.Store, λ e. cc, refl)

pub resuming_told : (f : ResumeFault) (told : Failure) → told ≡ resuming_failure f → IsUnsettled told
resuming_told f told is = subst IsUnsettled (sym is) (resuming_is f)

-- ---- tables that differ

never_differs : (f : CompareFault) → comparing_failure f ≡ failure.History history.Differs → ⊥
never_differs comparing.Store e = absurd cc
never_differs comparing.Long e = absurd cc
never_differs (comparing.Text f) e = elim (subst IsOfReading e (replaying_is f)) [
  | inl lacking ↦ absurd cc
  | inr other ↦
      let same : other.0 ≡ history.Differs = cc in
      let is : false ≡ true = subst (λ (h : HistoryFailure). IsTrue (is_of_reading h)) same other.1 in absurd cc
]

pub never_memory : (why : Failure) → why ≡ plain word.Store → why ≡ failure.History history.Differs → ⊥
never_memory why told is = absurd cc

pub never_database : (why : Failure) (reason : OpenError) → why ≡ plain word.Store → why ≡ failure.Database reason → ⊥
never_database why reason told is = absurd cc

-- that is reported of no other fault
pub differs_alone : (f : BringFault) → bringing_failure f ≡ failure.History history.Differs → f ≡ bringing.Differs
differs_alone bringing.Differs e = refl
differs_alone (bringing.Stopped f) e = absurd (never_differs f e)
differs_alone bringing.Again e = absurd cc

pub resuming_alone : (f : ResumeFault) → resuming_failure f ≡ failure.History history.Differs → f ≡ resuming.Bring bringing.Differs
resuming_alone (resuming.Bring f) e = ap resuming.Bring (differs_alone f e)
resuming_alone resuming.File e = absurd cc

-- what comes before a redo is reported of no fault after which lines may have been redone
pub before_redo : (f : ResumeFault) → IsTrue (comes_before_redo (resuming_failure f)) → may_have_redone f ≡ false
before_redo (resuming.Bring bringing.Differs) before = refl
before_redo (resuming.Bring (bringing.Stopped (comparing.Text f))) before = refl
before_redo (resuming.Bring (bringing.Stopped comparing.Long)) before = refl
before_redo (resuming.Bring (bringing.Stopped comparing.Store)) before = absurd cc
before_redo (resuming.Bring bringing.Again) before = absurd cc
before_redo resuming.File before = absurd cc

-- The only failure for the database is that of a call that failed.
of_database : (f : CompareFault) (reason : OpenError) → comparing_failure f ≡ failure.Database reason → reason ≡ opening.Store
of_database comparing.Store reason e = cc
of_database comparing.Long reason e = absurd cc
of_database (comparing.Text f) reason e = elim (subst IsOfReading e (replaying_is f)) [
  | inl lacking ↦ absurd cc
  | inr other ↦ absurd cc
]

pub resuming_database : (f : ResumeFault) (reason : OpenError) → resuming_failure f ≡ failure.Database reason → reason ≡ opening.Store
resuming_database (resuming.Bring bringing.Differs) reason e = absurd cc
resuming_database (resuming.Bring (bringing.Stopped f)) reason e = of_database f reason e
resuming_database (resuming.Bring bringing.Again) reason e = absurd cc
resuming_database resuming.File reason e = absurd cc

-- an office that isn't founded by its text isn't opened with it, and only a failed call is reported as one of the database
pub unfounded : (why : Failure) → IsOfStore why ⊎ IsOfText why → IsUnsettled why
unfounded why (inl store) = inl (inr (inr store))
unfounded why (inr text) = inr text

pub store_alone : (why : Failure) (reason : OpenError) → IsOfStore why ⊎ IsOfText why → why ≡ failure.Database reason → reason ≡ opening.Store
store_alone why reason (inl (inl store)) is = cc
store_alone why reason (inl (inr lacking)) is = absurd cc
store_alone why reason (inr text) is = absurd cc

-- ---- a database

-- its tables can't be used
pub unusable : (error : OpenError) → (error ≡ opening.Damaged) ⊎ ((error ≡ opening.Version) ⊎ (error ≡ opening.Store)) → IsUnusable (failure.Database error)
unusable error (inl damaged) = inr (inl (ap failure.Database damaged))
unusable error (inr (inl version)) = inl (ap failure.Database version)
unusable error (inr (inr failed)) = inr (inr (inl (ap failure.Database failed)))

-- no token is renewed in it
unrenewed_for : (error : RenewError) → (error ≡ renewal.Refused refusal.Record) ⊎ ((error ≡ renewal.Refused (refusal.NotAdmitted reason.Taken))
    ⊎ ((error ≡ renewal.Open opening.Damaged) ⊎ ((error ≡ renewal.Open opening.Version) ⊎ (error ≡ renewal.Open opening.Store)))) →
    IsUnrenewed (renewal_failure error)
unrenewed_for error (inl is) = inl (ap renewal_failure is)
unrenewed_for error (inr (inl is)) = inr (inl (ap renewal_failure is))
unrenewed_for error (inr (inr (inl is))) = inr (inr (inr (inl (ap renewal_failure is))))
unrenewed_for error (inr (inr (inr (inl is)))) = inr (inr (inl (ap renewal_failure is)))
unrenewed_for error (inr (inr (inr (inr is)))) = inr (inr (inr (inr (inl (ap renewal_failure is)))))

pub unrenewed : (error : RenewError) (told : Failure) → told ≡ renewal_failure error → (error ≡ renewal.Refused refusal.Record)
    ⊎ ((error ≡ renewal.Refused (refusal.NotAdmitted reason.Taken))
    ⊎ ((error ≡ renewal.Open opening.Damaged) ⊎ ((error ≡ renewal.Open opening.Version) ⊎ (error ≡ renewal.Open opening.Store)))) → IsUnrenewed told
unrenewed error told made refusals = subst IsUnrenewed (sym made) (unrenewed_for error refusals)

-- ---- as the program reports them

pub started_of_history : (told : Failure) → IsUnstarted told → IsOfHistory told
started_of_history told (inl is) = subst IsOfHistory (sym is) tt
started_of_history told (inr is) = subst IsOfHistory (sym is) tt

-- ---- results

-- what is said of a result that is known
pub at_ok : {A E : Type 0} (P : A → Type 0) (result : Result A E) (a : A) → result ≡ Ok a → IfOk result P → P a
at_ok {A = A} {E = E} P result a is said = subst (λ (r : Result A E). IfOk r P) is said

-- what follows from what is said of a failure
pub on_err : {A E P Q : Type 0} (result : Result A E) → (P → Q) → OnErr result P → OnErr result Q
on_err (Ok a) so said = tt
on_err (Err e) so said = so said

pub if_err : {A E : Type 0} {P Q : E → Type 0} (result : Result A E) → ((e : E) → P e → Q e) → IfErr result P → IfErr result Q
if_err (Ok a) so said = tt
if_err (Err e) so said = so e said

-- Why work on an office in a database fails, as the program reports it, and which failures it may come to.
use Rattle.std.specs.Prelude.{◌≡◌, ◌≢◌, ◌⊎◌, ℕ, Bool, true, false, List, Option, Err, IsSomeAnd}
use Rattle.permit_base.specs.declared.refusal.Reason.TheVariants as reason
use Rattle.permit_base.specs.declared.refusal.Refusal.{Refusal}
use Rattle.permit_base.specs.declared.refusal.Refusal.TheVariants as refusal
use Rattle.permit_chronicle.specs.declared.fault.ChronicleFault.{ChronicleFault}
use Rattle.permit_chronicle.specs.declared.fault.ChronicleFault.TheVariants as telling
use Rattle.permit_history.specs.declared.fault.LineFault.{LineFault}
use Rattle.permit_history.specs.declared.fault.LineFault.TheVariants as reading
use Rattle.permit_import.specs.Importing.{EndsOf}
use Rattle.permit_import.specs.Outcomes.{outcomes_of}
use Rattle.permit_import.specs.Records.{Fields}
use Rattle.permit_import.specs.Refusals.{refused_by}
use Rattle.permit_import.specs.declared.fault.ImportFault.{ImportFault}
use Rattle.permit_import.specs.declared.refused.Refused.TheVariants as refused
use Rattle.permit_import.specs.declared.refused.RefusalWord.TheVariants as word
use Rattle.permit_office.specs.declared.reply.Reply.{Reply}
use Rattle.permit_replay.specs.declared.fault.ReplayFault.{ReplayFault}
use Rattle.permit_replay.specs.declared.fault.ReplayFault.TheVariants as replaying
use Rattle.permit_replay.specs.declared.fault.Why.{Why}
use Rattle.permit_replay.specs.declared.fault.Why.TheVariants as why
use Rattle.permit_replay.specs.declared.opening.fault.BringFault.{BringFault}
use Rattle.permit_replay.specs.declared.opening.fault.BringFault.TheVariants as bringing
use Rattle.permit_replay.specs.declared.opening.fault.CompareFault.{CompareFault}
use Rattle.permit_replay.specs.declared.opening.fault.CompareFault.TheVariants as comparing
use Rattle.permit_recorded.specs.declared.resuming.fault.ResumeFault.{ResumeFault}
use Rattle.permit_recorded.specs.declared.resuming.fault.ResumeFault.TheVariants as resuming
use Rattle.permit_sql.specs.declared.renew.RenewError.{RenewError}
use Rattle.permit_sql.specs.declared.renew.RenewError.TheVariants as renewal
use Rattle.permit_store.specs.declared.store.OpenError.TheVariants as opening
use Rattle.permit_subcommands.specs.Failures.{plain, IsFailureOfImport, IsUnheard}
use Rattle.permit_subcommands.specs.Listings.{WritesSome}
use Rattle.permit_subcommands.specs.declared.failure.Failure.{Failure}
use Rattle.permit_subcommands.specs.declared.failure.Failure.TheVariants as failure
use Rattle.permit_subcommands.specs.declared.failure.HistoryFailure.{HistoryFailure}
use Rattle.permit_subcommands.specs.declared.failure.HistoryFailure.TheVariants as history
use Rattle.permit_subcommands.specs.declared.failure.LineReason.{LineReason}
use Rattle.permit_subcommands.specs.declared.failure.LineReason.TheVariants as wrong
use Rattle.permit_database.specs.declared.question.Question.{Question}
use Rattle.permit_database.specs.declared.question.Question.TheVariants as question

-- ---- what is reported of a fault

-- a line that is wrong is reported by its number and why, want of memory as the store's refusal, and a copy that isn't the text's as
-- such
abbrev pub wrong_line : ℕ → LineReason → Failure
wrong_line line reason = failure.History (history.Line line reason)

abbrev pub line_failure : ℕ → LineFault → Failure
line_failure line reading.Long = wrong_line line wrong.Long
line_failure line reading.Syntax = wrong_line line wrong.Syntax
line_failure line reading.Fields = wrong_line line wrong.Fields
line_failure line reading.Form = wrong_line line wrong.Form
line_failure line reading.Memory = plain word.Store

abbrev pub refusal_reason : Refusal → LineReason
refusal_reason refusal.Caller = wrong.Caller
refusal_reason refusal.Clock = wrong.Clock
refusal_reason refusal.Record = wrong.Record
refusal_reason _ = wrong.NotAdmitted

abbrev pub entry_failure : ℕ → Why → Failure
entry_failure line why.NoCopy = failure.History history.Copy
entry_failure line why.OtherCopy = failure.History history.Copy
entry_failure line why.CopyDay = failure.History history.Copy
entry_failure line why.NoFounding = wrong_line line wrong.NoFounding
entry_failure line why.SecondBeginning = wrong_line line wrong.SecondBeginning
entry_failure line why.SecondFounding = wrong_line line wrong.SecondFounding
entry_failure line why.FirstEdition = wrong_line line wrong.FirstEdition
entry_failure line why.UpgradeDay = wrong_line line wrong.UpgradeDay
entry_failure line why.SecondUpgrade = wrong_line line wrong.SecondUpgrade
entry_failure line (why.Refused refusal) = wrong_line line (refusal_reason refusal)
entry_failure line why.Number = wrong_line line wrong.Number
entry_failure line why.Memory = plain word.Store

abbrev pub replaying_failure : ReplayFault → Failure
replaying_failure (replaying.Line line fault) = line_failure line fault
replaying_failure (replaying.Entry line stands) = entry_failure line stands
replaying_failure replaying.Short = failure.History history.Short
replaying_failure replaying.Endless = failure.History history.Store
replaying_failure (replaying.Source error) = failure.History history.Store

abbrev pub comparing_failure : CompareFault → Failure
comparing_failure comparing.Store = failure.Database opening.Store
comparing_failure (comparing.Text fault) = replaying_failure fault
comparing_failure comparing.Long = failure.History history.Store

abbrev pub bringing_failure : BringFault → Failure
bringing_failure bringing.Differs = failure.History history.Differs
bringing_failure (bringing.Stopped fault) = comparing_failure fault
bringing_failure bringing.Again = failure.History history.Store

abbrev pub resuming_failure : ResumeFault → Failure
resuming_failure (resuming.Bring fault) = bringing_failure fault
resuming_failure resuming.File = failure.History history.Store

abbrev pub telling_failure : ChronicleFault → Failure
telling_failure (telling.Line line fault) = line_failure line fault
telling_failure (telling.Source error) = failure.History history.Store
telling_failure telling.Output = failure.Output
telling_failure telling.Memory = plain word.Store
telling_failure telling.Endless = failure.History history.Store

-- why a party has no new token
abbrev pub renewal_failure : RenewError → Failure
renewal_failure (renewal.Refused why) = failure.Refused (refused_by why)
renewal_failure (renewal.Open why) = failure.Database why

-- ---- of a database

-- a call failed, or memory ran out
abbrev pub IsOfStore : Failure → Type 0
IsOfStore why = (why ≡ failure.Database opening.Store) ⊎ (why ≡ plain word.Store)

-- a file isn't opened: it holds no database or a damaged one, or a call failed
abbrev pub IsUnopened : Failure → Type 0
IsUnopened why = (why ≡ failure.Database opening.Damaged) ⊎ IsOfStore why

-- its tables can't be used: they aren't sound, or of another version, or a call failed
abbrev pub IsUnusable : Failure → Type 0
IsUnusable why = (why ≡ failure.Database opening.Version) ⊎ IsUnopened why

-- no office is founded in it: there are tables in it, or a call failed
abbrev pub IsUnfounded : Failure → Type 0
IsUnfounded why = (why ≡ failure.Database opening.Exists) ⊎ IsUnopened why

-- no token is renewed: there is no such party, a party has the token, or the tables can't be used
abbrev pub IsUnrenewed : Failure → Type 0
IsUnrenewed why = (why ≡ plain word.Record) ⊎ ((why ≡ failure.Refused (refused.NotAdmitted reason.Taken)) ⊎ IsUnusable why)

-- ---- of a history

-- the file of a history can't be used, or isn't the office's, or memory ran out
abbrev pub IsOfHistory : Failure → Type 0
IsOfHistory (failure.History why) = Unit {0}
IsOfHistory why = why ≡ plain word.Store

-- A text that is there, or its file, can't be used, or it isn't that of the tables.
abbrev pub IsOfText : Failure → Type 0
IsOfText why = (fault : HistoryFailure) × (fault ≢ history.Exists) × (why ≡ failure.History fault)

-- The text can't be replayed, or isn't that of the tables: nothing of it is redone.
abbrev pub comes_before_redo : Failure → Bool
comes_before_redo (failure.History (history.Line line reason)) = true
comes_before_redo (failure.History history.Short) = true
comes_before_redo (failure.History history.Copy) = true
comes_before_redo (failure.History history.Differs) = true
comes_before_redo _ = false

-- the office isn't opened with its history
abbrev pub IsUnsettled : Failure → Type 0
IsUnsettled why = IsUnusable why ⊎ IsOfText why

-- no text is begun: there is one already, or a call of its file failed
abbrev pub IsUnstarted : Failure → Type 0
IsUnstarted why = (why ≡ failure.History history.Exists) ⊎ (why ≡ failure.History history.Store)

-- ---- of what is asked of an office

-- the office refuses
abbrev pub IsRefusal : Failure → Type 0
IsRefusal why = (refusal : Refusal) × (why ≡ failure.Refused (refused_by refusal))

-- an import stops before its end, and what is written of its lines
abbrev pub StopsImport : List ℕ → Option (List ℕ) → Option (List ℕ) → Failure → Type 0
StopsImport path before after why = (fault : ImportFault) × IsFailureOfImport path fault why × (left : Option (List ℕ)) × (rows : List Fields)
    × (replies : List Reply) × EndsOf left before after (Err fault) rows (outcomes_of rows replies)

-- some office that is asked on the day fails so; of a register and an import a prefix may be written
abbrev pub FailsOf : {R : Type 0} → ℕ → Question R → Option (List ℕ) → Option (List ℕ) → Failure → Type 0
FailsOf day (question.Serve request) before after why = (why ≡ plain word.Store) × (after ≡ before)
FailsOf day (question.List token filter) before after why = IsRefusal why × (after ≡ before)
FailsOf day (question.Register token kind) before after why = WritesSome kind day before after (Err why)
FailsOf day (question.Import token path records asked) before after why = StopsImport path.now before after why

-- work fails as it does without a history, or by that which is kept
abbrev pub OrOfHistory : {H : Type 0} → Option H → Type 0 → Failure → Type 0
OrOfHistory history Fails why = Fails ⊎ IsSomeAnd history (λ _. IsOfHistory why)

-- the same of a text that is there already
abbrev pub OrOfText : {H : Type 0} → Option H → Type 0 → Failure → Type 0
OrOfText history Fails why = Fails ⊎ IsSomeAnd history (λ _. IsOfText why)

-- the office fails so, or its database can't be used, or its history where it has one
abbrev pub FailsIn : {H R : Type 0} → Option H → ℕ → Question R → Option (List ℕ) → Option (List ℕ) → Failure → Type 0
FailsIn history day asked before after why = (OrOfText history (IsUnusable why) why × (after ≡ before)) ⊎ FailsOf day asked before after why

-- the serving fails once the database can be used: the address can't be listened on, or the output fails
abbrev pub FailsToListen : List ℕ → Failure → Type 0
FailsToListen address why = IsUnheard address why ⊎ (why ≡ failure.Output)

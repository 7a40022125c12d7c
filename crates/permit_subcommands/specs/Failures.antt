-- Why the program does not do what its words ask: the line that it prints for each failure, and its status.
use Rattle.std.specs.Prelude.{◌≡◌, ◌==◌, ℕ, Bool, true, false, List, ◌++◌, codes, decimal, string_bytes, if◌then◌else◌}
use Rattle.permit_import.specs.declared.fault.ImportFault.{ImportFault}
use Rattle.permit_import.specs.declared.fault.ImportFault.TheVariants as stopping
use Rattle.permit_import.specs.declared.tally.Tally.{Tally}
use Rattle.permit_policy.specs.Fault.{fault_number}
use Rattle.permit_policy.specs.declared.fault.PolicyError.{PolicyError}
use Rattle.permit_policy.specs.declared.fault.PolicyFault.{PolicyFault}
use Rattle.permit_policy.specs.declared.fault.PolicyFault.TheVariants as policy
use Rattle.permit_store.specs.declared.store.OpenError.{OpenError}
use Rattle.permit_store.specs.declared.store.OpenError.TheVariants as opening
use Rattle.permit_import.specs.Refusals.{refused_line}
use Rattle.permit_import.specs.declared.refused.Refused.TheVariants.{Plain}
use Rattle.permit_import.specs.declared.refused.RefusalWord.{RefusalWord}
use Rattle.permit_import.specs.declared.refused.RefusalWord.TheVariants.{Store}
use Rattle.permit_subcommands.specs.declared.failure.Failure.{Failure}
use Rattle.permit_subcommands.specs.declared.failure.Failure.TheVariants.{Refused, File, Policy, Against, Facts, Database, History, Day, Zone, Listen, Output}
use Rattle.permit_subcommands.specs.declared.failure.HistoryFailure.{HistoryFailure}
use Rattle.permit_subcommands.specs.declared.failure.HistoryFailure.TheVariants as history

-- the refusal by a word alone
abbrev pub plain : RefusalWord → Failure
plain word = Refused (Plain word)

abbrev pub open_word : OpenError → List ℕ
open_word opening.Damaged = codes "damaged"
open_word opening.Version = codes "version"
open_word opening.Store = codes "store"
open_word opening.Exists = codes "exists"

abbrev pub history_words : HistoryFailure → List ℕ
history_words history.Differs = codes "differs"
history_words history.Changed = codes "differs"
history_words (history.Line line reason) = codes "line " ++ decimal line
history_words history.Short = codes "short"
history_words history.Exists = codes "exists"
history_words history.Copy = codes "copy"
history_words history.Itself = codes "copy"
history_words history.Unused = codes "unused"
history_words history.Store = codes "store"

-- the line for a failure
abbrev pub failure_line : Failure → List ℕ
failure_line (Refused why) = refused_line why
failure_line (File path) = codes "cannot read " ++ string_bytes path
failure_line (Policy error) = codes "policy: fault " ++ decimal (fault_number error.code) ++ codes " at rule " ++ decimal error.rule
failure_line (Against error) = codes "against: fault " ++ decimal (fault_number error.code) ++ codes " at rule " ++ decimal error.rule
failure_line Facts = codes "facts: unreadable"
failure_line (Database why) = codes "database: " ++ open_word why
failure_line (History why) = codes "history: " ++ history_words why
failure_line Day = codes "day: unreadable"
failure_line Zone = codes "zone: unreadable"
failure_line (Listen address) = codes "cannot listen " ++ string_bytes address
failure_line Output = codes "cannot write"

-- 1 where the program is refused or cannot print, 2 for bad words and files
abbrev pub failure_status : Failure → ℕ
failure_status (Refused why) = 1
failure_status Output = 1
failure_status _ = 2

-- a file that can't be read is named by its path, unless memory runs out for that
abbrev pub IsUnread : List ℕ → Failure → Type 0
IsUnread path (File told) = string_bytes told ≡ path
IsUnread path failure = failure ≡ plain Store

-- an address that can't be listened on is named, unless memory runs out for that
abbrev pub IsUnheard : List ℕ → Failure → Type 0
IsUnheard address (Listen told) = string_bytes told ≡ address
IsUnheard address failure = failure ≡ plain Store

-- want of memory, which is no fault of a policy's text
abbrev pub is_memory : PolicyFault → Bool
is_memory policy.Memory = true
is_memory _ = false

-- a policy that is refused is reported by its place, and want of memory as the store's refusal
abbrev pub policy_failure : PolicyError → Failure
policy_failure error = if is_memory error.code then plain Store else Policy error

-- the same of the policy that another one is compared with
abbrev pub against_failure : PolicyError → Failure
against_failure error = if is_memory error.code then plain Store else Against error

-- an import's records can't be read, memory ran out, or the output failed
abbrev pub IsFailureOfImport : List ℕ → ImportFault → Failure → Type 0
IsFailureOfImport path stopping.FirstRecord failure = IsUnread path failure
IsFailureOfImport path stopping.Reading failure = IsUnread path failure
IsFailureOfImport path stopping.Memory failure = failure ≡ plain Store
IsFailureOfImport path stopping.Writing failure = failure ≡ Output

-- after an import: 1 where a record was refused
abbrev pub import_status : Tally → ℕ
import_status tally = if tally.refused == 0 then 0 else 1

-- What is printed of an outcome, and the program's status.
use Rattle.std.specs.Prelude.{◌≡◌, ◌≢◌, ◌⊎◌, ◌-◌, ◌++◌, ℕ, List, Option, Result, Ok, Err, codes, decimal, string_bytes}
use Rattle.std.specs.Io.KnownBytes.{Appends}
use Rattle.permit_import.specs.declared.refused.RefusalWord.TheVariants.{Store}
use Rattle.permit_replay.specs.declared.alike.differing.Difference.{Difference}
use Rattle.permit_replay.specs.declared.alike.differing.Difference.TheVariants as place
use Rattle.permit_answer.specs.AnswerText.{answer_data}
use Rattle.permit_chronicle.specs.Evidence.{evidence_line, lacks_line, verified_line}
use Rattle.permit_days.specs.Dates.{IsTextOf}
use Rattle.permit_replay.specs.declared.opening.bringing.Brought.{Brought}
use Rattle.permit_store.specs.declared.store.OpenError.TheVariants as opening
use Rattle.permit_sql.specs.FaultText.{fault_text}
use Rattle.permit_subcommands.specs.Answering.{Shows}
use Rattle.permit_args.specs.declared.plan.PlanFault.{PlanFault}
use Rattle.permit_args.specs.declared.plan.PlanFault.TheVariants.{Help, Words, Memory}
use Rattle.permit_subcommands.specs.Failures.{failure_line, import_status, plain}
use Rattle.permit_subcommands.specs.Lines.{founded_line, name_line, sound_line, upgraded_line}
use Rattle.permit_subcommands.specs.Listings.{listing_text}
use Rattle.permit_subcommands.specs.Printing.{Prints}
use Rattle.permit_subcommands.specs.declared.failure.Failure.{Failure}
use Rattle.permit_subcommands.specs.declared.failure.Failure.TheVariants as failure
use Rattle.permit_subcommands.specs.declared.failure.HistoryFailure.TheVariants as history
use Rattle.permit_database.specs.declared.outcome.Outcome.{Outcome}
use Rattle.permit_database.specs.declared.outcome.Outcome.TheVariants as outcome

-- The text is printed whole, and then this is the end of the run; or the output failed, and a prefix of the text.
abbrev pub PrintsThen : List ℕ → Result ℕ Failure → Option (List ℕ) → Option (List ℕ) → Result ℕ Failure → Type 0
PrintsThen text end before after result =
    ((result ≡ end) × Appends before after text) ⊎ ((result ≡ Err failure.Output) × Prints text before after (Err failure.Output))

-- the same of a text that is made first; without memory for it nothing is printed
abbrev pub MakesAndPrints : List ℕ → Result ℕ Failure → Option (List ℕ) → Option (List ℕ) → Result ℕ Failure → Type 0
MakesAndPrints text end before after result =
    PrintsThen text end before after result ⊎ ((result ≡ Err (plain Store)) × (after ≡ before))

-- nothing is printed, and this is the end of the run
abbrev pub Silent : Result ℕ Failure → Option (List ℕ) → Option (List ℕ) → Result ℕ Failure → Type 0
Silent end before after result = (result ≡ end) × (after ≡ before)

-- an answer's refusal is the failure, and without one the status is 0
abbrev pub as_status : Result (Unit {0}) Failure → Result ℕ Failure
as_status (Ok done) = Ok 0
as_status (Err why) = Err why

-- the number of a party
abbrev pub party_line : ℕ → List ℕ
party_line party = codes "party " ++ (decimal party ++ codes "\n")

-- how many lines a history has, and how many of them are new in the office that has its tables
abbrev pub replayed_line : Brought → List ℕ
replayed_line brought = codes "replayed lines " ++ (decimal brought.lines ++ (codes " new " ++ (decimal (brought.lines - brought.stood) ++ codes "\n")))

-- the first place at which tables differ from those of a history
abbrev pub difference_text : Difference → List ℕ
difference_text place.Desk = codes "differs first in the last day or a count"
difference_text (place.Party number) = codes "differs first in party " ++ decimal number
difference_text (place.Parcel number) = codes "differs first in parcel " ++ decimal number
difference_text place.Interests = codes "differs first in the declared interests"
difference_text (place.File number) = codes "differs first in file " ++ decimal number

-- the line that a history is begun on a day
abbrev pub begun_line : List ℕ → List ℕ
begun_line date = codes "history begun " ++ (date ++ codes "\n")

-- it is printed with the day's date; without memory for it nothing is
abbrev pub TellsBegun : ℕ → Option (List ℕ) → Option (List ℕ) → Result ℕ Failure → Type 0
TellsBegun day before after result =
    ((date : List ℕ) × IsTextOf day date × PrintsThen (begun_line date) (Ok 0) before after result) ⊎ ((result ≡ Err (plain Store)) × (after ≡ before))

-- what is printed of each outcome, and how the run ends; a place that is named is a failure
abbrev pub IsTold : Outcome → Option (List ℕ) → Option (List ℕ) → Result ℕ Failure → Type 0
IsTold outcome.Name before after result = PrintsThen name_line (Ok 0) before after result
IsTold (outcome.Checked text) before after result = PrintsThen (string_bytes text) (Ok 0) before after result
IsTold outcome.Founded before after result = PrintsThen founded_line (Ok 0) before after result
IsTold (outcome.Upgraded files) before after result = MakesAndPrints (upgraded_line files) (Ok 0) before after result
IsTold (outcome.Sound desk) before after result = MakesAndPrints (sound_line desk) (Ok 0) before after result
IsTold (outcome.SoundBeside desk evidence) before after result = MakesAndPrints (sound_line desk ++ evidence_line evidence) (Ok 0) before after result
IsTold (outcome.Unsound fault) before after result = Silent (Err (failure.Database opening.Damaged)) before after result
IsTold (outcome.Answered answer) before after result =
    (shown : Result (Unit {0}) Failure) × Shows (answer_data answer) before after shown × (result ≡ as_status shown)
IsTold (outcome.Listed listing) before after result = MakesAndPrints (listing_text listing.files.items listing.read) (Ok 0) before after result
IsTold outcome.Registered before after result = Silent (Ok 0) before after result
IsTold (outcome.Imported tally) before after result = Silent (Ok (import_status tally)) before after result
IsTold outcome.Ended before after result = Silent (Ok 0) before after result
IsTold outcome.Told before after result = Silent (Ok 0) before after result
IsTold (outcome.ToldBeside lacking) before after result = Silent (Ok 0) before after result
IsTold (outcome.Verified lines) before after result = MakesAndPrints (verified_line lines) (Ok 0) before after result
IsTold (outcome.Standing place) before after result = Silent (Ok 0) before after result
IsTold (outcome.Renewed party) before after result = PrintsThen (party_line party) (Ok 0) before after result
IsTold (outcome.Differing place) before after result = Silent (Err (failure.History history.Differs)) before after result
IsTold (outcome.Begun day) before after result = TellsBegun day before after result
IsTold (outcome.Replayed brought) before after result = MakesAndPrints (replayed_line brought) (Ok 0) before after result

-- ---- on standard error

-- a line about the file at a path
abbrev pub about : List ℕ → List ℕ → List ℕ
about path line = path ++ (codes ": " ++ (line ++ codes "\n"))

-- such a line is printed, or a prefix of it where the writer fails
abbrev pub SaysAbout : List ℕ → List ℕ → Option (List ℕ) → Option (List ℕ) → Type 0
SaysAbout path line before after = (said : Result (Unit {0}) Failure) × Prints (about path line) before after said

-- how many of a history's commands the tables of a database lack, where they lack any; or nothing, for want of memory
abbrev pub SaysLacking : ℕ → Option (List ℕ) → Option (List ℕ) → Type 0
SaysLacking lacking before after =
    ((lacking ≢ 0) × ((said : Result (Unit {0}) Failure) × Prints (lacks_line lacking) before after said)) ⊎ (after ≡ before)

-- what is said of an outcome: the first place that is wrong in the database at a path, or nothing for want of memory, or how many
-- commands its tables lack
abbrev pub NamesPlace : List ℕ → Outcome → Option (List ℕ) → Option (List ℕ) → Type 0
NamesPlace path (outcome.Unsound fault) before after = SaysAbout path (fault_text fault) before after ⊎ (after ≡ before)
NamesPlace path (outcome.Differing place) before after = SaysAbout path (difference_text place) before after ⊎ (after ≡ before)
NamesPlace path (outcome.ToldBeside lacking) before after = SaysLacking lacking before after
NamesPlace path done before after = after ≡ before

-- what is said of an address that isn't this machine's alone
abbrev pub unencrypted_text : List ℕ
unencrypted_text = codes "no loopback address: what is sent, tokens among it, is not encrypted"

abbrev pub Warns : List ℕ → Option (List ℕ) → Option (List ℕ) → Type 0
Warns address before after = (after ≡ before) ⊎ SaysAbout address unencrypted_text before after

-- the failure's line is said, or a prefix of it where the writer fails
abbrev pub Complains : Failure → Option (List ℕ) → Option (List ℕ) → Type 0
Complains why before after = (said : Result (Unit {0}) Failure) × Prints (failure_line why ++ codes "\n") before after said

-- what is said where words give no plan: of help only that it can't be printed, of bad words their text
abbrev pub SaysNoPlan : PlanFault → Option (List ℕ) → Option (List ℕ) → ℕ → Type 0
SaysNoPlan (Help text) before after status = ((status ≡ 0) × (after ≡ before)) ⊎ ((status ≡ 1) × Complains failure.Output before after)
SaysNoPlan (Words text) before after status = (said : Result (Unit {0}) Failure) × Prints (string_bytes text) before after said
SaysNoPlan Memory before after status = Complains (plain Store) before after

-- what is said at the end of a run: the failure, where there is one
abbrev pub SaysEnd : Result ℕ Failure → Option (List ℕ) → Option (List ℕ) → Type 0
SaysEnd (Ok status) before after = after ≡ before
SaysEnd (Err why) before after = Complains why before after

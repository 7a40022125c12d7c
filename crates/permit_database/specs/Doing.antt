-- What work on an office in a database comes to, whatever the disk and the clock give, and what is said on the way.
use Rattle.std.specs.Prelude.{◌≡◌, ◌≤◌, ◌++◌, ◌⊎◌, ℕ, zero, suc, Bool, List, Option, None, Some, Ok, Err, IsSomeAnd, IsTrue, codes, decimal, string_bytes}
use Rattle.std.specs.Io.KnownBytes.{Appends}
use Rattle.permit_base.specs.Actions.{action_of}
use Rattle.permit_base.specs.declared.request.Asked.{Asked}
use Rattle.permit_base.specs.declared.words.RegisterKind.{RegisterKind}
use Rattle.permit_office.specs.declared.reply.Reply.{Reply}
use Rattle.permit_http.specs.declared.error.WireError.TheVariants as error
use Rattle.permit_answer.specs.declared.answer.Answer.TheVariants as answer
use Rattle.permit_import.specs.Importing.{EndsOf, TellsCauses}
use Rattle.permit_import.specs.Outcomes.{outcomes_of}
use Rattle.permit_import.specs.Records.{Fields}
use Rattle.permit_replay.specs.declared.opening.placing.Place.{Place}
use Rattle.permit_report.specs.Outgoing.{WroteFront}
use Rattle.permit_subcommands.specs.Answering.{AreReadAs}
use Rattle.permit_subcommands.specs.Listings.{WritesSome}
use Rattle.permit_database.specs.declared.outcome.Outcome.{Outcome}
use Rattle.permit_database.specs.declared.outcome.Outcome.TheVariants as outcome
use Rattle.permit_database.specs.declared.question.Question.{Question}
use Rattle.permit_database.specs.declared.question.Question.TheVariants as question

-- ---- what is reported of a question

-- the answer to what the bytes ask, with the day, or their fault
abbrev pub IsAnswerTo : ℕ → List ℕ → Outcome → Type 0
IsAnswerTo day request (outcome.Answered (answer.Replied reply action on)) =
    (asked : Asked) × AreReadAs request (Ok (Some asked)) × (action ≡ action_of asked.request) × (on ≡ day)
IsAnswerTo day request (outcome.Answered (answer.Fault why)) = AreReadAs request (Err (error.Fault why))
IsAnswerTo day request _ = ⊥

abbrev pub IsListing : Outcome → Type 0
IsListing (outcome.Listed listing) = Unit {0}
IsListing _ = ⊥

-- the register of some files is written
abbrev pub IsRegistered : RegisterKind → ℕ → Option (List ℕ) → Option (List ℕ) → Outcome → Type 0
IsRegistered kind day before after done = (done ≡ outcome.Registered) × WritesSome kind day before after (Ok tt)

-- the lines of some records and their counts are written, which are reported
abbrev pub IsImported : Option (List ℕ) → Option (List ℕ) → Outcome → Type 0
IsImported before after (outcome.Imported tally) =
    (left : Option (List ℕ)) × (rows : List Fields) × (replies : List Reply) × EndsOf left before after (Ok tally) rows (outcomes_of rows replies)
IsImported before after _ = ⊥

-- what is reported of a question to some office on the day, and written on the way
abbrev pub IsToldOf : {R : Type 0} → ℕ → Question R → Option (List ℕ) → Option (List ℕ) → Outcome → Type 0
IsToldOf day (question.Serve request) before after done = IsAnswerTo day (string_bytes request) done × (after ≡ before)
IsToldOf day (question.List token filter) before after done = IsListing done × (after ≡ before)
IsToldOf day (question.Register token kind) before after done = IsRegistered kind day before after done
IsToldOf day (question.Import token path records why) before after done = IsImported before after done

-- ---- what is reported of other work

abbrev pub IsUpgrade : Outcome → Type 0
IsUpgrade (outcome.Upgraded files) = Unit {0}
IsUpgrade _ = ⊥

-- sound tables, or a place at which they aren't, or differ from those of a history, where one is asked for
abbrev pub IsCheck : Bool → Outcome → Type 0
IsCheck why (outcome.Sound desk) = Unit {0}
IsCheck why (outcome.Unsound fault) = IsTrue why
IsCheck why (outcome.Differing place) = IsTrue why
IsCheck why _ = ⊥

-- a prefix of the text has the tables, which has no more lines than the text
abbrev pub IsPlaced : Place → Type 0
IsPlaced place = IsSomeAnd place.stood (λ count. count ≤ place.lines)

-- the place of the tables in a text that has them
abbrev pub IsStood : Outcome → Type 0
IsStood (outcome.Standing place) = IsPlaced place
IsStood _ = ⊥

abbrev pub IsBegin : Outcome → Type 0
IsBegin (outcome.Begun day) = Unit {0}
IsBegin _ = ⊥

abbrev pub IsReplay : Outcome → Type 0
IsReplay (outcome.Replayed brought) = Unit {0}
IsReplay _ = ⊥

-- ---- what is said on standard error on the way

-- so many lines of a history were redone
abbrev pub redone_line : ℕ → List ℕ
redone_line redone = codes "history: redid " ++ (decimal redone ++ codes " commands\n")

-- that is said where there are any, or a prefix of it where the writer fails
abbrev pub SaysRedone : ℕ → Option (List ℕ) → Option (List ℕ) → Type 0
SaysRedone zero before after = after ≡ before
SaysRedone (suc more) before after = Appends before after (redone_line (suc more)) ⊎ WroteFront before after (redone_line (suc more))

-- so it is of some count where an office is opened with its history
abbrev pub SaysOpening : {H : Type 0} → Option H → Option (List ℕ) → Option (List ℕ) → Type 0
SaysOpening None before after = after ≡ before
SaysOpening (Some history) before after = (redone : ℕ) × SaysRedone redone before after

-- why records are refused, where that is asked for: the lines of some records, or a prefix of them
abbrev pub SaysCauses : Bool → Option (List ℕ) → Option (List ℕ) → Type 0
SaysCauses asked before after = (rows : List Fields) × (replies : List Reply) × TellsCauses asked before after (outcomes_of rows replies)

-- the same where an office is asked something: nothing, but for an import
abbrev pub SaysOf : {R : Type 0} → Question R → Option (List ℕ) → Option (List ℕ) → Type 0
SaysOf (question.Serve request) before after = after ≡ before
SaysOf (question.List token filter) before after = after ≡ before
SaysOf (question.Register token kind) before after = after ≡ before
SaysOf (question.Import token path records why) before after = SaysCauses why before after

-- the same of an office that is opened for that
abbrev pub SaysIn : {H R : Type 0} → Option H → Question R → Option (List ℕ) → Option (List ℕ) → Type 0
SaysIn history asked before after = (opened : Option (List ℕ)) × SaysOpening history before opened × SaysOf asked opened after

-- What an import does.
use Rattle.std.specs.Prelude.{◌≡◌, ◌≤◌, ◌⊎◌, ℕ, ◌+◌, Bool, true, false, List, [], ◌∷◌, ◌++◌, length, Option, Result, Ok, Err}
use Rattle.std.specs.Io.KnownBytes.{Appends}
use Rattle.permit_base.specs.declared.request.Asked.{Asked}
use Rattle.permit_store.specs.Frames.{StoreView, OverHistory}
use Rattle.permit_office.specs.Office.{OfficeView}
use Rattle.permit_office.specs.declared.log.Log.{Ghosts}
use Rattle.permit_office.specs.Runs.{Ran}
use Rattle.permit_office.specs.declared.reply.Reply.{Reply}
use Rattle.permit_wire.specs.Serving.{StepsOn}
use Rattle.permit_wire.specs.declared.service.Dated.{Dated}
use Rattle.permit_import.specs.Headings.{IsHeadless}
use Rattle.permit_import.specs.Lines.{causes_from, count_line, lines_from, record_line}
use Rattle.permit_import.specs.Outcomes.{outcomes_of, tally_of}
use Rattle.permit_import.specs.Reading.{AreAll, BeginWith}
use Rattle.permit_import.specs.Records.{Fields, header, requests_of}
use Rattle.permit_import.specs.Runs.{Runs}
use Rattle.permit_import.specs.Written.{WroteFront, WroteInto}
use Rattle.permit_import.specs.declared.fault.ImportFault.{ImportFault}
use Rattle.permit_import.specs.declared.fault.ImportFault.TheVariants.{FirstRecord, Reading, Memory, Writing}
use Rattle.permit_import.specs.declared.outcome.Outcome.{Outcome}
use Rattle.permit_import.specs.declared.tally.Tally.{Tally}

-- no record was tried, or those that a prefix of the list has after the first
abbrev pub HaveBegun : Option (List ℕ) → List Fields → Type 0
HaveBegun left rows = (rows ≡ []) ⊎ BeginWith left (header ∷ rows)

-- each record that was tried has its line, but the last
pub record LosesLast (before after : Option (List ℕ)) (outcomes : List Outcome) : Type 0 where
  pub told : List Outcome
  pub lost : Outcome
  pub are : outcomes ≡ told ++ lost ∷ []
  pub wrote : Appends before after (lines_from 1 told)

-- each record that was tried has its line, but of that of the last only a prefix is out
pub record StopsInLast (before after : Option (List ℕ)) (outcomes : List Outcome) : Type 0 where
  pub told : List Outcome
  pub last : Outcome
  pub are : outcomes ≡ told ++ last ∷ []
  pub wrote : WroteInto before after (lines_from 1 told) (record_line (length told + 1) last)

-- Which records were tried, and what is written. With a tally these are all after the first, with their lines and the
-- counts. Where the first is wrong nothing is tried or written, where reading fails each that was tried has its line, and where
-- memory runs out each, or each but the last. Where the writer fails it was inside the line of the last record that was tried,
-- or after the lines of all, inside the counts.
abbrev pub EndsOf : Option (List ℕ) → Option (List ℕ) → Option (List ℕ) → Result Tally ImportFault → List Fields → List Outcome → Type 0
EndsOf left before after (Ok tally) rows outcomes =
    AreAll left (header ∷ rows) × (tally ≡ tally_of outcomes) × Appends before after (lines_from 1 outcomes ++ count_line tally)
EndsOf left before after (Err FirstRecord) rows outcomes = (rows ≡ []) × IsHeadless left × (after ≡ before)
EndsOf left before after (Err Reading) rows outcomes = HaveBegun left rows × Appends before after (lines_from 1 outcomes)
EndsOf left before after (Err Memory) rows outcomes =
    HaveBegun left rows × (Appends before after (lines_from 1 outcomes) ⊎ LosesLast before after outcomes)
EndsOf left before after (Err Writing) rows outcomes =
    (BeginWith left (header ∷ rows) × StopsInLast before after outcomes)
    ⊎ (AreAll left (header ∷ rows) × WroteInto before after (lines_from 1 outcomes) (count_line (tally_of outcomes)))

-- What is written, where it is asked for, of the lines that say why records are refused: all of them, or a prefix, which isn't
-- the whole.
abbrev pub TellsCauses : Bool → Option (List ℕ) → Option (List ℕ) → List Outcome → Type 0
TellsCauses true before after outcomes =
    Appends before after (causes_from 1 outcomes) ⊎ WroteFront before after (causes_from 1 outcomes)
TellsCauses false before after outcomes = after ≡ before

-- An import of the bytes that a reader has left, with a writer that held some before and after, and one of the causes, which held
-- some before and after too. It tried these records, at most 999999, and the service gave these replies to those that are
-- requests: it served them one after the other, each once.
pub record ImportsBy {T : Type 0} (did : T → Asked → ℕ → Dated → T → Type 0) (token : List ℕ) (day : ℕ) (asked : Bool)
    (left before after said saying : Option (List ℕ)) (old new : T) (result : Result Tally ImportFault) : Type 0 where
  pub rows : List Fields
  pub replies : List Reply
  pub few : length rows ≤ 999999
  pub run : Runs did (requests_of token day rows) replies old new
  pub ends : EndsOf left before after result rows (outcomes_of rows replies)
  pub causes : TellsCauses asked said saying (outcomes_of rows replies)

-- The same by an office: each of those requests was one step of it, with the machine's reply at its place, and the step says what
-- became of the log. Over the whole import the replies and the tables are the machine's over the requests that weren't refused for
-- the store.
pub record Imports {S L : Type 0} (view : S → StoreView) (log : Ghosts L) (token : List ℕ) (day : ℕ) (asked : Bool)
    (left before after said saying : Option (List ℕ)) (old new : OfficeView S L) (result : Result Tally ImportFault) : Type 0 where
  pub rows : List Fields
  pub replies : List Reply
  pub few : length rows ≤ 999999
  pub runs : Runs (StepsOn view log) (requests_of token day rows) replies old new
  pub model : OverHistory (view old.store) (view new.store) (λ h. Ran (view new.store).holds old.policy (requests_of token day rows) replies h)
  pub ends : EndsOf left before after result rows (outcomes_of rows replies)
  pub causes : TellsCauses asked said saying (outcomes_of rows replies)

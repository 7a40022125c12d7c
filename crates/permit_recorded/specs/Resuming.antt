-- What opening an office with its history leaves.
use Rattle.std.specs.Prelude.{◌≡◌, ◌⊎◌, ◌+◌, ℕ, IsTrue, Bool, true, false, List, drop, take, length, ⊤}
use Rattle.std.specs.List.{list_all}
use Rattle.permit_model.specs.History.{History}
use Rattle.permit_model.specs.Machine.{IsHistory}
use Rattle.permit_model.specs.Tables.{Tables, tables}
use Rattle.permit_journal.specs.Files.{Grown}
use Rattle.permit_store.specs.declared.plain.PlainStore.{PlainStore}
use Rattle.permit_store.specs.Frames.{StoreView}
use Rattle.permit_history.specs.declared.entry.Entry.{Entry}
use Rattle.permit_history.specs.LineData.{text_of}
use Rattle.permit_history.specs.Meaning.{meant}
use Rattle.permit_history.specs.Told.{told_history}
use Rattle.permit_history.specs.Within.{is_within}
use Rattle.permit_replay.specs.Bringing.{IsStopped, may_have_done}
use Rattle.permit_replay.specs.Histories.{Unsaid, Completes, history_before, history_by}
use Rattle.permit_replay.specs.Placing.{StandsLast}
use Rattle.permit_replay.specs.Prefixes.{IsTextOf}
use Rattle.permit_recorded.specs.Recorded.{TellsOver}
use Rattle.permit_recorded.specs.declared.resuming.fault.ResumeFault.{ResumeFault}
use Rattle.permit_recorded.specs.declared.resuming.fault.ResumeFault.TheVariants as fault

-- the text of before was cut to its whole lines
abbrev pub IsCutTo : (Unsaid → Type 0) → List ℕ → List ℕ → Type 0
IsCutTo begins before after = (entries : List Entry) × (left : List ℕ) × IsTextOf begins before entries left × (after ≡ text_of entries)

-- so many bytes of the text are there, with a part of what came after them
abbrev pub HasPart : (List ℕ → List ℕ → Type 0) → List ℕ → ℕ → List ℕ → Type 0
HasPart leaves before size after = Grown leaves (drop size before) (take size before) after

-- The text is as it was, or it has its whole lines with a part of what came after them.
abbrev pub IsPartlyCut : (Unsaid → Type 0) → (List ℕ → List ℕ → Type 0) → List ℕ → List ℕ → Type 0
IsPartlyCut begins leaves before after =
    (after ≡ before) ⊎ ((entries : List Entry) × (left : List ℕ) × IsTextOf begins before entries left × Grown leaves left (text_of entries) after)

-- The tables were those of a prefix of the text's whole lines, and of no longer one. So many lines come after it.
pub record IsRedone (begins : Unsaid → Type 0) (bytes : List ℕ) (t : Tables) (redone : ℕ) : Type 0 where
  pub entries : List Entry
  pub left : List ℕ
  pub text : IsTextOf begins bytes entries left
  pub before : ℕ
  pub stood : StandsLast begins before entries t
  pub all : before + redone ≡ length entries

-- a call of the file failed
abbrev pub is_of_file : ResumeFault → Bool
is_of_file (fault.Bring _) = false
is_of_file fault.File = true

-- whether lines may have been redone on the store before the fault
abbrev pub may_have_redone : ResumeFault → Bool
may_have_redone (fault.Bring why) = may_have_done why
may_have_redone fault.File = true

-- Where the store isn't brought to the end of the text, replaying the text stops there.
abbrev pub StopsBy : (PlainStore → StoreView) → (Unsaid → Type 0) → List ℕ → ResumeFault → Type 0
StopsBy view begins bytes (fault.Bring why) = IsStopped view begins bytes why
StopsBy view begins bytes fault.File = ⊤

-- the store holds the history's tables, and the text gives it over the start
pub record HasHistory (start : List Entry) (text : List ℕ) (store : StoreView) (h : History) : Type 0 where
  pub history : IsHistory h
  pub held : store.holds (tables h)
  pub told : TellsOver start text h

-- The text is that of entries. By whatever completes these it gives a history whose tables the store holds: the history that was
-- there before, and what the entries mean over it.
pub record IsResumed (begins : Unsaid → Type 0) (text : List ℕ) (store : StoreView) : Type 0 where
  pub entries : List Entry
  pub text_is : text ≡ text_of entries
  pub within : IsTrue (list_all is_within entries)
  pub has : (unsaid : Unsaid) → Completes begins unsaid entries
      → HasHistory (told_history (history_before unsaid)) text store (history_by unsaid entries)
  pub meant_is : (unsaid : Unsaid) → Completes begins unsaid entries
      → meant (told_history (history_before unsaid)) entries ≡ told_history (history_by unsaid entries)

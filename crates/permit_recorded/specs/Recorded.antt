-- What an office with a history leaves.
use Rattle.std.specs.Prelude.{◌≡◌, ◌⊎◌, ℕ, true, false, List, [], ⊤}
use Rattle.permit_base.specs.declared.refusal.Refusal.TheVariants as refusal
use Rattle.permit_base.specs.declared.request.Request.{Request}
use Rattle.permit_model.specs.History.{History}
use Rattle.permit_model.specs.Machine.{step_as}
use Rattle.permit_history.specs.declared.entry.Entry.{Entry}
use Rattle.permit_history.specs.LineData.{text_of}
use Rattle.permit_history.specs.Meaning.{meant}
use Rattle.permit_history.specs.Told.{told_history}
use Rattle.permit_journal.specs.Files.{FileView, LeavesGrown}
use Rattle.permit_journal.specs.Journals.{JournalView, IsSettled}
use Rattle.permit_office.specs.Office.{OfficeView}
use Rattle.permit_office.specs.declared.reply.Reply.{Reply as Given}
use Rattle.permit_office.specs.declared.reply.Reply.TheVariants as given
use Rattle.permit_store.specs.Frames.{StoreView, HasOneDesk, OverHistory}
use Rattle.permit_recorded.specs.Lines.{IsLineBehind}
use Rattle.permit_recorded.specs.Logs.{LogView}

-- A crash leaves the text, with nothing, a part or all of one line after it: that of the request's entry.
pub record LeavesText (leaves : List ℕ → List ℕ → Type 0) (text : List ℕ) (outcomes : List ℕ → Type 0) (before after : StoreView) (digest : List ℕ)
    (asked : Request) (day : ℕ) : Type 0 where
  pub line : List ℕ
  pub left : LeavesGrown leaves line text outcomes
  pub told : OverHistory before after (λ h. (line ≡ []) ⊎ IsLineBehind h digest asked day line)

-- The text gives the history over this start, which is the history of before where the text begins with an office that was there.
abbrev pub TellsOver : List Entry → List ℕ → History → Type 0
TellsOver start text h = (entries : List Entry) × (text ≡ text_of entries) × (meant start entries ≡ told_history h)

-- Where the journal isn't as before and isn't shut, a store that is without doubt can be read.
abbrev pub IsReadable : {H : Type 0} → StoreView → (old new : JournalView H) → Type 0
IsReadable store old new = new.is_shut ≡ false → store.doubt ≡ 0 → (new ≡ old) ⊎ HasOneDesk store

module _ {H : Type 0} (view : H → FileView) where
  -- the journal is settled, unless it is shut
  abbrev pub Stands : JournalView H → Type 0
  Stands journal = journal.is_shut ≡ false → IsSettled view journal

  -- After a command that is done the text gives the history with it, over the same start, and the journal isn't shut. After any other
  -- reply it gives the history of before, unless the journal is shut.
  abbrev pub TellsAfter : List Entry → Given → (before after : History) → JournalView H → Type 0
  TellsAfter start (given.Done number) before after journal = (journal.is_shut ≡ false) × TellsOver start (view journal.file).text after
  TellsAfter start reply before after journal = journal.is_shut ≡ false → TellsOver start (view journal.file).text before

-- What a step of the office for a request of the party that keeps the digest, on the day, with this reply makes of the history.
pub record StepsWithHistory {S H : Type 0} (view : S → StoreView) (file_view : H → FileView) (leaves : List ℕ → List ℕ → Type 0) (digest : List ℕ)
    (asked : Request) (day : ℕ) (old new : OfficeView S (LogView H)) (reply : Given) : Type 0 where
  -- where the text gave the history, it gives it afterwards, over the same start: with a command that is done
  pub told : IsSettled file_view old.log.journal → OverHistory (view old.store) (view new.store) (λ h.
      (start : List Entry) → TellsOver start (file_view old.log.journal.file).text h
      → TellsAfter file_view start reply h (step_as old.policy h digest asked day).history new.log.journal)
  pub stands : Stands file_view old.log.journal → Stands file_view new.log.journal
  -- once it is shut nothing is done
  pub shut : old.log.journal.is_shut ≡ true → (reply ≡ given.Refused refusal.Store) × (new ≡ old)
  -- a crash leaves the text, with nothing, a part or all of the command's line after it
  pub crash : IsSettled file_view old.log.journal → LeavesText leaves (file_view old.log.journal.file).text (file_view new.log.journal.file).may_leave
      (view old.store) (view new.store) digest asked day
  -- where something was written and the journal isn't shut, a store that is without doubt can be read
  pub read : IsReadable (view new.store) old.log.journal new.log.journal

-- What the log of an office with a history makes of its journal.
use Rattle.std.specs.Prelude.{◌≡◌, ◌≢◌, ◌⊎◌, ℕ, false, true, List, [], ◌++◌}
use Rattle.permit_journal.specs.Files.{FileView, LeavesGrown, Only}
use Rattle.permit_journal.specs.Journals.{JournalView, IsSettled, Has, HasUnlessShut}
use Rattle.permit_office.specs.Logs.{Noted}
use Rattle.permit_store.specs.Frames.{StoreView, HasOneDesk}
use Rattle.permit_recorded.specs.Lines.{IsLineOf}

-- what contracts see of the log
pub record LogView (H : Type 0) : Type 0 where
  pub journal : JournalView H
  -- how many bytes the text had before the entry last made
  pub before : ℕ

-- the line of what is entered
abbrev pub IsItsLine : Noted → List ℕ → Type 0
IsItsLine noted line = IsLineOf noted.caller noted.asked noted.number noted.day line

-- a crash leaves the text, with nothing, a part or all of the command's line after it
pub record LeavesLine (leaves : List ℕ → List ℕ → Type 0) (text : List ℕ) (outcomes : List ℕ → Type 0) (noted : Noted) : Type 0 where
  pub line : List ℕ
  pub left : LeavesGrown leaves line text outcomes
  pub is : (line ≡ []) ⊎ IsItsLine noted line

module _ {H : Type 0} (view : H → FileView) where
  -- the journal has the text, with the command's line at its end
  pub record HasLine (text : List ℕ) (noted : Noted) (journal : JournalView H) : Type 0 where
    pub line : List ℕ
    pub is : IsItsLine noted line
    pub has : Has view journal (text ++ line)

  -- the text, with the command's line at its end, is in the file, and a crash leaves it
  pub record KeepsLine (text : List ℕ) (noted : Noted) (file : H) : Type 0 where
    pub line : List ℕ
    pub is : IsItsLine noted line
    pub there : (view file).text ≡ text ++ line
    pub durable : Only (text ++ line) (view file).may_leave

  module _ (leaves : List ℕ → List ℕ → Type 0) where
    -- The command's line was added to the text.
    pub record IsEntered (old : LogView H) (noted : Noted) (new : LogView H) : Type 0 where
      pub written : IsSettled view old.journal → HasLine (view old.journal.file).text noted new.journal
      pub crash : IsSettled view old.journal → LeavesLine leaves (view old.journal.file).text (view new.journal.file).may_leave noted
      pub before : new.before ≡ old.journal.length

    -- The line couldn't be entered: nothing of it is left, or the journal is shut. One that was shut before is as it was.
    pub record IsRefused (old : LogView H) (noted : Noted) (new : LogView H) : Type 0 where
      pub back : IsSettled view old.journal → HasUnlessShut view new.journal new.journal.is_shut (view old.journal.file).text
      pub crash : IsSettled view old.journal → LeavesLine leaves (view old.journal.file).text (view new.journal.file).may_leave noted
      pub shut : old.journal.is_shut ≡ true → new.journal ≡ old.journal

    -- The line that was entered was taken back, and a store that is without doubt can be read; or the journal is shut. It is where a
    -- call of the store failed, and the line stays.
    pub record IsWithdrawn (before : LogView H) (noted : Noted) (old new : StoreView) (after : LogView H) : Type 0 where
      pub back : IsSettled view before.journal → HasUnlessShut view after.journal after.journal.is_shut (view before.journal.file).text
      pub crash : IsSettled view before.journal → LeavesLine leaves (view before.journal.file).text (view after.journal.file).may_leave noted
      pub read : after.journal.is_shut ≡ false → new.doubt ≡ 0 → HasOneDesk new
      pub shut : new.failed ≢ old.failed → after.journal.is_shut ≡ true
      pub stays : IsSettled view before.journal → new.failed ≢ old.failed → KeepsLine (view before.journal.file).text noted after.journal.file

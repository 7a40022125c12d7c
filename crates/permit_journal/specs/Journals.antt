-- What contracts see of a journal.
use Rattle.std.specs.Prelude.{◌≡◌, ℕ, Bool, true, false, List, length}
use Rattle.permit_journal.specs.Files.{FileView, Only}

pub record JournalView (H : Type 0) : Type 0 where
  pub file : H
  -- the bytes of the text
  pub length : ℕ
  -- whether no line is entered any longer: what is in the file isn't known, or not whether it is the text
  pub is_shut : Bool

-- The length is that of the text, all of which is on the disk, and the file appends at its end.
pub record IsSettled {H : Type 0} (view : H → FileView) (journal : JournalView H) : Type 0 where
  pub is_open : journal.is_shut ≡ false
  pub at_end : (view journal.file).is_at_end
  pub counted : journal.length ≡ length (view journal.file).text
  pub durable : Only (view journal.file).text (view journal.file).may_leave

-- the journal is settled on the text
pub record Has {H : Type 0} (view : H → FileView) (journal : JournalView H) (bytes : List ℕ) : Type 0 where
  pub settled : IsSettled view journal
  pub bytes_there : (view journal.file).text ≡ bytes

-- the same, unless it is shut
abbrev pub HasUnlessShut : {H : Type 0} → (H → FileView) → JournalView H → Bool → List ℕ → Type 0
HasUnlessShut view journal true bytes = Unit {0}
HasUnlessShut view journal false bytes = Has view journal bytes

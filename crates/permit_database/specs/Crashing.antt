-- What a crash leaves of a history's text and of the office's database, where a line is entered before the tables are changed.
use Rattle.std.specs.Prelude.{◌≡◌, ◌⊎◌, ◌++◌, ℕ, List}
use Rattle.sqlite_trees.specs.Tree.{Trees}
use Rattle.sqlite_trees.specs.declared.store.Store.{Ghosts}
use Rattle.sqlite.specs.State.{Survives}
use Rattle.sqlite.specs.Held.{Held, state}
use Rattle.permit_journal.specs.Files.{FileView, LeavesGrown}
use Rattle.permit_journal.specs.Journals.{Has, IsSettled, JournalView}

-- Until the line is entered, a crash leaves the text with nothing, a part or all of it at its end, and the database as it was. Then the
-- text has it, on the disk; or nothing is done on the database. From there on a crash leaves the database as it was or made so, and
-- the text with nothing, a part or all of the line, if it is taken back.
pub record CrashesBehind {S H : Type 0} (g : Ghosts S) (view : H → FileView) (leaves : List ℕ → List ℕ → Type 0) (line : List ℕ)
    (made : Trees → Type 0) (old new : JournalView H) (conn back : Held S) : Type 0 where
  pub mid : JournalView H
  pub first : IsSettled view old → LeavesGrown leaves line (view old.file).text (view mid.file).may_leave
  pub entered : (IsSettled view old → Has view mid ((view old.file).text ++ line)) ⊎ (back ≡ conn)
  pub tables : Survives (state g conn) (state g back) made
  pub last : IsSettled view old → LeavesGrown leaves line (view old.file).text (view new.file).may_leave

-- An office whose history begins with a copy of its database.
use Rattle.std.specs.Prelude.{◌≡◌, ℕ, List}
use Rattle.permit_history.specs.Told.{told_on}
use Rattle.permit_history.specs.declared.entry.Deed.TheVariants as deed
use Rattle.permit_journal.specs.Files.{FileView}
use Rattle.permit_journal.specs.Journals.{Has, JournalView}
use Rattle.permit_model.specs.Tables.{Tables}
use Rattle.permit_recorded.specs.Lines.{whole_line_of}
use Rattle.permit_replay.specs.declared.beginning.Beginning.{Beginning}
use Rattle.permit_replay.specs.declared.beginning.Beginning.TheVariants as beginning
use Rattle.permit_replay.specs.Sealing.{IsSealOf}
use Rattle.permit_store.specs.Frames.{StoreView}
use Rattle.permit_store.specs.declared.plain.PlainStore.{PlainStore}

-- the line with which a text begins, with its LF
abbrev pub begin_line : ℕ → List ℕ → List ℕ
begin_line day tables = whole_line_of (told_on day (deed.Begin tables))

-- the text may begin with a copy in memory that has these tables, under the digest of their text
abbrev pub HasCopied : (PlainStore → StoreView) → Tables → Beginning → Type 0
HasCopied view t beginning.Founding = ⊥
HasCopied view t (beginning.Copy copied) = (view copied.store).holds t × IsSealOf t copied.tables

-- the last day of the tables, and the digest of their text
abbrev pub IsSealedOn : Tables → ℕ → List ℕ → Type 0
IsSealedOn t day tables = (day ≡ t.desk.last) × IsSealOf t tables

-- the text is the line that says the last day of these tables and the digest of their text
abbrev pub Begins : {H : Type 0} → (H → FileView) → Tables → ℕ → JournalView H → Type 0
Begins view t day journal = (digest : List ℕ) × IsSealedOn t day digest × Has view journal (begin_line day digest)

-- A party's new token, in an office that is opened with its history.
use Rattle.std.specs.Prelude.{◌≡◌, ℕ, IsTrue, List, ◌++◌, None, Option}
use Rattle.sqlite_trees.specs.declared.store.Store.{Ghosts}
use Rattle.sqlite.specs.State.{HasCleanDisk}
use Rattle.sqlite.specs.Held.{Held, state}
use Rattle.permit_model.specs.Machine.{IsHistory}
use Rattle.permit_model.specs.Renewal.{against_renewal, with_renewed}
use Rattle.permit_model.specs.Tables.{Tables, tables}
use Rattle.permit_history.specs.LineData.{text_of}
use Rattle.permit_history.specs.Told.{told_on}
use Rattle.permit_history.specs.declared.entry.Deed.TheVariants as deed
use Rattle.permit_history.specs.declared.entry.Entry.{Entry}
use Rattle.permit_journal.specs.Files.{FileView}
use Rattle.permit_journal.specs.Journals.{Has, HasUnlessShut, JournalView}
use Rattle.permit_recorded.specs.Lines.{whole_line_of}
use Rattle.permit_recorded.specs.Resuming.{IsResumed}
use Rattle.permit_replay.specs.Alike.{unordered}
use Rattle.permit_replay.specs.Histories.{Unsaid, Completes, history_by}
use Rattle.permit_store.specs.Frames.{StoreView}
use Rattle.permit_sql_rows.specs.Kept.{IsFine, Keeps}
use Rattle.permit_sql.specs.Found.{KeepsSound}
use Rattle.permit_database.specs.Doing.{SaysRedone}
use Rattle.permit_database.specs.Opening.{OpensWith, shown}

-- the line of a party's new token, with its LF
abbrev pub renewal_line : ℕ → ℕ → List ℕ → List ℕ
renewal_line day party digest = whole_line_of (told_on day (deed.RenewToken party digest))

-- the text is that of entries, and the store holds the tables of the history that they record
pub record TellsTables (begins : Unsaid → Type 0) (text : List ℕ) (store : StoreView) : Type 0 where
  pub entries : List Entry
  pub text_is : text ≡ text_of entries
  pub tells : (unsaid : Unsaid) → Completes begins unsaid entries
      → IsHistory (history_by unsaid entries) × store.holds (tables (history_by unsaid entries))

-- the store has the tables of the history that the text gives, and this is their last day
pub record EndsOn (begins : Unsaid → Type 0) (text : List ℕ) (store : StoreView) (day : ℕ) : Type 0 where
  pub resumed : IsResumed begins text store
  pub day_is : (unsaid : Unsaid) → Completes begins unsaid resumed.entries → day ≡ (tables (history_by unsaid resumed.entries)).desk.last

module _ {S H : Type 0} (g : Ghosts S) (begins : Unsaid → Type 0) (view : H → FileView) where
  -- The office was opened with its history over the connection, which was this one then, and how many lines were redone was said.
  pub record WasOpened (conn : Held S) (before : List ℕ) (unsaid said : Option (List ℕ)) : Type 0 where
    pub mid : Held S
    pub journal : JournalView H
    pub redone : ℕ
    pub opens : OpensWith g begins view conn mid before (unordered (shown (state g mid))) journal redone
    pub says : SaysRedone redone unsaid said

  -- Nothing was against the renewal in the tables that the database had then, and it keeps them renewed. The line of the renewal, on
  -- their last day, is after the text, and the whole records the tables that are renewed. It is in the file.
  pub record RenewsWith (conn back : Held S) (before : List ℕ) (file : H) (party : ℕ) (digest : List ℕ) (unsaid said : Option (List ℕ)) : Type 0 where
    pub was : WasOpened conn before unsaid said
    pub sound : HasCleanDisk (state g back) → KeepsSound (state g was.opens.from).now
    pub day : ℕ
    pub left : JournalView H
    pub made : HasCleanDisk (state g back) → (t : Tables) → Keeps t (state g was.mid).now
        → (against_renewal t.parties party digest ≡ None) × Keeps (with_renewed party digest t) (state g back).now
    pub ends : HasCleanDisk (state g back) → IsTrue (view was.journal.file).is_clean
        → EndsOn begins (view was.journal.file).text (unordered (shown (state g was.mid))) day
    pub entered : IsTrue (view was.journal.file).is_clean
        → Has view left ((view was.journal.file).text ++ renewal_line day party digest)
    pub tells : HasCleanDisk (state g back) → IsTrue (view was.journal.file).is_clean
        → TellsTables begins (view left.file).text (unordered (shown (state g back)))
    pub file_is : file ≡ left.file

  -- It isn't renewed. The database and the text, which is in the file, are as they were then, unless the journal is shut.
  pub record IsNotRenewed (conn back : Held S) (before : List ℕ) (file : H) (unsaid said : Option (List ℕ)) : Type 0 where
    pub was : WasOpened conn before unsaid said
    pub left : JournalView H
    pub same : IsFine (state g back) → IsFine (state g was.mid) × ((state g back).now ≡ (state g was.mid).now)
    pub unentered : IsTrue (view was.journal.file).is_clean → HasUnlessShut view left left.is_shut (view was.journal.file).text
    pub file_is : file ≡ left.file

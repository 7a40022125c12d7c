-- An office that is opened over a connection, with or without its history, and why one isn't.
use Rattle.std.specs.Prelude.{◌≡◌, ◌≢◌, ◌⊎◌, ℕ, List, Option, IsTrue, Result, Err}
use Rattle.sqlite_trees.specs.View.{doubt}
use Rattle.sqlite_trees.specs.declared.store.Store.{Ghosts}
use Rattle.sqlite.specs.State.{State, HasCleanDisk, Survives}
use Rattle.sqlite.specs.Held.{Held, state}
use Rattle.permit_base.specs.declared.words.Edition.TheVariants.{Second}
use Rattle.permit_model.specs.Sound.{IsSoundTables}
use Rattle.permit_model.specs.Tables.{Tables}
use Rattle.permit_import.specs.declared.refused.RefusalWord.TheVariants.{Store}
use Rattle.permit_journal.specs.Files.{FileView}
use Rattle.permit_journal.specs.Journals.{IsSettled, JournalView}
use Rattle.permit_replay.specs.Alike.{unordered}
use Rattle.permit_replay.specs.Bringing.{IsNowhere, IsOnTheWay}
use Rattle.permit_replay.specs.Histories.{Unsaid}
use Rattle.permit_recorded.specs.Resuming.{IsCutTo, IsPartlyCut, IsRedone, IsResumed}
use Rattle.permit_store.specs.declared.founder.Founder.{Founder}
use Rattle.permit_store.specs.declared.store.OpenError.{OpenError}
use Rattle.permit_store.specs.declared.store.OpenError.TheVariants as opening
use Rattle.permit_store.specs.Frames.{StoreView, HasOneDesk}
use Rattle.permit_sql_rows.specs.Kept.{Keeps, Shows, IsFine}
use Rattle.permit_sql_rows.specs.Schema.{empty_schema}
use Rattle.permit_sql.specs.Found.{KeepsSound}
use Rattle.permit_sql.specs.Opening.{HasOtherVersion}
use Rattle.permit_sql.specs.Seen.{IsLeft}
use Rattle.permit_subcommands.specs.Failures.{plain}
use Rattle.permit_subcommands.specs.declared.failure.Failure.{Failure}
use Rattle.permit_subcommands.specs.declared.failure.Failure.TheVariants as failure
use Rattle.permit_subcommands.specs.declared.failure.HistoryFailure.TheVariants as history
use Rattle.permit_database.specs.Doing.{SaysRedone}
use Rattle.permit_database.specs.Failing.{IsOfStore, comes_before_redo}
use Rattle.permit_database.specs.Founding.{TellsFounding, tables_founded}

-- a store that holds what a connection shows
abbrev pub shown : State → StoreView
shown s = record { holds = λ t. Shows t s; doubt = doubt s.is_clean; handed = 0; failed = 0; commits = 0 }

module _ {S : Type 0} (g : Ghosts S) where
  -- The store over the connection holds each of the tables that the connection showed, which are sound and of this version. Nothing
  -- is counted yet.
  pub record IsOver (conn now : Held S) (view : StoreView) : Type 0 where
    pub held : (t : Tables) → Shows t (state g conn) → view.holds t
    pub sound : HasCleanDisk (state g now) → KeepsSound (state g conn).now
    pub first : HasCleanDisk (state g now) → ¬ HasOtherVersion Second (state g conn).now
    pub doubt : view.doubt ≡ doubt (state g now).is_clean
    pub counts : (view.handed ≡ 0) × (view.failed ≡ 0) × (view.commits ≡ 0)

  -- the same of an office's store, which was read once
  pub record Opens (conn now : Held S) (view : StoreView) : Type 0 where
    pub over : IsOver conn now view
    pub one : view.doubt ≡ 0 → HasOneDesk view

  -- The same of an office's store whose tables were read into memory beside the one that keeps them, of the sound tables: what
  -- it reads from is made of those alone. How many file rows were handed out for that isn't said.
  pub record OpensInMemory (conn now : Held S) (view : StoreView) : Type 0 where
    pub held : (t : Tables) → Shows t (state g conn) → IsSoundTables t → view.holds t
    pub first : HasCleanDisk (state g now) → ¬ HasOtherVersion Second (state g conn).now
    pub doubt : view.doubt ≡ doubt (state g now).is_clean
    pub counts : (view.failed ≡ 0) × (view.commits ≡ 0)
    pub one : view.doubt ≡ 0 → HasOneDesk view

  -- The connection that comes back shows each of the sound tables that the database kept. A database that kept none is as it was.
  pub record IsOnlyRead (conn back : Held S) : Type 0 where
    pub kept : (t : Tables) → Keeps t (state g conn).now → IsSoundTables t → HasCleanDisk (state g back) → Shows t (state g back)
    pub unsound : ¬ KeepsSound (state g conn).now → IsFine (state g back) → (state g back).now ≡ (state g conn).now

  -- The connection comes back, and shows the tables that it showed. They are of another version, or aren't sound, and then the
  -- database is as it was; or a call failed, or memory was refused. What is said of the tables is said over an open connection.
  pub record Refuses (conn back : Held S) (why : OpenError) : Type 0 where
    pub kept : (t : Tables) → Keeps t (state g conn).now → IsFine (state g back) → Keeps t (state g back).now
    pub same : why ≢ opening.Store → IsFine (state g back) → (state g back).now ≡ (state g conn).now
    pub unsound : ¬ KeepsSound (state g conn).now → IsFine (state g back) → (state g back).now ≡ (state g conn).now
    pub version : why ≡ opening.Version → HasCleanDisk (state g back) → HasOtherVersion Second (state g conn).now
    pub told : HasCleanDisk (state g back) → HasOtherVersion Second (state g conn).now → (why ≡ opening.Version) ⊎ (why ≡ opening.Store)
    pub damaged : why ≡ opening.Damaged → HasCleanDisk (state g back) → ¬ KeepsSound (state g conn).now
    pub judged : why ≢ opening.Store → HasCleanDisk (state g back) → IsTrue (state g back).is_open
    pub refusal : (why ≡ opening.Damaged) ⊎ ((why ≡ opening.Version) ⊎ (why ≡ opening.Store))

  -- the office isn't opened, and that is the failure
  pub record IsUnopened {A : Type 0} (conn back : Held S) (result : Result A Failure) : Type 0 where
    pub why : OpenError
    pub refuses : Refuses conn back why
    pub told : result ≡ Err (failure.Database why)

  -- The connection that comes back shows each of the sound tables that it showed, which are of this version.
  pub record StillShows (conn back : Held S) : Type 0 where
    pub kept : (t : Tables) → Shows t (state g conn) → IsSoundTables t → HasCleanDisk (state g back) → Shows t (state g back)
    pub first : HasCleanDisk (state g back) → ¬ HasOtherVersion Second (state g conn).now

  -- Memory is refused before the connection is used, or for the tables, where a call may have failed too. The failure is the
  -- store's.
  pub record IsWithoutMemory {A : Type 0} (conn back : Held S) (result : Result A Failure) : Type 0 where
    pub left : (back ≡ conn) ⊎ StillShows conn back
    pub told : result ≡ Err (plain Store)

-- ---- with the history, which may begin so

-- A file of this text was only read: it has that text still, a crash leaves no more than before, and it is clean only if it was.
pub record WasRead {H : Type 0} (view : H → FileView) (before after : H) : Type 0 where
  pub text : (view after).text ≡ (view before).text
  pub leaves : (c : List ℕ) → (view after).may_leave c → (view before).may_leave c
  pub clean : IsTrue (view after).is_clean → IsTrue (view before).is_clean

module _ {S H : Type 0} (g : Ghosts S) (begins : Unsaid → Type 0) (view : H → FileView) where
  -- The database was empty, and has the office that the text founds, if the file has reported nothing false. A crash leaves it empty,
  -- or with that office alone.
  pub record IsFoundedFirst (conn from : Held S) (text : List ℕ) (file : H) : Type 0 where
    pub empty : (state g conn).now.schema ≡ empty_schema
    pub founder : Founder
    pub told : IsTrue (view file).is_clean → TellsFounding begins text founder
    pub made : HasCleanDisk (state g from) → Keeps (tables_founded founder) (state g from).now
    pub crash : Survives (state g conn) (state g from) (λ trees. IsLeft trees (tables_founded founder))

  -- The connection over which the text is redone: this one, or one over which the office was founded first.
  abbrev pub IsBase : Held S → Held S → List ℕ → H → Type 0
  IsBase conn from text file = (from ≡ conn) ⊎ IsFoundedFirst conn from text file

  -- The text of before was cut to its whole lines, and the journal is settled on that. So many lines were redone over the tables that
  -- the connection showed, or those of the founding. Now the store over it has the tables that the text gives. That is so where the
  -- disk and the history's file have reported nothing false. Where nothing was redone the tables are those that there were. Over a
  -- database that keeps tables which aren't sound no office is opened.
  pub record OpensWith (conn now : Held S) (before : List ℕ) (store : StoreView) (journal : JournalView H) (redone : ℕ) : Type 0 where
    pub from : Held S
    pub base : IsBase conn from before journal.file
    pub settled : IsTrue (view journal.file).is_clean → IsSettled view journal
    pub cut : IsTrue (view journal.file).is_clean → IsCutTo begins before (view journal.file).text
    pub resumed : HasCleanDisk (state g now) → IsTrue (view journal.file).is_clean → IsResumed begins (view journal.file).text store
    pub redone_is : HasCleanDisk (state g now) → IsTrue (view journal.file).is_clean → (t : Tables) → Shows t (state g from) → IsSoundTables t
        → IsRedone begins before t redone
    pub idle : HasCleanDisk (state g now) → redone ≡ 0 → (t : Tables) → Shows t (state g from) → IsSoundTables t → store.holds t
    pub doubt_is : store.doubt ≡ doubt (state g now).is_clean
    pub sound : HasCleanDisk (state g now) → KeepsSound (state g from).now

  -- The office isn't opened with the text of the file. The database shows the tables that it kept, or those of the founding, or those of
  -- a longer prefix of the text. Where a line can't be replayed, or the tables are those of no prefix, they stay, and so does a database
  -- of another version, or whose tables aren't sound. The file is as it was, or what is after its text's whole lines was cut in part,
  -- and a crash leaves the one or the other.
  pub record FailsToSettle (leaves : List ℕ → List ℕ → Type 0) (conn back : Held S) (file left : H) (why : Failure) : Type 0 where
    pub from : Held S
    pub base : IsBase conn from (view file).text left
    pub on_the_way : HasCleanDisk (state g back) → IsTrue (view left).is_clean → (t : Tables) → Keeps t (state g from).now → IsSoundTables t
        → IsOnTheWay begins (view file).text t (shown (state g back))
    pub kept : IsTrue (comes_before_redo why) → HasCleanDisk (state g back) → (t : Tables) → Keeps t (state g from).now → IsSoundTables t
        → Shows t (state g back)
    pub differs : why ≡ failure.History history.Differs → HasCleanDisk (state g back) → IsTrue (view left).is_clean
        → (t : Tables) → Keeps t (state g from).now → IsSoundTables t → IsNowhere begins (view file).text t
    pub refused : (reason : OpenError) → why ≡ failure.Database reason → reason ≢ opening.Store → Refuses g from back reason
    pub unsound : ¬ KeepsSound (state g from).now → IsFine (state g back) → (state g back).now ≡ (state g from).now
    pub part : IsTrue (view left).is_clean → IsPartlyCut begins leaves (view file).text (view left).text
    pub crash : IsTrue (view left).is_clean → (c : List ℕ) → (view left).may_leave c
        → (view file).may_leave c ⊎ IsPartlyCut begins leaves (view file).text c

  -- The connection has the text's tables, the file comes back as its journal left it, and how many lines were redone is said.
  abbrev pub LeavesOpened : Held S → Held S → H → H → Option (List ℕ) → Option (List ℕ) → Type 0
  LeavesOpened conn back file left before after = (journal : JournalView H) × (redone : ℕ)
      × OpensWith conn back (view file).text (unordered (shown (state g back))) journal redone × (left ≡ journal.file) × SaysRedone redone before after

  -- No office is opened with the text of the file, and nothing is said; or a call of the store failed once it was, or there was no memory
  -- for the tables.
  abbrev pub IsNotOpenedWith : (List ℕ → List ℕ → Type 0) → Held S → Held S → H → H → Failure → Option (List ℕ) → Option (List ℕ) → Type 0
  IsNotOpenedWith leaves conn back file left why before after = (FailsToSettle leaves conn back file left why × (after ≡ before))
      ⊎ (LeavesOpened conn back file left before after × IsOfStore why)

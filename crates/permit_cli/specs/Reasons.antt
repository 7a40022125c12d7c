-- Why a database or a history can't be used, in words.
use Rattle.std.specs.Prelude.{◌≡◌, ◌⊎◌, ℕ, Bool, true, false, not, ◌&&◌, if◌then◌else◌, IsTrue, List, Option, Some, None, codes}
use Rattle.sqlite.specs.Effect.{Database}
use Rattle.sqlite.specs.declared.error.Error.{Error}
use Rattle.sqlite.specs.declared.error.Error.TheVariants as error
use Rattle.sqlite.specs.declared.error.ErrorCode.TheVariants as code
use Rattle.permit_base.specs.declared.words.Edition.{Edition}
use Rattle.permit_base.specs.declared.words.Edition.TheVariants.{First, Second}
use Rattle.permit_store.specs.declared.store.OpenError.{OpenError}
use Rattle.permit_store.specs.declared.store.OpenError.TheVariants as opening
use Rattle.permit_subcommands.specs.Explaining.{line_reason}
use Rattle.permit_subcommands.specs.declared.failure.HistoryFailure.{HistoryFailure}
use Rattle.permit_subcommands.specs.declared.failure.HistoryFailure.TheVariants as history
use Rattle.permit_sql_rows.specs.Schema.{IsOffice}
use Rattle.permit_sql.specs.Opening.{HasOtherVersion}
use Rattle.permit_cli.specs.declared.reason.Reason.{Reason}
use Rattle.permit_cli.specs.declared.reason.Reason.TheVariants as reason
use Rattle.permit_cli.specs.declared.standing.Standing.{Standing}
use Rattle.permit_cli.specs.declared.standing.Standing.TheVariants as standing

-- the line for a reason
abbrev pub reason_line : Reason → List ℕ
reason_line reason.NoFile = codes "no such file or folder"
reason_line reason.NoFolder = codes "no file can be made there: see the folder and its rights"
reason_line reason.Folder = codes "the path is a folder"
reason_line reason.NotRegular = codes "the path is no regular file"
reason_line reason.NoRight = codes "no right to read and write the file"
reason_line reason.SecondName = codes "the file has a second name, a hard link"
reason_line reason.InUse = codes "another program has the file open"
reason_line reason.NoLog = codes "the log beside the file can't be opened: see the folder's rights, a journal of SQLite there, and the disk"
reason_line reason.DiskFull = codes "the disk is full"
reason_line reason.DiskFails = codes "the disk fails"
reason_line reason.Memory = codes "out of memory"
reason_line reason.NoDatabase = codes "no sound SQLite database"
reason_line reason.OtherTables = codes "no tables of an office, or more than those (ANALYZE adds some)"
reason_line reason.FirstVersion = codes "an office of version 1: run \"permit upgrade\""
reason_line reason.SecondVersion = codes "an office of version 2"
reason_line reason.OtherVersion = codes "an office of another version: run the program that made it"
reason_line reason.BadFirstRows = codes "rows that break the rules of version 1"
reason_line reason.BadRows = codes "rows that break the office's rules: run \"permit check-db --why\""
reason_line reason.Failed = codes "the disk is full or fails, or memory ran out"

-- the line for a history that can't be used
abbrev pub history_reason : HistoryFailure → List ℕ
history_reason history.Differs = codes "the tables are not those that the text tells: something was done without --history, or one of the two is another office's or an older copy"
history_reason history.Changed = codes "the first lines have another SHA-256, or there are fewer"
history_reason (history.Line line reason) = line_reason reason
history_reason history.Short = codes "the text ends before its second line, so it is no office's history"
history_reason history.Exists = codes "there is a text in the file already"
history_reason history.Copy = codes "the text begins with a copy of the database that begin-history was given: name it by --from, as it was then"
history_reason history.Itself = codes "the copy that is named by --from is the database itself"
history_reason history.Unused = codes "there is a history, which isn't named"
history_reason history.Store = codes "another program has the file open, it is no regular file or has a second name, there is no right to it, or the disk is full or fails"

-- ---- the tables

-- the database has an office's schema under the edition, and its desk says no other version
pub record HasOffice (edition : Edition) (db : Database) : Type 0 where
  pub schema : IsOffice edition db.schema
  pub version : ¬ HasOtherVersion edition db

-- its desk says a version that is neither of the two
abbrev pub HasUnknownVersion : Database → Type 0
HasUnknownVersion db = HasOtherVersion First db × HasOtherVersion Second db

-- which tables are in a database
abbrev pub Stands : Database → Standing → Type 0
Stands db (standing.Office edition) = HasOffice edition db
Stands db standing.OtherVersion = HasUnknownVersion db
Stands db standing.OtherTables = ((edition : Edition) → ¬ HasOffice edition db) × ¬ HasUnknownVersion db

-- which tables are there, by whether the desk says another version than the first and than the second, and by whether the schema
-- is that of the first and of the second
abbrev pub standing_by : (not_first not_second is_first is_second : Bool) → Standing
standing_by not_first not_second is_first is_second =
    if not_first && not_second then standing.OtherVersion
    else (if not not_first && is_first then standing.Office First
    else (if not not_second && is_second then standing.Office Second else standing.OtherTables))

-- Why tables of the edition can't be used, though they are there: an office is there already, its rows break the rules, or the
-- disk failed.
abbrev pub reason_of_wanted : Edition → OpenError → Reason
reason_of_wanted First opening.Damaged = reason.BadFirstRows
reason_of_wanted Second opening.Damaged = reason.BadRows
reason_of_wanted First opening.Exists = reason.FirstVersion
reason_of_wanted Second opening.Exists = reason.SecondVersion
reason_of_wanted _ _ = reason.Failed

-- why a database can't be used from which the tables of an edition are wanted
abbrev pub reason_for : Edition → OpenError → Standing → Reason
reason_for First why (standing.Office First) = reason_of_wanted First why
reason_for Second why (standing.Office Second) = reason_of_wanted Second why
reason_for Second why (standing.Office First) = reason.FirstVersion
reason_for First why (standing.Office Second) = reason.SecondVersion
reason_for _ why standing.OtherVersion = reason.OtherVersion
reason_for _ why standing.OtherTables = reason.OtherTables

-- What is reported of the tables is so. That a call failed says nothing of them.
abbrev pub IsReasonOf : Edition → OpenError → Database → Reason → Type 0
IsReasonOf wanted why db told = (told ≡ reason.Failed) ⊎ ((found : Standing) × Stands db found × (told ≡ reason_for wanted why found))

-- ---- the path and the file

-- why a file can't be opened, by the library's error; where it only says that it can't, that is looked for at the path
abbrev pub opening_reason : Error → Option Reason
opening_reason (error.SqliteFailure code.CannotOpen) = None
opening_reason (error.SqliteFailure code.DatabaseBusy) = Some reason.InUse
opening_reason (error.SqliteFailure code.DiskFull) = Some reason.DiskFull
opening_reason (error.SqliteFailure code.OutOfMemory) = Some reason.Memory
opening_reason (error.SqliteFailure code.NotADatabase) = Some reason.NoDatabase
opening_reason (error.SqliteFailure code.DatabaseCorrupt) = Some reason.NoDatabase
opening_reason _ = Some reason.DiskFails

-- a reason that says nothing of tables
abbrev pub is_of_path : Reason → Bool
is_of_path reason.OtherTables = false
is_of_path reason.FirstVersion = false
is_of_path reason.SecondVersion = false
is_of_path reason.OtherVersion = false
is_of_path reason.BadFirstRows = false
is_of_path reason.BadRows = false
is_of_path _ = true

-- what may be reported of the failure, whatever the disk gives
abbrev pub IsReasonFor : Edition → OpenError → Reason → Type 0
IsReasonFor wanted why told = IsTrue (is_of_path told) ⊎ ((found : Standing) × (told ≡ reason_for wanted why found))

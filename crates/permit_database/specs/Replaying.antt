-- A database that is brought to the history that a text records.
use Rattle.std.specs.Prelude.{◌≡◌, ◌⊎◌, ℕ, List, Some, Result, Ok, Err, IfOk, OnErr, option_map}
use Rattle.sqlite_trees.specs.declared.store.Store.{Ghosts}
use Rattle.sqlite.specs.Held.{Held, state}
use Rattle.permit_model.specs.Sound.{IsSoundTables}
use Rattle.permit_model.specs.Tables.{Tables}
use Rattle.permit_history.specs.declared.entry.Deed.TheVariants as deed
use Rattle.permit_history.specs.declared.entry.Entry.{Entry}
use Rattle.permit_history.specs.LineRead.{reading_of}
use Rattle.permit_history.specs.Text.{next_line}
use Rattle.permit_history.specs.Told.{told_on}
use Rattle.permit_replay.specs.Bringing.{IsBrought, IsNowhere, IsOnTheWay}
use Rattle.permit_replay.specs.Histories.{Unsaid}
use Rattle.permit_replay.specs.declared.opening.bringing.Brought.{Brought}
use Rattle.permit_store.specs.declared.founder.Founder.{Founder}
use Rattle.permit_sql_rows.specs.Kept.{IsFine, Shows}
use Rattle.permit_subcommands.specs.declared.failure.Failure.{Failure}
use Rattle.permit_subcommands.specs.declared.failure.Failure.TheVariants.{History}
use Rattle.permit_subcommands.specs.declared.failure.HistoryFailure.TheVariants.{Differs}
use Rattle.permit_database.specs.Founding.{tables_founded}
use Rattle.permit_database.specs.Opening.{shown}

-- the entry is one with which a text begins later than its office
abbrev pub IsBeginLine : Entry → Type 0
IsBeginLine entry = (tables : List ℕ) × (entry ≡ told_on entry.day (deed.Begin tables))

-- so is that of the text's first line
abbrev pub IsBegunLater : List ℕ → Type 0
IsBegunLater bytes = (entry : Entry) × (option_map reading_of (next_line bytes) ≡ Some (Ok entry)) × IsBeginLine entry

module _ {S : Type 0} (g : Ghosts S) where
  -- a connection that is well shows what another one did
  abbrev pub IsLeftOf : Held S → Held S → Type 0
  IsLeftOf conn back = IsFine (state g back) → (state g back).now ≡ (state g conn).now

  -- What becomes of sound tables that were held so: they are brought to the end of the text; or they are those of no prefix, and stay;
  -- or they are left on the way.
  pub record BringsOver (begins : Unsaid → Type 0) (bytes : List ℕ) (held : Tables → Type 0) (back : Held S) (result : Result Brought Failure) : Type 0 where
    pub brought : (t : Tables) → held t → IsSoundTables t → IfOk result (IsBrought begins bytes t (shown (state g back)))
    pub differs : (t : Tables) → held t → IsSoundTables t → result ≡ Err (History Differs) → IsNowhere begins bytes t × Shows t (state g back)
    pub left : (t : Tables) → held t → IsSoundTables t → OnErr result (IsOnTheWay begins bytes t (shown (state g back)))

  -- What becomes of an empty database: the founder's tables are made and brought to the end of the text, or left on the way, unless the
  -- database is as it was.
  pub record FoundsAndBrings (begins : Unsaid → Type 0) (bytes : List ℕ) (founder : Founder) (conn back : Held S) (result : Result Brought Failure) : Type 0 where
    pub brought : IfOk result (IsBrought begins bytes (tables_founded founder) (shown (state g back)))
    pub left : OnErr result (IsLeftOf conn back ⊎ IsOnTheWay begins bytes (tables_founded founder) (shown (state g back)))

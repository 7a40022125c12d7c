-- What a text says of a store's tables.
use Rattle.std.specs.Prelude.{◌≡◌, ℕ, List, length}
use Rattle.permit_model.specs.Machine.{IsHistory}
use Rattle.permit_model.specs.Tables.{Tables, tables}
use Rattle.permit_replay.specs.Alike.{AreAlike}
use Rattle.permit_replay.specs.Differing.{IsFirstDifference}
use Rattle.permit_replay.specs.declared.alike.differing.Difference.{Difference}
use Rattle.permit_history.specs.declared.entry.Entry.{Entry}
use Rattle.permit_history.specs.LineData.{text_of}
use Rattle.permit_replay.specs.Histories.{Unsaid, Completes, history_by}
use Rattle.permit_replay.specs.Prefixes.{IsTextOf}

-- the entries give a history, and its tables are these
abbrev pub TellTables : (Unsaid → Type 0) → List Entry → Tables → Type 0
TellTables begins entries t =
    (unsaid : Unsaid) → Completes begins unsaid entries
    → IsHistory (history_by unsaid entries) × AreAlike (tables (history_by unsaid entries)) t

-- the tables are those that the whole lines of the text give, and these have so many bytes
abbrev pub IsAlike : (Unsaid → Type 0) → List ℕ → Tables → ℕ → Type 0
IsAlike begins bytes t size =
    (entries : List Entry) × (left : List ℕ) × IsTextOf begins bytes entries left × TellTables begins entries t × (size ≡ length (text_of entries))

-- at this place they differ first from those that the whole lines of the text give
abbrev pub DiffersFirst : (Unsaid → Type 0) → List ℕ → Tables → Difference → Type 0
DiffersFirst begins bytes t place =
    (entries : List Entry) × (left : List ℕ) × IsTextOf begins bytes entries left
    × ((unsaid : Unsaid) → Completes begins unsaid entries → IsFirstDifference (tables (history_by unsaid entries)) t place)

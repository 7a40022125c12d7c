-- The first entries of an office's history, and the office that a text founds.
use Rattle.std.specs.Prelude.{◌≡◌, ℕ, List, [], ◌∷◌, None, Ok, Some, option_map}
use Rattle.permit_model.specs.Machine.{IsHistory}
use Rattle.permit_model.specs.Tables.{Tables, tables}
use Rattle.permit_history.specs.LineRead.{reading_of}
use Rattle.permit_history.specs.Text.{GivesInTurn, next_line}
use Rattle.permit_history.specs.Told.{told_on}
use Rattle.permit_history.specs.declared.entry.Deed.TheVariants as deed
use Rattle.permit_history.specs.declared.entry.Entry.{Entry}
use Rattle.permit_replay.specs.Histories.{Unsaid, Completes, history_by}
use Rattle.permit_store.specs.declared.founder.Founder.{Founder}
use Rattle.permit_store.specs.Founding.{founding}

-- the founding, and the upgrade of the same day
abbrev pub first_entries : Founder → List Entry
first_entries founder = told_on founder.day (deed.Found founder.name founder.digest) ∷ told_on founder.day deed.Upgrade ∷ []

-- the tables of an office on its founding
abbrev pub tables_founded : Founder → Tables
tables_founded founder = tables (founding founder.name founder.digest founder.day)

-- the first line of the text records the founding by this founder
abbrev pub IsFoundedBy : List ℕ → Founder → Type 0
IsFoundedBy bytes founder =
    option_map reading_of (next_line bytes) ≡ Some (Ok (told_on founder.day (deed.Found founder.name founder.digest)))

-- so it is, and the text's whole lines give a history
pub record TellsFounding (begins : Unsaid → Type 0) (bytes : List ℕ) (founder : Founder) : Type 0 where
  pub founded : IsFoundedBy bytes founder
  pub entries : List Entry
  pub left : List ℕ
  pub given : GivesInTurn bytes entries left
  pub end : next_line left ≡ None
  pub history : (unsaid : Unsaid) → Completes begins unsaid entries → IsHistory (history_by unsaid entries)

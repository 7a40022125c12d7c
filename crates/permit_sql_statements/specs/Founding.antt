-- The statements that make the tables with their founding, and those of an upgrade.
use Rattle.std.specs.Prelude.{◌≡◌, ◌≤◌, ℕ, List, [], ◌∷◌}
use Rattle.std.specs.List.{AllByRecursion}
use Rattle.sqlite.specs.Effect.{Database}
use Rattle.permit_base.specs.declared.words.Edition.TheVariants.{First}
use Rattle.permit_model.specs.Tables.{Tables}
use Rattle.permit_sql_rows.specs.Kept.{KeepsUnder}
use Rattle.sqlite_value.specs.Order.{Row}
use Rattle.permit_sql_statements.specs.Statements.{Statement}
use Rattle.permit_sql_statements.specs.declared.texts.TheConstants.{CREATE_DESK, CREATE_PARTY, CREATE_PARCEL, CREATE_INTEREST, CREATE_FILE, CREATE_PAPER}
use Rattle.permit_sql_statements.specs.declared.texts.TheConstants.{INDEX_CELL, INDEX_APPLICANT, INDEX_CONTRACTOR, INDEX_REVIEWER, INDEX_INSPECTOR}
use Rattle.permit_sql_statements.specs.declared.texts.TheConstants.{INDEX_PARCEL, INDEX_OWNER, INDEX_INTERESTED, CREATE_UPGRADE, FOUND_DESK}
use Rattle.permit_sql_statements.specs.declared.texts.TheConstants.{ADD_UPGRADE, SET_VERSION, ADD_PARTY}

-- six tables, eight indexes, the table of the upgrade, the desk's row, the upgrade's and the first party's
abbrev pub founding_statements : Row → Row → Row → List Statement
founding_statements desk upgrade party =
    (CREATE_DESK.now, []) ∷ (CREATE_PARTY.now, []) ∷ (CREATE_PARCEL.now, []) ∷ (CREATE_INTEREST.now, []) ∷ (CREATE_FILE.now, []) ∷ (CREATE_PAPER.now, [])
    ∷ (INDEX_CELL.now, []) ∷ (INDEX_APPLICANT.now, []) ∷ (INDEX_CONTRACTOR.now, []) ∷ (INDEX_REVIEWER.now, []) ∷ (INDEX_INSPECTOR.now, [])
    ∷ (INDEX_PARCEL.now, []) ∷ (INDEX_OWNER.now, []) ∷ (INDEX_INTERESTED.now, [])
    ∷ (CREATE_UPGRADE.now, []) ∷ (FOUND_DESK.now, desk) ∷ (ADD_UPGRADE.now, upgrade) ∷ (ADD_PARTY.now, party) ∷ []

-- the table of the upgrade, its row and the desk's version
abbrev pub upgrade_statements : Row → List Statement
upgrade_statements upgrade = (CREATE_UPGRADE.now, []) ∷ (ADD_UPGRADE.now, upgrade) ∷ (SET_VERSION.now, []) ∷ []

-- no file's number is above their count
abbrev pub AreCounted : Tables → Type 0
AreCounted t = AllByRecursion (λ f. f.id ≤ t.desk.files) t.files

-- The tables of version 1, with so many files, that a database keeps lead to what this says.
abbrev pub OverFirst : ℕ → Database → (Tables → Type 0) → Type 0
OverFirst files db said = (t : Tables) → t.desk.files ≡ files → AreCounted t → KeepsUnder First t db → said t

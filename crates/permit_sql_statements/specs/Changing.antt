-- The statements of a change, and where statements lead.
use Rattle.std.specs.Prelude.{◌≡◌, ◌++◌, ℕ, List, [], ◌∷◌, Option, ⊤}
use Rattle.sqlite.specs.declared.types.Value.TheVariants.{Text}
use Rattle.sqlite_trees.specs.declared.store.Store.{Ghosts}
use Rattle.sqlite.specs.Held.{Held, state}
use Rattle.permit_model.specs.Codes.{role_code}
use Rattle.permit_model.specs.Tables.{Desk, State as FileState, Tables, edition_numbered}
use Rattle.permit_store.specs.Changes.{paper_of}
use Rattle.permit_store.specs.declared.change.Change.{Change}
use Rattle.permit_store.specs.declared.change.Change.TheVariants.{NewParty, NewParcel, NewOwner, NewInterest, NewFile, NewRow}
use Rattle.permit_store.specs.declared.change.RowEffect.{RowEffect}
use Rattle.permit_store.specs.declared.change.RowEffect.TheVariants as effect
use Rattle.permit_sql_rows.specs.Kept.{IsNamed, Keeps}
use Rattle.permit_sql_rows.specs.Rows.{int, shown_file, shown_paper, row_params}
use Rattle.permit_sql_statements.specs.declared.texts.TheConstants.{ADD_PARTY, ADD_PARCEL, ADD_INTEREST, ADD_FILE, ADD_PAPER, SET_OWNER, WRITE_FILE}
use Rattle.permit_sql_statements.specs.declared.texts.TheConstants.{CLOSE_NOTICE}
use Rattle.permit_sql_statements.specs.Statements.{Statement, Ran, desk_statement}

-- what a file's new row changes beside the row
abbrev pub effect_statements : Desk → ℕ → FileState → RowEffect → List Statement
effect_statements d file s effect.None = []
effect_statements d file s (effect.Paper new) = (ADD_PAPER.now, shown_paper (paper_of file s.papers d.last new)) ∷ []
effect_statements d file s (effect.NoticeClosed number) = (CLOSE_NOTICE.now, int file ∷ int number ∷ []) ∷ []

-- what a change writes but for the desk, which is the one after it
abbrev pub row_statements : Desk → Change → List Statement
row_statements d (NewParty name role digest) =
    (ADD_PARTY.now, int d.parties ∷ Text name.now ∷ int (role_code role) ∷ Text digest ∷ []) ∷ []
row_statements d (NewParcel lot address owner) = (ADD_PARCEL.now, int d.parcels ∷ Text lot.now ∷ Text address.now ∷ int owner ∷ []) ∷ []
row_statements d (NewOwner parcel owner) = (SET_OWNER.now, int parcel ∷ int owner ∷ []) ∷ []
row_statements d (NewInterest parcel party) = (ADD_INTEREST.now, int parcel ∷ int party ∷ []) ∷ []
row_statements d (NewFile s valuation description) =
    (ADD_FILE.now, shown_file (record { id = d.files; state = s; valuation = valuation; description = description.now })) ∷ []
row_statements d (NewRow file s effect) = (WRITE_FILE.now, row_params file s) ∷ effect_statements d file s effect

-- the desk is written last
abbrev pub change_statements : Desk → Change → List Statement
change_statements d change = row_statements d change ++ desk_statement d ∷ []

-- of a row in which no number is 0, whatever its number, where that gives its edition
abbrev pub Names : FileState → Type 0
Names s = (upgrade : Option ℕ) (id : ℕ) → s.edition ≡ edition_numbered upgrade id → IsNamed upgrade id s

-- the same of the row that a change writes
abbrev pub NamesRow : Change → Type 0
NamesRow (NewParty name role digest) = ⊤
NamesRow (NewParcel lot address owner) = ⊤
NamesRow (NewOwner parcel owner) = ⊤
NamesRow (NewInterest parcel party) = ⊤
NamesRow (NewFile s valuation description) = Names s
NamesRow (NewRow file s effect) = Names s

-- The statements lead from each database that keeps the first tables to one that keeps the second, which had as many files at the
-- upgrade.
pub record Lead {S : Type 0} (g : Ghosts S) (statements : List Statement) (t u : Tables) : Type 0 where
  pub upgrade : u.upgrade ≡ t.upgrade
  pub made : (old last : Held S) → Keeps t (state g old).now → Ran g statements old last → Keeps u (state g last).now

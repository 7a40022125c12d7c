-- What the schemas of an office have in common: the six tables of version 1 and the indexes of their keys come first, and there is no view.
use Rattle.std.proofs.Common.{◌≡◌, sym, subst, List, [], ◌∷◌, ◌++◌}
use Rattle.sqlite_schema.specs.declared.schema.Table.{Table}
use Rattle.sqlite_schema.specs.declared.schema.Index.{Index}
use Rattle.sqlite_schema.specs.declared.schema.Schema.{Schema}
use Rattle.sqlite_schema.specs.declared.schema.Constraint.{Constraint}
use Rattle.sqlite_schema.specs.Rules.{Keeps as KeepsRule}
use Rattle.sqlite.specs.Effect.{Database, IsDatabase}
use Rattle.permit_base.specs.declared.words.Edition.{Edition}
use Rattle.permit_base.specs.declared.words.Edition.TheVariants.{First, Second}
use Rattle.permit_sql_rows.specs.Schema.{first_tables, upgrade_table, key_indexes, search_indexes, IsOffice}

-- the six tables and then these, the indexes of the keys and then these
abbrev pub six_then : List Table → List Index → Schema
six_then more searches = record { tables = first_tables ++ more; indexes = key_indexes ++ searches; views = [] }

-- the schema begins so
pub record HasSix (s : Schema) : Type 0 where
  pub more : List Table
  pub searches : List Index
  pub is : s ≡ six_then more searches

pub office_six : (edition : Edition) (s : Schema) → IsOffice edition s → HasSix s
office_six First s first = record { more = []; searches = search_indexes; is = first }
office_six Second s second = record { more = upgrade_table second.order.tree ∷ []; searches = second.order.searches; is = second.is }

-- what is so whatever follows is so of an office
pub of_office : (edition : Edition) (P : Schema → Type 0) → ((more : List Table) (searches : List Index) → P (six_then more searches)) → (s : Schema) →
    IsOffice edition s → P s
of_office edition P always s office = let it = office_six edition s office in subst P (sym it.is) (always it.more it.searches)

-- the schema of an office, by what follows
abbrev pub laid : (edition : Edition) (s : Schema) → IsOffice edition s → Schema
laid edition s office = six_then (office_six edition s office).more (office_six edition s office).searches

-- the rows of a sound database pass its rules
pub rule_of : (edition : Edition) (db : Database) (office : IsOffice edition db.schema) → IsDatabase db → (c : Constraint) →
    KeepsRule c (laid edition db.schema office) db.trees
rule_of edition db office sound c = subst (λ s. KeepsRule c s db.trees) (office_six edition db.schema office).is (sound.obeys.rules c)

-- A table and an index of the office as the program describes them.
use Rattle.std.specs.Prelude.{ℕ, List, [], ◌∷◌, map, false, true}
use Rattle.sqlite_value.specs.declared.value.Value.TheVariants.{Null}
use Rattle.sqlite_value.specs.declared.keys.Collation.TheVariants.{Binary}
use Rattle.sqlite_value.specs.Keys.{plain}
use Rattle.sqlite_schema.specs.declared.schema.Column.{Column}
use Rattle.sqlite_schema.specs.declared.schema.Reference.{Reference}
use Rattle.sqlite_schema.specs.declared.schema.Table.{Table}
use Rattle.sqlite_schema.specs.declared.schema.Index.{Index}
use Rattle.permit_sql_rows.specs.declared.schema.Field.{Field}
use Rattle.permit_sql_rows.specs.declared.schema.Link.{Link}
use Rattle.permit_sql_rows.specs.declared.schema.Shape.{Shape}
use Rattle.permit_sql_rows.specs.declared.schema.Search.{Search}
use Rattle.permit_sql_rows.specs.Schema.{refers}

abbrev pub column_of : Field → Column
column_of f = record { name = f.name.now; kind = f.kind; is_strict = true; not_null = f.not_null; default = Null; collation = Binary }

abbrev pub reference_of : Link → Reference
reference_of l = refers l.place l.parent.now

-- no key, or this one
abbrev pub keys_of : List ℕ → List (List ℕ)
keys_of [] = []
keys_of (place ∷ places) = (place ∷ places) ∷ []

abbrev pub table_of : Shape → Table
table_of s = record {
  name = s.name.now;
  tree = s.tree;
  columns = map column_of s.fields.now;
  key = s.key;
  primary = s.primary.now;
  uniques = keys_of s.unique.now;
  orders = map (λ _. plain) (keys_of s.unique.now);
  checks = [];
  references = map reference_of s.links.now;
  computed = [];
  stamps = record { places = []; terms = []; formats = [] };
  is_counted = false;
}

abbrev pub index_of : Search → Index
index_of s = record { name = s.name.now; tree = s.tree; table = s.table; columns = s.places.now; order = plain; is_unique = s.is_unique }

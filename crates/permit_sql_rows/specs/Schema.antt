-- The tables of the office as the kit understands their texts.
use Rattle.std.specs.Prelude.{true, false, [], ◌∷◌, ◌++◌, Some, None, codes, List, ℕ, ◌≡◌, ◌<◌, ◌⊎◌, length, slice_get, option_map, unwrap_or}
use Rattle.std.specs.List.{AllByRecursion}
use Rattle.permit_base.specs.declared.words.Edition.{Edition}
use Rattle.permit_base.specs.declared.words.Edition.TheVariants.{First, Second}
use Rattle.sqlite.specs.declared.types.Value.TheVariants.{Null}
use Rattle.sqlite_value.specs.declared.keys.Collation.TheVariants.{Binary}
use Rattle.sqlite_value.specs.Keys.{plain}
use Rattle.sqlite_schema.specs.declared.schema.Column.{Column}
use Rattle.sqlite_schema.specs.declared.schema.Reference.{Reference}
use Rattle.sqlite_schema.specs.declared.schema.Table.{Table}
use Rattle.sqlite_schema.specs.declared.schema.Index.{Index}
use Rattle.sqlite_schema.specs.declared.schema.Schema.{Schema}
use Rattle.sqlite_schema.specs.declared.schema.Kind.TheVariants.{Integer, Text}
use Rattle.sqlite_schema.specs.declared.schema.Action.TheVariants.{NoAction}

abbrev pub key_column : Column
key_column = record { name = codes "id"; kind = Integer; is_strict = true; not_null = false; default = Null; collation = Binary }

abbrev pub int_column : List ℕ → Column
int_column name = record { name = name; kind = Integer; is_strict = true; not_null = true; default = Null; collation = Binary }

abbrev pub text_column : List ℕ → Column
text_column name = record { name = name; kind = Text; is_strict = true; not_null = true; default = Null; collation = Binary }

abbrev pub refers : ℕ → List ℕ → Reference
refers place parent = record { columns = place ∷ []; parent = parent; parent_columns = []; on_delete = NoAction; on_update = NoAction; is_deferred = false }

-- a table whose first column is its rowid
abbrev pub keyed : ℕ → List ℕ → List Column → List (List ℕ) → List Reference → Table
keyed tree name columns uniques references = record {
  name = name;
  tree = tree;
  columns = key_column ∷ columns;
  key = Some 0;
  primary = 0 ∷ [];
  uniques = uniques;
  orders = Rattle.std.specs.Prelude.map (λ _. plain) uniques;
  checks = [];
  references = references;
  computed = [];
  stamps = record { places = []; terms = []; formats = [] };
  is_counted = false;
}

-- a table with a key of two columns, its first two
abbrev pub paired : ℕ → List ℕ → List Column → List Reference → Table
paired tree name columns references = record {
  name = name;
  tree = tree;
  columns = columns;
  key = None;
  primary = 1 ∷ 2 ∷ [];
  uniques = (1 ∷ 2 ∷ []) ∷ [];
  orders = plain ∷ [];
  checks = [];
  references = references;
  computed = [];
  stamps = record { places = []; terms = []; formats = [] };
  is_counted = false;
}

abbrev pub desk_table : Table
desk_table = keyed 0 (codes "desk") (int_column (codes "version") ∷ int_column (codes "last") ∷ int_column (codes "parties") ∷ int_column (codes "parcels")
    ∷ int_column (codes "files") ∷ []) [] []

abbrev pub party_table : Table
party_table = keyed 1 (codes "party") (text_column (codes "name") ∷ int_column (codes "role") ∷ text_column (codes "digest") ∷ []) ((4 ∷ []) ∷ []) []

abbrev pub parcel_table : Table
parcel_table = keyed 3 (codes "parcel") (text_column (codes "lot") ∷ text_column (codes "address") ∷ int_column (codes "owner") ∷ []) ((2 ∷ []) ∷ [])
    (refers 4 (codes "party") ∷ [])

abbrev pub interest_table : Table
interest_table = paired 5 (codes "interest") (int_column (codes "parcel") ∷ int_column (codes "party") ∷ [])
    (refers 1 (codes "parcel") ∷ refers 2 (codes "party") ∷ [])

abbrev pub file_table : Table
file_table = keyed 7 (codes "file")
    (int_column (codes "parcel") ∷ int_column (codes "applicant") ∷ int_column (codes "contractor") ∷ int_column (codes "reviewer")
    ∷ int_column (codes "inspector") ∷ int_column (codes "kind")
    ∷ int_column (codes "valuation") ∷ text_column (codes "description") ∷ int_column (codes "filed") ∷ int_column (codes "stage")
    ∷ int_column (codes "deadline") ∷ int_column (codes "done")
    ∷ int_column (codes "request") ∷ int_column (codes "requested") ∷ int_column (codes "ask") ∷ int_column (codes "stopped") ∷ int_column (codes "notices")
    ∷ int_column (codes "papers") ∷ int_column (codes "temporary") ∷ [])
    [] (refers 2 (codes "parcel") ∷ refers 3 (codes "party") ∷ [])

abbrev pub paper_table : Table
paper_table = paired 8 (codes "paper")
    (int_column (codes "file") ∷ int_column (codes "number") ∷ int_column (codes "day") ∷ int_column (codes "author") ∷ int_column (codes "sort")
    ∷ int_column (codes "days") ∷ text_column (codes "text") ∷ text_column (codes "terms") ∷ int_column (codes "open") ∷ [])
    (refers 1 (codes "file") ∷ [])

abbrev pub automatic : List ℕ → ℕ → ℕ → List ℕ → Index
automatic name tree table places = record { name = name; tree = tree; table = table; columns = places; order = plain; is_unique = true }

-- an index that is no key
abbrev pub plain_index : List ℕ → ℕ → ℕ → List ℕ → Index
plain_index name tree table places = record { name = name; tree = tree; table = table; columns = places; order = plain; is_unique = false }

abbrev pub cell_index : Index
cell_index = plain_index (codes "file_cell") 10 7 (11 ∷ 17 ∷ 12 ∷ [])

abbrev pub applicant_index : Index
applicant_index = plain_index (codes "file_applicant") 11 7 (3 ∷ [])

abbrev pub contractor_index : Index
contractor_index = plain_index (codes "file_contractor") 12 7 (4 ∷ [])

abbrev pub reviewer_index : Index
reviewer_index = plain_index (codes "file_reviewer") 13 7 (5 ∷ [])

abbrev pub inspector_index : Index
inspector_index = plain_index (codes "file_inspector") 14 7 (6 ∷ [])

abbrev pub parcel_index : Index
parcel_index = plain_index (codes "file_parcel") 15 7 (2 ∷ [])

abbrev pub owner_index : Index
owner_index = plain_index (codes "parcel_owner") 16 3 (4 ∷ [])

abbrev pub interested_index : Index
interested_index = plain_index (codes "interest_party") 17 5 (2 ∷ [])

-- how many files there were at the upgrade, in one row, in this tree
abbrev pub upgrade_table : ℕ → Table
upgrade_table tree = keyed tree (codes "upgrade") (int_column (codes "files") ∷ []) [] []

-- the tables of version 1
abbrev pub first_tables : List Table
first_tables = desk_table ∷ party_table ∷ parcel_table ∷ interest_table ∷ file_table ∷ paper_table ∷ []

abbrev pub key_indexes : List Index
key_indexes = automatic (codes "sqlite_autoindex_party_1") 2 1 (4 ∷ []) ∷ automatic (codes "sqlite_autoindex_parcel_1") 4 3 (2 ∷ [])
    ∷ automatic (codes "sqlite_autoindex_interest_1") 6 5 (1 ∷ 2 ∷ [])
    ∷ automatic (codes "sqlite_autoindex_paper_1") 9 8 (1 ∷ 2 ∷ []) ∷ []

-- the indexes that make the selections quick
abbrev pub search_indexes : List Index
search_indexes = cell_index ∷ applicant_index ∷ contractor_index ∷ reviewer_index ∷ inspector_index ∷ parcel_index ∷ owner_index ∷ interested_index ∷ []

-- the schema of version 1
abbrev pub first_schema : Schema
first_schema = record { tables = first_tables; indexes = key_indexes ++ search_indexes; views = [] }

-- The places in a database of version 2 that VACUUM and a dump move: the tree of the upgrade's table, and the indexes that are no keys.
pub record Order : Type 0 where
  pub tree : ℕ
  pub searches : List Index

-- the schema of version 2 in an order
abbrev pub schema_in : Order → Schema
schema_in o = record { tables = first_tables ++ upgrade_table o.tree ∷ []; indexes = key_indexes ++ o.searches; views = [] }

-- the order of an office that was founded or upgraded: the table was made after all indexes
abbrev pub made_order : Order
made_order = record { tree = 18; searches = search_indexes }

abbrev pub office_schema : Schema
office_schema = schema_in made_order

-- the index is one of these, in whatever tree
abbrev pub IsAmong : Index → List Index → Type 0
IsAmong index [] = ⊥
IsAmong index (other ∷ more) = (other ≡ record index { tree = other.tree }) ⊎ IsAmong index more

-- The eight search indexes, in any order and in any trees.
pub record AreSearches (indexes : List Index) : Type 0 where
  pub eight : length indexes ≡ 8
  pub each : AllByRecursion (λ index. IsAmong index indexes) search_indexes

-- The schema of version 2 in any order in which SQLite writes it. The six tables of version 1 and the indexes of their keys are in trees
-- 0 to 9, and the library has none above 65535.
pub record IsSecond (s : Schema) : Type 0 where
  pub order : Order
  pub is : s ≡ schema_in order
  pub apart : 9 < order.tree
  pub low : order.tree < 65536
  pub are : AreSearches order.searches

-- the schema of the tables under an edition: version 1 under the first, version 2 under the second
abbrev pub IsOffice : Edition → Schema → Type 0
IsOffice First s = s ≡ first_schema
IsOffice Second s = IsSecond s

-- the tree of the upgrade's table, which is the seventh
abbrev pub upgrade_tree : Schema → ℕ
upgrade_tree s = unwrap_or (option_map (λ t. t.tree) (slice_get s.tables 6)) 0

-- the schema of an empty database
abbrev pub empty_schema : Schema
empty_schema = record { tables = []; indexes = []; views = [] }

-- the tables of version 1 alone
abbrev pub table_schema : Schema
table_schema = record { tables = first_tables; indexes = key_indexes; views = [] }

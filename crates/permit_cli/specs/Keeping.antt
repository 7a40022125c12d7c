-- Where a history lies beside a database.
use Rattle.std.specs.Prelude.{◌≡◌, ◌≢◌, ◌++◌, ℕ, List, [], codes}

-- a text that ends with a name, and not with the path of a folder
abbrev pub EndsWithName : List ℕ → Type 0
EndsWithName stem = (stem ≢ []) × ((folder : List ℕ) → stem ≢ folder ++ codes "/")

-- the path of the history beside a database: `.history` in place of the `.db` after its name
pub record IsBeside (db path : List ℕ) : Type 0 where
  pub stem : List ℕ
  pub named : EndsWithName stem
  pub ends : db ≡ stem ++ codes ".db"
  pub beside : path ≡ stem ++ codes ".history"

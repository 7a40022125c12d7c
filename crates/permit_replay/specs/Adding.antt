-- What a hash is of, as it is added to.
use Rattle.std.specs.Prelude.{ℕ, List, [], ◌++◌, decimal}
use Rattle.std.specs.List.Sorted.{IsStrictlySortedBy}
use Rattle.sha2.specs.declared.Sha256.{Sha256}
use Rattle.sha2.specs.Hashers.{Holds256}
use Rattle.permit_model.specs.Parcels.{Interest}
use Rattle.permit_model.specs.Tables.{Tables}
use Rattle.permit_store.specs.Interests.{DeclareSame}
use Rattle.permit_replay.specs.Sealing.{interest_order}
use Rattle.permit_replay.specs.TablesText.{tables_text}
use Rattle.permit_replay.specs.declared.seal.columns.Column.{Column}
use Rattle.permit_replay.specs.declared.seal.columns.Column.TheVariants.{Text, Number, Nothing}

-- the text in a column
abbrev pub column_text : Column → List ℕ
column_text (Text text) = text.now
column_text (Number n) = decimal n
column_text Nothing = []

-- the text is added to what the hash is of
pub record Adds (text : List ℕ) (old new : Sha256) : Type 0 where
  pub holds : (m : List ℕ) → Holds256 old m → Holds256 new (m ++ text)

-- the text of the tables is added, with each declared interest once, in rising order
pub record AddsTables (t : Tables) (old new : Sha256) : Type 0 where
  pub interests : List Interest
  pub declared : DeclareSame interests t.interests
  pub rising : IsStrictlySortedBy interest_order interests
  pub adds : Adds (tables_text t interests) old new

-- Which records of a parcel list were read.
use Rattle.std.specs.Prelude.{◌≡◌, ◌≢◌, ◌⊎◌, ℕ, Bool, List, [], ◌∷◌, ◌++◌, Option, Some}
use Rattle.std.specs.Bool.{MatchBool}
use Rattle.csv.specs.Reading.{AreRecords, Reached, Ready, default_config, reader_config, reader_state, reader_trim, source_of, strip_bom}
use Rattle.csv.specs.declared.parser.State.{State}
use Rattle.csv.specs.declared.parser.State.TheVariants as st
use Rattle.csv.specs.declared.reader.Reader.{Reader}
use Rattle.csv.specs.declared.reader.Trim.TheVariants as trim
use Rattle.permit_import.specs.Records.{Fields, header}

-- these are all the records of the bytes, where those are known
abbrev pub AreAll : Option (List ℕ) → List Fields → Type 0
AreAll left rows = (bytes : List ℕ) → left ≡ Some bytes → AreRecords default_config st.StartRecord (strip_bom bytes) rows

-- the records of the bytes begin with these
abbrev pub BeginWith : Option (List ℕ) → List Fields → Type 0
BeginWith left rows = (bytes : List ℕ) → left ≡ Some bytes
    → (state : State) × (rest : List ℕ) × Reached default_config st.StartRecord (strip_bom bytes) rows state rest

-- there is no record, or these are the fields of the first, which is another than that of a parcel list
abbrev pub LacksHeader : Option (List ℕ) → Fields → Type 0
LacksHeader left first = (AreAll left [] × (first ≡ [])) ⊎ ((first ≢ header) × BeginWith left (first ∷ []))

-- a reader over the bytes has read these records
pub record Behind {R : Type 0} (remaining : R → Option (List ℕ)) (left : Option (List ℕ)) (reader : Reader R) (rows : List Fields) : Type 0 where
  pub trim : reader_trim reader ≡ trim.None
  pub ready : Ready reader
  pub config : reader_config reader ≡ default_config
  pub reached : (bytes : List ℕ) → left ≡ Some bytes
      → (rest : List ℕ) × (source_of remaining reader ≡ Some rest) × Reached default_config st.StartRecord (strip_bom bytes) rows (reader_state reader) rest

-- one record more was read, or these were all
abbrev pub ReadsNext : {R : Type 0} → (R → Option (List ℕ)) → Option (List ℕ) → List Fields → Fields → Reader R → Bool → Type 0
ReadsNext remaining left rows fields reader found = MatchBool found (Behind remaining left reader (rows ++ fields ∷ [])) (AreAll left rows)

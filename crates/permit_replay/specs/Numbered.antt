-- The rows of numbers, and their texts.
use Rattle.std.specs.Prelude.{ℕ, zero, suc, Bool, List, [], ◌++◌, ◌==◌, find, option_map, unwrap_or}
use Rattle.permit_model.specs.Sound.{has_file, has_parcel, has_party, papers_in}
use Rattle.permit_model.specs.Tables.{Tables}
use Rattle.permit_replay.specs.TablesText.{file_lines, parcel_line, party_line}
use Rattle.permit_replay.specs.declared.seal.Table.{Table}
use Rattle.permit_replay.specs.declared.seal.Table.TheVariants as table

-- the line of the party with the number, or nothing, and likewise
abbrev pub party_text : Tables → ℕ → List ℕ
party_text t id = unwrap_or (option_map party_line (find (λ p. p.id == id) t.parties)) []

abbrev pub parcel_text : Tables → ℕ → List ℕ
parcel_text t id = unwrap_or (option_map parcel_line (find (λ p. p.id == id) t.parcels)) []

abbrev pub file_text : Tables → ℕ → List ℕ
file_text t id = unwrap_or (option_map (λ f. file_lines f (papers_in t id)) (find (λ f. f.id == id) t.files)) []

abbrev pub row_text : Table → Tables → ℕ → List ℕ
row_text table.Parties t id = party_text t id
row_text table.Parcels t id = parcel_text t id
row_text table.Files t id = file_text t id

-- the texts of the numbers from 1 to this
abbrev pub numbers_text : (ℕ → List ℕ) → ℕ → List ℕ
numbers_text text zero = []
numbers_text text (suc n) = numbers_text text n ++ text (suc n)

-- whether there is a row of the number
abbrev pub has_row : Table → Tables → ℕ → Bool
has_row table.Parties t id = has_party t id
has_row table.Parcels t id = has_parcel t id
has_row table.Files t id = has_file t id

-- how many rows of the table the desk counts
abbrev pub counted : Table → Tables → ℕ
counted table.Parties t = t.desk.parties
counted table.Parcels t = t.desk.parcels
counted table.Files t = t.desk.files

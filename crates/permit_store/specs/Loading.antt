-- What is read of the tables of another store into vectors.
use Rattle.std.specs.Prelude.{ℕ, ◌==◌, List, filter, count_by}
use Rattle.permit_base.specs.declared.words.Edition.TheVariants.{First}
use Rattle.permit_model.specs.Codes.{is_edition}
use Rattle.permit_model.specs.Tables.{FileRow, Tables}
use Rattle.permit_store.specs.Plain.{KeptFile}

-- the file with its papers, as the tables have them
abbrev pub kept_of : Tables → FileRow → KeptFile
kept_of t row = record { row = row; papers = filter (λ p. p.file == row.id) t.papers }

-- how many of the files keep to the first edition
abbrev pub first_editions : List KeptFile → ℕ
first_editions files = count_by (λ k. is_edition k.row.state.edition First) files

-- What the texts that read whole tables mean.
use Rattle.std.proofs.Common.{◌≡◌, refl, List, [], ◌∷◌, ℕ, false}
use Rattle.sqlite_tied.specs.Compute.{everything}
use Rattle.sqlite.specs.Listing.{understood, reads_listing}
use Rattle.sqlite.specs.Effect.{Reads}
use Rattle.sqlite.specs.State.{State, Shown}
use Rattle.sqlite_value.specs.Order.{Row}
use Rattle.sqlite_value.specs.declared.keys.Collation.TheVariants.{Binary}
use Rattle.sqlite_value.specs.Keys.{ascending}
use Rattle.sqlite_sql.specs.Term.{col}
use Rattle.sqlite_sql.specs.Query.{Query, inner, end}
use Rattle.sqlite_schema.specs.declared.schema.Table.{Table}
use Rattle.sqlite_schema.specs.declared.schema.Index.{Index}
use Rattle.sqlite_schema.specs.declared.schema.Schema.{Schema}
use Rattle.sqlite_schema.specs.declared.command.Command.TheVariants.{Select}
use Rattle.sqlite.proofs.Callers.{command_of, IsPlain, reads_as}
use Rattle.permit_base.specs.declared.words.Edition.{Edition}
use Rattle.permit_sql_rows.specs.Schema.{IsOffice}
use Rattle.permit_sql_statements.specs.Frames.{IsPlainIn}
use Rattle.permit_sql.specs.declared.texts.TheConstants.{EACH_PARTY, EACH_PARCEL, EACH_INTEREST, EACH_FILE, EACH_PAPER, EACH_ROWID}
use Rattle.permit_sql_statements.proofs.Lookups.{plain_query}
use Rattle.permit_sql_statements.proofs.QueryTexts.{alone, names_of, columns_of}
use Rattle.permit_sql.proofs.Offices.{six_then, of_office}

-- the text is this query
pub record IsText (sql : List ℕ) (q : Query) (s : Schema) : Type 0 where
  pub is : command_of (understood s sql) ≡ Select (alone q) (names_of (command_of (understood s sql)))
  pub plain : IsPlain (understood s sql)
  pub unlisted : reads_listing s sql ≡ false

-- so it is in each schema of an office under the edition
abbrev pub IsTextIn : Edition → List ℕ → Query → Type 0
IsTextIn edition sql q = (s : Schema) → IsOffice edition s → IsText sql q s

-- what is shown of it answers the query
pub read_in : (edition : Edition) (sql : List ℕ) (q : Query) → IsTextIn edition sql q → (old new : State) → IsOffice edition old.now.schema → (rows : List Row) →
    Shown sql [] old new rows → Reads (Select (alone q) (names_of (command_of (understood old.now.schema sql)))) old.now [] rows
read_in edition sql q text old new office rows h =
    let it = text old.now.schema office in
    reads_as sql [] old new old.now.schema refl _ it.is it.plain it.unlisted rows h

abbrev pub each_party_query : Query
each_party_query = plain_query (inner 1 end) [] (col 1 0 ∷ columns_of 3 2) ((col 1 0, ascending Binary) ∷ [])

party_text : (more : List Table) (searches : List Index) → IsText EACH_PARTY.now each_party_query (six_then more searches)
unfolding understood everything
party_text more searches = record { is = refl; plain = (refl, refl); unlisted = refl }

pub each_party_text : (edition : Edition) → IsTextIn edition EACH_PARTY.now each_party_query
each_party_text edition = of_office edition (IsText EACH_PARTY.now each_party_query) party_text

pub each_party_plain : (edition : Edition) → IsPlainIn edition EACH_PARTY.now
each_party_plain edition s office = (each_party_text edition s office).plain

abbrev pub each_parcel_query : Query
each_parcel_query = plain_query (inner 3 end) [] (col 1 0 ∷ columns_of 3 2) ((col 1 0, ascending Binary) ∷ [])

parcel_text : (more : List Table) (searches : List Index) → IsText EACH_PARCEL.now each_parcel_query (six_then more searches)
unfolding understood everything
parcel_text more searches = record { is = refl; plain = (refl, refl); unlisted = refl }

pub each_parcel_text : (edition : Edition) → IsTextIn edition EACH_PARCEL.now each_parcel_query
each_parcel_text edition = of_office edition (IsText EACH_PARCEL.now each_parcel_query) parcel_text

pub each_parcel_plain : (edition : Edition) → IsPlainIn edition EACH_PARCEL.now
each_parcel_plain edition s office = (each_parcel_text edition s office).plain

abbrev pub each_interest_query : Query
each_interest_query = plain_query (inner 5 end) [] (columns_of 2 1) []

interest_text : (more : List Table) (searches : List Index) → IsText EACH_INTEREST.now each_interest_query (six_then more searches)
unfolding understood everything
interest_text more searches = record { is = refl; plain = (refl, refl); unlisted = refl }

pub each_interest_text : (edition : Edition) → IsTextIn edition EACH_INTEREST.now each_interest_query
each_interest_text edition = of_office edition (IsText EACH_INTEREST.now each_interest_query) interest_text

pub each_interest_plain : (edition : Edition) → IsPlainIn edition EACH_INTEREST.now
each_interest_plain edition s office = (each_interest_text edition s office).plain

abbrev pub each_file_query : Query
each_file_query = plain_query (inner 7 end) [] (col 1 0 ∷ columns_of 19 2) ((col 1 0, ascending Binary) ∷ [])

file_text : (more : List Table) (searches : List Index) → IsText EACH_FILE.now each_file_query (six_then more searches)
unfolding understood everything
file_text more searches = record { is = refl; plain = (refl, refl); unlisted = refl }

pub each_file_text : (edition : Edition) → IsTextIn edition EACH_FILE.now each_file_query
each_file_text edition = of_office edition (IsText EACH_FILE.now each_file_query) file_text

pub each_file_plain : (edition : Edition) → IsPlainIn edition EACH_FILE.now
each_file_plain edition s office = (each_file_text edition s office).plain

abbrev pub each_paper_query : Query
each_paper_query = plain_query (inner 8 end) [] (columns_of 9 1) ((col 1 1, ascending Binary) ∷ (col 1 2, ascending Binary) ∷ [])

paper_text : (more : List Table) (searches : List Index) → IsText EACH_PAPER.now each_paper_query (six_then more searches)
unfolding understood everything
paper_text more searches = record { is = refl; plain = (refl, refl); unlisted = refl }

pub each_paper_text : (edition : Edition) → IsTextIn edition EACH_PAPER.now each_paper_query
each_paper_text edition = of_office edition (IsText EACH_PAPER.now each_paper_query) paper_text

pub each_paper_plain : (edition : Edition) → IsPlainIn edition EACH_PAPER.now
each_paper_plain edition s office = (each_paper_text edition s office).plain

abbrev pub each_rowid_query : Query
each_rowid_query = plain_query (inner 8 end) [] (col 1 0 ∷ []) ((col 1 0, ascending Binary) ∷ [])

rowid_text : (more : List Table) (searches : List Index) → IsText EACH_ROWID.now each_rowid_query (six_then more searches)
unfolding understood everything
rowid_text more searches = record { is = refl; plain = (refl, refl); unlisted = refl }

pub each_rowid_text : (edition : Edition) → IsTextIn edition EACH_ROWID.now each_rowid_query
each_rowid_text edition = of_office edition (IsText EACH_ROWID.now each_rowid_query) rowid_text

pub each_rowid_plain : (edition : Edition) → IsPlainIn edition EACH_ROWID.now
each_rowid_plain edition s office = (each_rowid_text edition s office).plain

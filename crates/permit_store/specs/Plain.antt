-- The tables that vectors keep, each file with its papers.
use Rattle.std.specs.Prelude.{◌≡◌, ℕ, ◌==◌, Bool, List, [], length, map, filter, ◌++◌, find, Option, None, Some, option_map, Result}
use Rattle.permit_base.specs.declared.words.Edition.TheVariants.{Second}
use Rattle.permit_model.specs.Caller.{Party}
use Rattle.permit_model.specs.Parcels.{Parcel, Interest}
use Rattle.permit_model.specs.Tables.{State, FileRow, Paper, Tables}
use Rattle.permit_model.specs.Routes.{Found}
use Rattle.permit_store.specs.declared.plain.select.Selection.{Selection}
use Rattle.permit_store.specs.declared.change.RowEffect.{RowEffect}
use Rattle.permit_store.specs.Changes.{papers_after}
use Rattle.permit_store.specs.Interests.{is_declared, DeclareSame}
use Rattle.permit_store.specs.Handing.{Took, IsLeft, more_handed, is_found_by_any}
use Rattle.permit_store.specs.Places.{AreNumbered}

-- a file's row, and its papers in rising number
pub record KeptFile : Type 0 where
  pub row : FileRow
  pub papers : List Paper

-- the papers of a file that is found; none, where it isn't
abbrev pub papers_in : Option KeptFile → List Paper
papers_in None = []
papers_in (Some kept) = kept.papers

-- the papers kept with the file of the number
abbrev pub papers_at : ℕ → List KeptFile → List Paper
papers_at file files = papers_in (find (λ k. k.row.id == file) files)

-- the files are numbered from 1 without a gap, so each is where its number says
abbrev pub AreInPlace : List KeptFile → Type 0
AreInPlace files = AreNumbered (λ k. k.row.id) files

-- the file after its new row, by which this changes of its papers
abbrev pub renewed : ℕ → State → ℕ → RowEffect → KeptFile → KeptFile
renewed file state day effect kept = record {
  row = record kept.row { state = state };
  papers = papers_after file state.papers day effect kept.papers;
}

-- the tables are those of the vectors, with the interests in any order, and the papers of each file are those kept with it;
-- there were so many files at the upgrade
pub record Keeps (at_upgrade last : ℕ) (kept_parties : List Party) (kept_parcels : List Parcel) (kept_interests : List Interest) (kept_files : List KeptFile)
    (t : Tables) : Type 0 where
  pub desk : t.desk ≡ record {
    edition = Second;
    last = last;
    parties = length kept_parties;
    parcels = length kept_parcels;
    files = length kept_files;
  }
  pub upgrade : t.upgrade ≡ Some at_upgrade
  pub parties : t.parties ≡ kept_parties
  pub parcels : t.parcels ≡ kept_parcels
  pub interests : DeclareSame t.interests kept_interests
  pub files : t.files ≡ map (λ k. k.row) kept_files
  pub papers : (file : ℕ) → filter (λ p. p.file == file) t.papers ≡ papers_at file kept_files

-- ---- the rows that selections find

-- the row with its parcel's owner and whether the caller has an interest in the parcel
abbrev pub row_seen : Selection → FileRow → Found
row_seen s row = record {
  row = row;
  owner = option_map (λ p. p.owner) (find (λ p. p.id == row.state.parcel) s.parcels.now.rows.items);
  conflict = is_declared row.state.parcel s.caller s.interests.now.rows.items;
}

-- the rows of the files that any of the selections finds
abbrev pub rows_found : Selection → List KeptFile → List Found
rows_found s files = filter (is_found_by_any s.routes.now s.caller s.day) (map (λ k. row_seen s k.row) files)

-- A prefix of the rows found was handed to the taker, or all of them, and each was counted.
pub record HandsOut {T E : Type 0} (took : T → Found → T → Bool → Type 0) (found : List Found) (old new : ℕ) (before after : T)
    (result : Result Bool E) : Type 0 where
  pub given : List Found
  pub rest : List Found
  pub whole : given ++ rest ≡ found
  pub taken : Took took given before after result
  pub left : IsLeft result rest
  pub count : new ≡ more_handed (length given) old

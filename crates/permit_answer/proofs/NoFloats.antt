-- No row has a float, so that each has one text.
use Rattle.std.proofs.Common.{◌≡◌, ℕ, false, List, [], ◌∷◌, Option, Some, None, refl}
use Rattle.serde_json.specs.Written.{has_float}
use Rattle.permit_base.specs.declared.words.Step.{Step}
use Rattle.permit_model.specs.Tables.{next_in_row}
use Rattle.permit_model.specs.Tables.{FileView, Paper}
use Rattle.permit_answer.specs.RowData.{count_or_null, step_or_null, papers_data, steps_data, done_steps, file_data, listed_data, files_data, listing_data}

pub count_plain : (n : Option ℕ) → has_float (count_or_null n) ≡ false
count_plain None = refl
count_plain (Some n) = refl

pub step_plain : (s : Option Step) → has_float (step_or_null s) ≡ false
step_plain None = refl
step_plain (Some s) = refl

pub steps_plain : (steps : List Step) → has_float (steps_data steps) ≡ false
steps_plain [] = refl
steps_plain (s ∷ steps) = steps_plain steps

pub papers_plain : (papers : List Paper) → has_float (papers_data papers) ≡ false
papers_plain [] = refl
papers_plain (p ∷ papers) = papers_plain papers

pub file_plain : (file : FileView) (papers : List Paper) → has_float (file_data file papers) ≡ false
file_plain file papers =
    rw (
      count_plain file.row.state.ask,
      count_plain file.row.state.contractor,
      count_plain file.row.state.deadline,
      steps_plain (done_steps file.row.state),
      count_plain file.row.state.inspector,
      step_plain (next_in_row file.row.state),
      papers_plain papers,
      step_plain file.row.state.request,
      count_plain file.row.state.requested,
      count_plain file.row.state.reviewer,
      count_plain file.row.state.temporary,
    ) refl

listed_plain : (file : FileView) → has_float (listed_data file) ≡ false
listed_plain file =
    rw (
      count_plain file.row.state.ask,
      count_plain file.row.state.contractor,
      count_plain file.row.state.deadline,
      steps_plain (done_steps file.row.state),
      count_plain file.row.state.inspector,
      step_plain (next_in_row file.row.state),
      step_plain file.row.state.request,
      count_plain file.row.state.requested,
      count_plain file.row.state.reviewer,
      count_plain file.row.state.temporary,
    ) refl

files_plain : (files : List FileView) → has_float (files_data files) ≡ false
files_plain [] = refl
files_plain (file ∷ files) = rw (listed_plain file) (files_plain files)

pub listing_plain : (files : List FileView) → has_float (listing_data files) ≡ false
listing_plain files = rw (files_plain files) refl

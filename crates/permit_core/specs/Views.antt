-- What a file's row says on a day and to a caller.
use Rattle.std.specs.Prelude.{ℕ, Bool, if◌then◌else◌, ◌==◌, List, [], Option}
use Rattle.permit_base.specs.declared.words.Edition.{Edition}
use Rattle.permit_base.specs.declared.words.Kind.{Kind}
use Rattle.permit_base.specs.declared.words.Stage.{Stage}
use Rattle.permit_base.specs.declared.words.Timing.{Timing}
use Rattle.permit_base.specs.declared.words.Relations.{Relations}
use Rattle.permit_model.specs.Search.{is_the_party}
use Rattle.permit_model.specs.Days.{timing_on, is_past}
use Rattle.permit_model.specs.Files.{CaseFile}
use Rattle.permit_model.specs.Facts.{past_stage}
use Rattle.permit_model.specs.Tables.{State}

-- a file as it is filed: nothing was done to it
abbrev pub filed_by : ℕ → ℕ → Kind → Edition → ℕ → ℕ → ℕ → List ℕ → CaseFile
filed_by applicant parcel kind edition day id valuation description = record {
  filing = record {
    id = id;
    parcel = parcel;
    applicant = applicant;
    kind = kind;
    edition = edition;
    valuation = valuation;
    description = description;
    filed = day;
  };
  acts = [];
}

-- the stage on a day: the stored one, or what it becomes once the deadline is past
abbrev pub row_stage : ℕ → State → Stage
row_stage day s = if is_past day s.deadline then past_stage s.stage else s.stage

-- the timing on a day
abbrev pub row_timing : ℕ → State → Timing
row_timing day s = timing_on day s.deadline

-- what the caller is to the file, by the parcel's owner and whether the caller has an interest in it
abbrev pub row_relations : State → ℕ → Option ℕ → Bool → Relations
row_relations s caller owner conflict = record {
  applicant = s.applicant == caller;
  contractor = is_the_party s.contractor caller;
  owner = is_the_party owner caller;
  assigned_reviewer = is_the_party s.reviewer caller;
  assigned_inspector = is_the_party s.inspector caller;
  conflict = conflict;
}

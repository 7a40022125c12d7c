-- The rows that the tables keep, read off the history.
use Rattle.std.specs.Prelude.{ℕ, Bool, true, false, ◌&&◌, List, [], ◌∷◌, map, filter, ◌==◌, nat_le, length, Option, None, Some, option_map, unwrap_or}
use Rattle.std.specs.Prelude.{slice_get, if◌then◌else◌}
use Rattle.permit_base.specs.declared.words.Edition.{Edition}
use Rattle.permit_base.specs.declared.words.Edition.TheVariants as edition_word
use Rattle.permit_base.specs.declared.words.Kind.{Kind}
use Rattle.permit_base.specs.declared.words.Step.{Step}
use Rattle.permit_base.specs.declared.words.Stage.{Stage}
use Rattle.permit_base.specs.declared.words.Timing.{Timing}
use Rattle.permit_base.specs.declared.words.PaperSort.{PaperSort}
use Rattle.permit_base.specs.declared.words.PaperSort.TheVariants as sort
use Rattle.permit_base.specs.declared.request.Command.{Command}
use Rattle.permit_base.specs.declared.request.Request.TheVariants.{AddParty, AddParcel, Transfer, Declare, ReadParcel, File, ReadFile, ListFiles, Register}
use Rattle.permit_base.specs.declared.request.Request.TheVariants.{OnFile}
use Rattle.permit_model.specs.Search.{add_last, has_number}
use Rattle.permit_model.specs.Steps.{required_steps}
use Rattle.permit_model.specs.History.{Deed, Founding, Upgrade, Accepted, Entry, History, edition, last_day}
use Rattle.permit_model.specs.Caller.{Party, parties}
use Rattle.permit_model.specs.Parcels.{Parcel, parcels, Interest, interests}
use Rattle.permit_model.specs.Effects.{effects}
use Rattle.permit_model.specs.Files.{Act, act_of, acts_on, CaseFile, filings, case_files}
use Rattle.permit_model.specs.People.{contractor, reviewer, inspector}
use Rattle.permit_model.specs.Work.{approved_steps, pending_step, requested_day, pending_ask, open_notices, is_stopped, temporary_until, paper_sort}
use Rattle.permit_model.specs.Work.{paper_count}
use Rattle.permit_model.specs.BaseStage.{base_stage}
use Rattle.permit_model.specs.Deadline.{deadline}
use Rattle.permit_model.specs.Facts.{stage_on, timing_of}

-- ---- files

-- the row of a file without its number, valuation and description
pub record State : Type 0 where
  pub parcel : ℕ
  pub applicant : ℕ
  pub contractor : Option ℕ
  pub reviewer : Option ℕ
  pub inspector : Option ℕ
  pub kind : Kind
  pub edition : Edition
  pub filed : ℕ
  pub stage : Stage
  pub deadline : Option ℕ
  pub done : ℕ
  pub request : Option Step
  pub requested : Option ℕ
  pub ask : Option ℕ
  pub stopped : Bool
  pub notices : ℕ
  pub papers : ℕ
  pub temporary : Option ℕ

-- the row of a file
pub record FileRow : Type 0 where
  pub id : ℕ
  pub state : State
  pub valuation : ℕ
  pub description : List ℕ

-- the next step of a row, by the count of those that are done
abbrev pub next_in_row : State → Option Step
next_in_row state = slice_get (required_steps state.edition state.kind) state.done

-- the row of a file, without its number, valuation and description, read off what was done to it
abbrev pub state_of : CaseFile → State
state_of file = record {
  parcel = file.filing.parcel;
  applicant = file.filing.applicant;
  contractor = contractor file.acts;
  reviewer = reviewer file.acts;
  inspector = inspector file.acts;
  kind = file.filing.kind;
  edition = file.filing.edition;
  filed = file.filing.filed;
  stage = base_stage file.acts;
  deadline = deadline file;
  done = length (approved_steps file.acts);
  request = pending_step file.acts;
  requested = requested_day file.acts;
  ask = pending_ask file.acts;
  stopped = is_stopped file.acts;
  notices = length (open_notices file.acts);
  papers = paper_count file.acts;
  temporary = temporary_until file.acts;
}

-- the row of a file, read off what was done to it
abbrev pub file_row : CaseFile → FileRow
file_row file = record { id = file.filing.id; state = state_of file; valuation = file.filing.valuation; description = file.filing.description }

-- a file's row with its stage and timing on a day
pub record FileView : Type 0 where
  pub row : FileRow
  pub stage : Stage
  pub timing : Timing

-- a file's row as it is shown on a day
abbrev pub file_view : ℕ → CaseFile → FileView
file_view day file = record { row = file_row file; stage = stage_on day file; timing = timing_of day file }

-- ---- papers

-- a paper of a file
pub record Paper : Type 0 where
  pub file : ℕ
  pub number : ℕ
  pub day : ℕ
  pub author : ℕ
  pub sort : PaperSort
  pub days : ℕ
  pub text : List ℕ
  pub terms : List ℕ
  pub is_open : Bool

-- the days of a paper: those asked, granted or given, else 0
abbrev pub paper_days : Command → List Act → ℕ
paper_days command before = if (effects command).grants then unwrap_or (pending_ask before) 0 else (effects command).days

-- the text that a command gives its paper
abbrev pub paper_text : Command → List ℕ
paper_text command = (effects command).text

-- the conditions for resuming that a stop work order states
abbrev pub paper_terms : Command → List ℕ
paper_terms command = (effects command).terms

-- whether the paper is a correction notice
abbrev pub is_notice : PaperSort → Bool
is_notice sort.Notice = true
is_notice sort.Permit = false
is_notice sort.Returned = false
is_notice sort.Resubmitted = false
is_notice sort.Rejected = false
is_notice sort.Asked = false
is_notice sort.Granted = false
is_notice sort.Refused = false
is_notice sort.Stop = false
is_notice sort.Lifted = false
is_notice sort.Revoked = false
is_notice sort.Temporary = false
is_notice sort.Certificate = false

-- the paper that an act makes, with the acts before it and the notices that are open now
abbrev pub paper_by : ℕ → List ℕ → Act → List Act → Option Paper
paper_by file open_now act before =
    option_map (λ s. record {
      file = file;
      number = unwrap_or act.number 0;
      day = act.day;
      author = act.caller;
      sort = s;
      days = paper_days act.command before;
      text = paper_text act.command;
      terms = paper_terms act.command;
      is_open = is_notice s && has_number open_now (unwrap_or act.number 0);
    }) (paper_sort act.command)

-- the paper of a deed, with the history that is now and the one before the deed
abbrev pub paper_of_deed : History → Entry → Deed → History → Option Paper
paper_of_deed now entry (Accepted (OnFile file command)) before = paper_by file (open_notices (acts_on file now)) (act_of entry command) (acts_on file before)
paper_of_deed now entry (Founding name digest) before = None
paper_of_deed now entry Upgrade before = None
paper_of_deed now entry (Accepted (AddParty name role token)) before = None
paper_of_deed now entry (Accepted (AddParcel lot address owner)) before = None
paper_of_deed now entry (Accepted (Transfer parcel to)) before = None
paper_of_deed now entry (Accepted (Declare parcel)) before = None
paper_of_deed now entry (Accepted (ReadParcel parcel)) before = None
paper_of_deed now entry (Accepted (File parcel kind valuation description)) before = None
paper_of_deed now entry (Accepted (ReadFile file)) before = None
paper_of_deed now entry (Accepted (ListFiles filter)) before = None
paper_of_deed now entry (Accepted (Register kind)) before = None

-- the papers of the entries, oldest first, as they are in the history that is now
abbrev pub papers_made : History → History → List Paper
papers_made now [] = []
papers_made now (entry ∷ before) = add_last (papers_made now before) (paper_of_deed now entry entry.deed before)

-- the papers of the file with the number: those that name it
abbrev pub papers_of : History → ℕ → List Paper
papers_of h id = filter (λ p. p.file == id) (papers_made h h)

-- ---- all tables

-- the version of the tables under an edition
abbrev pub version_of : Edition → ℕ
version_of edition_word.First = 1
version_of edition_word.Second = 2

-- the edition in force, by the count of files at the upgrade
abbrev pub edition_by : Option ℕ → Edition
edition_by None = edition_word.First
edition_by (Some count) = edition_word.Second

-- how many files there were at the upgrade once the deed is done, with the files then and the count before it
abbrev pub files_at : Deed → ℕ → Option ℕ → Option ℕ
files_at Upgrade files before = Some files
files_at (Founding name digest) files before = before
files_at (Accepted request) files before = before

-- how many files there were at the upgrade, if there was one
abbrev pub files_at_upgrade : History → Option ℕ
files_at_upgrade [] = None
files_at_upgrade (entry ∷ before) = files_at entry.deed (length (filings before)) (files_at_upgrade before)

-- the edition of a file by its number: the first one up to the count at the upgrade, or where there was none
abbrev pub edition_numbered : Option ℕ → ℕ → Edition
edition_numbered None id = edition_word.First
edition_numbered (Some count) id = if nat_le id count then edition_word.First else edition_word.Second

-- the edition of the inspections that is in force, the last day and the counts
pub record Desk : Type 0 where
  pub edition : Edition
  pub last : ℕ
  pub parties : ℕ
  pub parcels : ℕ
  pub files : ℕ

-- the tables; that of the upgrade has the count of files then, where there was one
pub record Tables : Type 0 where
  pub desk : Desk
  pub upgrade : Option ℕ
  pub parties : List Party
  pub parcels : List Parcel
  pub interests : List Interest
  pub files : List FileRow
  pub papers : List Paper

-- the desk after a history
abbrev pub desk_of : History → Desk
desk_of h = record { edition = edition h; last = last_day h; parties = length (parties h); parcels = length (parcels h); files = length (case_files h) }

-- the tables after a history; interests and papers are in the order in which they were made
abbrev pub tables : History → Tables
tables h = record {
  desk = desk_of h;
  upgrade = files_at_upgrade h;
  parties = parties h;
  parcels = parcels h;
  interests = interests h;
  files = map file_row (case_files h);
  papers = papers_made h h;
}

-- the tables after the upgrade
abbrev pub with_upgrade : Tables → Tables
with_upgrade t = record t { desk = record t.desk { edition = edition_word.Second }; upgrade = Some t.desk.files }

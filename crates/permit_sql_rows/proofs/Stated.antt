-- A file's state is its fields.
use Rattle.std.proofs.Common.{◌≡◌, ℕ, Bool, Option, None, subst, sym, true≢false}
use Rattle.std.specs.Prelude.{IsSome, List, Result, Err, IfErr}
use Rattle.permit_base.specs.declared.words.Edition.{Edition}
use Rattle.permit_base.specs.declared.words.Kind.{Kind}
use Rattle.permit_base.specs.declared.words.Step.{Step}
use Rattle.permit_base.specs.declared.words.Stage.{Stage}
use Rattle.permit_model.specs.Tables.{State, FileRow}
use Rattle.permit_model.specs.Routes.{Found}
use Rattle.permit_sql_rows.specs.declared.fields.RowFault.{RowFault}
use Rattle.permit_sql_rows.specs.declared.fields.RowFault.TheVariants.{NoMemory}

pub state_is : (s : State)
    (parcel_1 : ℕ) (applicant_1 : ℕ) (contractor_1 : Option ℕ) (reviewer_1 : Option ℕ) (inspector_1 : Option ℕ) (kind_1 : Kind) (edition_1 : Edition)
    (filed_1 : ℕ) (stage_1 : Stage) (deadline_1 : Option ℕ) (done_1 : ℕ) (request_1 : Option Step) (requested_1 : Option ℕ) (ask_1 : Option ℕ)
    (stopped_1 : Bool) (notices_1 : ℕ) (papers_1 : ℕ) (temporary_1 : Option ℕ)
    → parcel_1 ≡ s.parcel → applicant_1 ≡ s.applicant → contractor_1 ≡ s.contractor → reviewer_1 ≡ s.reviewer → inspector_1 ≡ s.inspector → kind_1 ≡
    s.kind → edition_1 ≡ s.edition → filed_1 ≡ s.filed → stage_1 ≡ s.stage → deadline_1 ≡ s.deadline → done_1 ≡ s.done → request_1 ≡ s.request →
    requested_1 ≡ s.requested → ask_1 ≡ s.ask → stopped_1 ≡ s.stopped → notices_1 ≡ s.notices → papers_1 ≡ s.papers → temporary_1 ≡ s.temporary
    → ◌≡◌ {A = State} (record {
      parcel = parcel_1;
      applicant = applicant_1;
      contractor = contractor_1;
      reviewer = reviewer_1;
      inspector = inspector_1;
      kind = kind_1;
      edition = edition_1;
      filed = filed_1;
      stage = stage_1;
      deadline = deadline_1;
      done = done_1;
      request = request_1;
      requested = requested_1;
      ask = ask_1;
      stopped = stopped_1;
      notices = notices_1;
      papers = papers_1;
      temporary = temporary_1;
    }) s
state_is s parcel_1 applicant_1 contractor_1 reviewer_1 inspector_1 kind_1 edition_1
    filed_1 stage_1 deadline_1 done_1 request_1 requested_1 ask_1 stopped_1 notices_1 papers_1 temporary_1
    e0 e1 e2 e3 e4 e5 e6 e7 e8 e9 e10 e11 e12 e13 e14 e15 e16 e17 = λ i. record {
      parcel = e0 i;
      applicant = e1 i;
      contractor = e2 i;
      reviewer = e3 i;
      inspector = e4 i;
      kind = e5 i;
      edition = e6 i;
      filed = e7 i;
      stage = e8 i;
      deadline = e9 i;
      done = e10 i;
      request = e11 i;
      requested = e12 i;
      ask = e13 i;
      stopped = e14 i;
      notices = e15 i;
      papers = e16 i;
      temporary = e17 i;
    }

pub not_some : {A P : Type 0} (o : Option A) → o ≡ None → IsSome o → P
not_some o none some = absurd (true≢false (sym (subst IsSome none some)))

pub row_is : (f : FileRow) (id : ℕ) (state : State) (valuation : ℕ) (description : List ℕ) → id ≡ f.id → state ≡ f.state → valuation ≡ f.valuation →
    description ≡ f.description
    → ◌≡◌ {A = FileRow} (record { id = id; state = state; valuation = valuation; description = description }) f
row_is f id state valuation description a b c d = λ i. record { id = a i; state = b i; valuation = c i; description = d i }

pub found_is : (f : Found) (row : FileRow) (owner : Option ℕ) (conflict : Bool) → row ≡ f.row → owner ≡ f.owner → conflict ≡ f.conflict →
    ◌≡◌ {A = Found} (record { row = row; owner = owner; conflict = conflict }) f
found_is f row owner conflict a b c = λ i. record { row = a i; owner = b i; conflict = c i }

-- what is said of an error, where memory was refused
pub on_memory : {A P : Type 0} {r : Result A RowFault} (e : RowFault) → r ≡ Err e → (e ≡ NoMemory → P) → IfErr r (λ e. e ≡ NoMemory → P)
on_memory {P = P} e is h = subst (λ o. IfErr o (λ e. e ≡ NoMemory → P)) (sym is) h

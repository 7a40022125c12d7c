-- The papers of the table that name a file are those that its acts make.
use Rattle.std.proofs.Common.{arith, ◌≡◌, ℕ, Bool, true, false, cond, ◌==◌, List, [], ◌∷◌, ◌++◌, refl, ◌∙◌, ap}
use Rattle.std.specs.Prelude.{Option, None, Some, filter, option_map, if◌then◌else◌}
use Rattle.std.specs.List.{cons_option}
use Rattle.std.proofs.lemmas.Bool.{eqb-true}
use Rattle.permit_base.specs.declared.words.PaperSort.{PaperSort}
use Rattle.permit_base.specs.declared.request.Command.{Command}
use Rattle.permit_model.specs.Search.{add_last}
use Rattle.permit_model.specs.History.{Deed, Entry, History}
use Rattle.permit_model.specs.Files.{Filing, Act, act_of, acts_on, CaseFile, case_file, case_numbered}
use Rattle.permit_model.specs.Work.{open_notices, paper_sort}
use Rattle.permit_model.specs.Tables.{Paper, paper_by, papers_of, papers_made}
use Rattle.permit_model.proofs.Projection.{filing_numbered}

-- the papers that the acts make, oldest first
abbrev pub papers_from : ℕ → List ℕ → List Act → List Paper
papers_from file open_now [] = []
papers_from file open_now (act ∷ before) = add_last (papers_from file open_now before) (paper_by file open_now act before)

-- the papers of a file in a list
abbrev pub of_file : ℕ → List Paper → List Paper
of_file file papers = filter (λ p. p.file == file) papers

of_file-last : (file : ℕ) (papers : List Paper) (p : Paper) (b : Bool) → (p.file == file) ≡ b →
    of_file file (papers ++ p ∷ []) ≡ (if b then of_file file papers ++ p ∷ [] else of_file file papers)
of_file-last file [] p true e = rw e refl
of_file-last file [] p false e = rw e refl
of_file-last file (q ∷ qs) p true e = rw (of_file-last file qs p true e)
    (elim (q.file == file) as (λ b. cond b (q ∷ (of_file file qs ++ p ∷ [])) (of_file file qs ++ p ∷ []) ≡ cond b (q ∷ of_file file qs) (of_file file qs) ++ p
    ∷ []) [
      | true ↦ refl
      | false ↦ refl
    ])
of_file-last file (q ∷ qs) p false e = rw (of_file-last file qs p false e) refl

-- a paper of another file changes nothing
last_of_other : (file g : ℕ) (open_now : List ℕ) (act : Act) (before : List Act) (papers : List Paper) → (g == file) ≡ false → (s : Option PaperSort) →
    paper_sort act.command ≡ s → of_file file (add_last papers (paper_by g open_now act before)) ≡ of_file file papers
last_of_other file g open_now act before papers e None h = rw h refl
last_of_other file g open_now act before papers e (Some s) h = rw h (of_file-last file papers _ false e)

last_of_same : (file g : ℕ) (open_now : List ℕ) (act : Act) (before : List Act) (papers : List Paper) → (g == file) ≡ true → (s : Option PaperSort) →
    paper_sort act.command ≡ s →
    of_file file (add_last papers (paper_by g open_now act before)) ≡ add_last (of_file file papers) (paper_by g open_now act before)
last_of_same file g open_now act before papers e None h = rw h refl
last_of_same file g open_now act before papers e (Some s) h = rw h (of_file-last file papers _ true e)

-- one command more
command_more : (file g : ℕ) (now : History) (entry : Entry) (command : Command) (before : History) (b : Bool) → (g == file) ≡ b →
    of_file file (papers_made now before) ≡ papers_from file (open_notices (acts_on file now)) (acts_on file before) →
    of_file file (add_last (papers_made now before) (paper_by g (open_notices (acts_on g now)) (act_of entry command) (acts_on g before)))
    ≡ papers_from file (open_notices (acts_on file now)) (cons_option (option_map (act_of entry) (if b then Some command else None)) (acts_on file before))
command_more file g now entry command before true e ih =
    let same : g ≡ file = eqb-true g file e in
    last_of_same file g (open_notices (acts_on g now)) (act_of entry command) (acts_on g before) (papers_made now before) e (paper_sort command) refl
    ∙ ap (λ ps. add_last ps (paper_by g (open_notices (acts_on g now)) (act_of entry command) (acts_on g before))) ih
    ∙ ap (λ x. add_last (papers_from file (open_notices (acts_on file now)) (acts_on file before))
    (paper_by x (open_notices (acts_on x now)) (act_of entry command) (acts_on x before))) same
command_more file g now entry command before false e ih = last_of_other file g (open_notices (acts_on g now)) (act_of entry command) (acts_on g before)
    (papers_made now before) e (paper_sort command) refl ∙ ih

-- one entry more
deed_more : (file : ℕ) (now : History) (caller day : ℕ) (deed : Deed) (number : Option ℕ) (before : History) →
    of_file file (papers_made now before) ≡ papers_from file (open_notices (acts_on file now)) (acts_on file before) →
    of_file file (papers_made now (record { caller = caller; day = day; deed = deed; number = number } ∷ before))
    ≡ papers_from file (open_notices (acts_on file now)) (acts_on file (record { caller = caller; day = day; deed = deed; number = number } ∷ before))
deed_more file now caller day deed number before ih = grind (arith, command_more)

papers_by_file : (file : ℕ) (now before : History) → of_file file (papers_made now before)
    ≡ papers_from file (open_notices (acts_on file now)) (acts_on file before)
papers_by_file file now [] = refl
papers_by_file file now (entry ∷ before) = deed_more file now entry.caller entry.day entry.deed entry.number before (papers_by_file file now before)

pub found_by : (h : History) (file : CaseFile) (o : Option Filing) → option_map (case_file h) o ≡ Some file → case_file h file.filing ≡ file
found_by h file o there = grind arith

-- the papers that name a file are those that its acts make
pub papers_of-case : (h : History) (id : ℕ) (file : CaseFile) → case_numbered h id ≡ Some file →
    papers_of h file.filing.id ≡ papers_from file.filing.id (open_notices file.acts) file.acts
papers_of-case h id file there = grind (arith, papers_by_file, found_by, filing_numbered)

-- The tables after a command on a file.
use Rattle.std.proofs.Common.{◌≡◌, ◌<◌, ◌+◌, ℕ, ◌==◌, Bool, true, false, cond, List, ◌∷◌, length, refl, sym, ◌∙◌, ap, subst, map, arith}
use Rattle.std.specs.Prelude.{Option, None, Some, find, filter, option_map, unwrap_or, is_some, ◌&&◌, if◌then◌else◌, IsTrue, nat_le, nat_lt}
use Rattle.std.proofs.lemmas.Bool.Decides.{nat_tests}
use Rattle.std.proofs.lemmas.List.{length-map}
use Rattle.std.proofs.lemmas.Bool.{eq-eqb, eqb-true}
use Rattle.permit_base.specs.declared.words.PaperSort.{PaperSort}
use Rattle.permit_base.specs.declared.words.PaperSort.TheVariants as sort
use Rattle.permit_base.specs.declared.request.Command.{Command}
use Rattle.permit_base.specs.declared.request.Command.TheVariants.{Return, Resubmit, Reject, Issue, AskExtension, GrantExtension, RefuseExtension, Notice}
use Rattle.permit_base.specs.declared.request.Command.TheVariants.{ClearNotice, Stop, Lift, Revoke, Temporary, Certify}
use Rattle.permit_base.specs.declared.request.Request.TheVariants.{OnFile}
use Rattle.permit_base.specs.Limits.{most_papers}
use Rattle.permit_model.specs.Codes.{is_edition}
use Rattle.permit_office.proofs.Deciding.{both, edition_itself}
use Rattle.permit_model.specs.Search.{add_last, when}
use Rattle.permit_model.specs.History.{History}
use Rattle.permit_model.specs.Files.{Filing, Act, acts_on, filings, CaseFile, case_file, case_files, case_numbered}
use Rattle.permit_model.specs.Work.{is_cleared, paper_sort, makes_paper, paper_count}
use Rattle.permit_model.specs.Tables.{State, FileRow, Paper, paper_by, papers_made, is_notice, file_row, state_of, tables}
use Rattle.permit_model.specs.Admission.{first_failing, file_tests, tests_on, reason_against}
use Rattle.permit_model.proofs.Fronts.{AllPass, all_pass}
use Rattle.permit_model.specs.Machine.{IsHistory, entry_of, paper_number}
use Rattle.permit_model.proofs.Notices.{notices_after, IsFresh, uncleared}
use Rattle.permit_model.proofs.Projection.{WereAdmitted, were_admitted}
use Rattle.permit_model.proofs.Appending.{command_entry, with_act, case_files-command}
use Rattle.permit_core.specs.Naming.{named_paper}
use Rattle.permit_core.specs.RowAfter.{file_after, papers_after}
use Rattle.permit_store.specs.Changes.{with_state, suits_effect, suits_row}
use Rattle.permit_store.specs.declared.change.RowEffect.{RowEffect}
use Rattle.permit_office.specs.Effects.{papers_entered}
use Rattle.permit_office.proofs.Deciding.{all_three}
use Rattle.permit_office.proofs.Finding.{IsCase, case_found, rows_found}
use Rattle.permit_office.proofs.Rows.{rows_with}
use Rattle.permit_office.proofs.Notices.{open_in, act_now, open_after, papers_stay, papers_below, are_below, papers_close}

-- the papers after a command, from the acts on the file before it
abbrev pub papers_now : ℕ → ℕ → ℕ → Command → Option ℕ → History → List Paper
papers_now id caller day command number h =
    let later : History = command_entry caller day id command number ∷ h in
    add_last (papers_made later h) (paper_by id (open_in later id) (act_now caller day command number) (acts_on id h))

-- ---- a command that opens and closes no notice

unopened : (b : Bool) (command : Command) (number : Option ℕ) (open_now : List ℕ) → ((n : Option ℕ) (o : List ℕ) → notices_after command n o ≡ o) →
    (if b then notices_after command number open_now else open_now) ≡ open_now
unopened true command number open_now same = same number open_now
unopened false command number open_now same = refl

sorted : (id caller day number : ℕ) (command : Command) (made : Option ℕ) (open_now : List ℕ) (before : List Act) (papers : List Paper) (o : Option PaperSort) →
    paper_sort command ≡ o →
    (is_some o ≡ true → unwrap_or made 0 ≡ number) → ((s : PaperSort) → o ≡ Some s → is_notice s ≡ false) → named_paper command ≡ None →
    add_last papers (paper_by id open_now (act_now caller day command made) before)
    ≡ papers_entered id number day caller command before o (named_paper command) papers
sorted id caller day number command made open_now before papers None e numbered plain unnamed = rw (e, unnamed) refl
sorted id caller day number command made open_now before papers (Some s) e numbered plain unnamed = rw (e, numbered refl, plain s refl) refl

plain_papers : (h : History) (id caller day number : ℕ) (command : Command) (made : Option ℕ) → ((acts : List Act) → IsFresh acts command made) →
    ((n : Option ℕ) (o : List ℕ) → notices_after command n o ≡ o) →
    (is_some (paper_sort command) ≡ true → unwrap_or made 0 ≡ number) → ((s : PaperSort) → paper_sort command ≡ Some s → is_notice s ≡ false) →
    named_paper command ≡ None →
    papers_now id caller day command made h ≡ papers_entered id number day caller command (acts_on id h) (paper_sort command) (named_paper command)
    (papers_made h h)
plain_papers h id caller day number command made fresh same numbered plain unnamed =
    let later : History = command_entry caller day id command made ∷ h in
    ap (λ ps. add_last ps (paper_by id (open_in later id) (act_now caller day command made) (acts_on id h)))
    (papers_stay later h (λ file. open_after caller day id command made h file (λ e. fresh (acts_on file h))
    ∙ unopened (id == file) command made (open_in h file) same) h)
    ∙ sorted id caller day number command made (open_in later id) (acts_on id h) (papers_made h h) (paper_sort command) refl numbered plain unnamed

-- ---- a notice

-- the notice's number is above those that a clearing named
fresh_on : (h : History) (filing : Filing) (id number file : ℕ) → WereAdmitted filing (acts_on id h) → paper_count (acts_on id h) < number →
    (id == file) ≡ true → is_cleared (acts_on file h) number ≡ false
fresh_on h filing id number file admitted above e =
    ap (λ k. is_cleared (acts_on k h) number) (sym (eqb-true id file e)) ∙ uncleared filing (acts_on id h) number admitted above

notice_papers : (h : History) (filing : Filing) (id caller day number : ℕ) (text : List ℕ) → IsHistory h → WereAdmitted filing (acts_on id h) →
    paper_count (acts_on id h) < number →
    papers_now id caller day (Notice text) (Some number) h ≡ papers_entered id number day caller (Notice text) (acts_on id h) (Some sort.Notice) None
    (papers_made h h)
notice_papers h filing id caller day number text is admitted above =
    let later : History = command_entry caller day id (Notice text) (Some number) ∷ h in
    let opened : (file : ℕ) → open_in later file ≡ (if id == file then number ∷ open_in h file else open_in h file) =
    λ file. open_after caller day id (Notice text) (Some number) h file (fresh_on h filing id number file admitted above) in
    let here : open_in later id ≡ number ∷ open_in h id = opened id ∙ ap (λ (b : Bool). if b then number ∷ open_in h id else open_in h id)
    (eq-eqb id id refl) in
    let it : (number == number) ≡ true = eq-eqb number number refl in
    ap (λ ps. add_last ps (paper_by id (open_in later id) (act_now caller day (Notice text) (Some number)) (acts_on id h)))
    (papers_below later h id number opened h (are_below h id number is above))
    ∙ ap (λ o. add_last (papers_made h h) (paper_by id o (act_now caller day (Notice text) (Some number)) (acts_on id h))) here
    ∙ rw it refl

-- ---- a notice cleared

clearing_papers : (h : History) (id caller day number cleared : ℕ) (made : Option ℕ) →
    papers_now id caller day (ClearNotice cleared) made h ≡ papers_entered id number day caller (ClearNotice cleared) (acts_on id h) None (Some cleared)
    (papers_made h h)
clearing_papers h id caller day number cleared made =
    papers_close (command_entry caller day id (ClearNotice cleared) made ∷ h) h id cleared
    (λ file. open_after caller day id (ClearNotice cleared) made h file (λ e. tt)) h

-- ---- any command

next_paper : (command : Command) (count : ℕ) (b : Bool) → b ≡ true → unwrap_or (when b (count + 1)) 0 ≡ count + 1
next_paper command count true e = refl
next_paper command count false e = cc

papers_after_command : (h : History) (filing : Filing) (id caller day : ℕ) (command : Command) → IsHistory h → WereAdmitted filing (acts_on id h) →
    papers_now id caller day command (when (makes_paper command) (paper_count (acts_on id h) + 1)) h
    ≡ papers_entered id (paper_count (acts_on id h) + 1) day caller command (acts_on id h) (paper_sort command) (named_paper command) (papers_made h h)
papers_after_command h filing id caller day (Notice text) is admitted =
    notice_papers h filing id caller day (paper_count (acts_on id h) + 1) text is admitted (omega arith)
papers_after_command h filing id caller day (ClearNotice cleared) is admitted =
    clearing_papers h id caller day (paper_count (acts_on id h) + 1) cleared (when (makes_paper (ClearNotice cleared)) (paper_count (acts_on id h) + 1))
papers_after_command h filing id caller day command is admitted =
    plain_papers h id caller day (paper_count (acts_on id h) + 1) command (when (makes_paper command) (paper_count (acts_on id h) + 1))
    (λ acts. tt) (λ n o. refl) (next_paper command (paper_count (acts_on id h)) (makes_paper command)) (λ s e. cc) refl

-- ---- the tables

unnumbered : (id a b day caller : ℕ) (command : Command) (before : List Act) (papers : List Paper) (cleared : Option ℕ) →
    papers_entered id a day caller command before None cleared papers ≡ papers_entered id b day caller command before None cleared papers
unnumbered id a b day caller command before papers None = refl
unnumbered id a b day caller command before papers (Some n) = refl

-- the number of a paper is the count of papers with it
counted : (id day caller : ℕ) (command : Command) (act : Act) (before : List Act) (papers : List Paper) (o : Option PaperSort) →
    papers_entered id (length (cond (is_some o) (act ∷ filter (λ (a : Act). makes_paper a.command) before)
    (filter (λ (a : Act). makes_paper a.command) before))) day caller command before o (named_paper command) papers
    ≡ papers_entered id (paper_count before + 1) day caller command before o (named_paper command) papers
counted id day caller command act before papers None = unnumbered id (paper_count before) (paper_count before + 1) day caller command before papers
    (named_paper command)
counted id day caller command act before papers (Some s) =
    let k : length (act ∷ filter (λ (a : Act). makes_paper a.command) before) ≡ paper_count before + 1 = omega arith in
    ap (λ n. papers_entered id n day caller command before (Some s) (named_paper command) papers) k

command_at : (h : History) (day caller : ℕ) (command : Command) (f : Filing) → IsHistory h → find (λ (g : Filing). g.id == f.id) (filings h) ≡ Some f →
    let number : Option ℕ = when (makes_paper command) (paper_count (acts_on f.id h) + 1) in
    let state : State = state_of (with_act (case_file h f) (act_now caller day command number)) in
    (papers : List Paper) → papers ≡ papers_entered f.id state.papers day caller command (acts_on f.id h) (paper_sort command) (named_paper command)
    (papers_made h h) →
    record (tables h) {
      desk = record (tables h).desk { last = day };
      files = map (with_state f.id state) (map file_row (case_files h));
      papers = papers;
    } ≡ tables (command_entry caller day f.id command number ∷ h)
command_at h day caller command f is found papers e =
    let number : Option ℕ = when (makes_paper command) (paper_count (acts_on f.id h) + 1) in
    let act : Act = act_now caller day command number in
    let state : State = state_of (with_act (case_file h f) act) in
    let later : History = command_entry caller day f.id command number ∷ h in
    let count : length (case_files h) ≡ length (case_files later) = length-map (filings h) (case_file h) ∙ sym (length-map (filings h) (case_file later)) in
    ap (λ fs. record (tables h) { desk = record (tables h).desk { last = day }; files = fs; papers = papers }) (rows_with h f.id act state f is refl found)
    ∙ ap (λ cs. record (tables h) { desk = record (tables h).desk { last = day }; files = map file_row cs; papers = papers })
    (sym (case_files-command caller day f.id command number h))
    ∙ ap (λ k. record (tables h) { desk = record (tables h).desk { last = day; files = k }; files = map file_row (case_files later); papers = papers }) count
    ∙ ap (λ ps. record (tables h) {
      desk = record (tables h).desk { last = day; files = length (case_files later) };
      files = map file_row (case_files later);
      papers = ps;
    })
    (e ∙ counted f.id day caller command act (acts_on f.id h) (papers_made h h) (paper_sort command)
    ∙ sym (papers_after_command h f f.id caller day command is (were_admitted h f.id f is found)))

-- the tables after a command on a file are the tables with the file's new row and its effect on the papers
abbrev pub IsEntered : History → ℕ → ℕ → Command → ℕ → State → List Paper → Type 0
IsEntered h day caller command id state papers =
    record (tables h) {
      desk = record (tables h).desk { last = day };
      files = map (with_state id state) (map file_row (case_files h));
      papers = papers;
    } ≡ tables (entry_of h day caller (OnFile id command) ∷ h)

command_of : (h : History) (day caller : ℕ) (command : Command) (f : Filing) → IsHistory h → find (λ (g : Filing). g.id == f.id) (filings h) ≡ Some f →
    (state : State) → state ≡ state_of (file_after day command caller (case_file h f)) →
    (papers : List Paper) → papers ≡ papers_entered f.id state.papers day caller command (acts_on f.id h) (paper_sort command) (named_paper command)
    (papers_made h h) → IsEntered h day caller command f.id state papers
command_of h day caller command f is found state s papers e =
    ap (λ x. record (tables h) {
      desk = record (tables h).desk { last = day };
      files = map (with_state f.id x) (map file_row (case_files h));
      papers = papers;
    }) s
    ∙ command_at h day caller command f is found papers (e ∙ ap (λ (x : State). papers_entered f.id x.papers day caller command (acts_on f.id h)
    (paper_sort command) (named_paper command) (papers_made h h)) s)
    ∙ ap (λ o. tables (command_entry caller day f.id command (paper_number command o) ∷ h)) (sym (ap (option_map (case_file h)) found))

pub command_more : (h : History) (day caller id : ℕ) (command : Command) (one : CaseFile) → IsHistory h → case_numbered h id ≡ Some one → (state : State) →
    state ≡ state_of (file_after day command caller one) →
    (papers : List Paper) → papers ≡ papers_entered id state.papers day caller command one.acts (paper_sort command) (named_paper command) (papers_made h h) →
    IsEntered h day caller command id state papers
command_more h day caller id command one is there state s papers e =
    let c : IsCase h id one = case_found h id one there in
    let acts : one.acts ≡ acts_on c.filing.id h = ap (λ (x : CaseFile). x.acts) (sym c.is) in
    subst (λ n. find (λ (g : Filing). g.id == n) (filings h) ≡ Some c.filing →
    papers ≡ papers_entered n state.papers day caller command one.acts (paper_sort command) (named_paper command) (papers_made h h) →
    IsEntered h day caller command n state papers) c.named
    (λ found given. command_of h day caller command c.filing is found state (s ∙ ap (λ x. state_of (file_after day command caller x)) (sym c.is)) papers
    (given ∙ ap (λ x. papers_entered c.filing.id state.papers day caller command x (paper_sort command) (named_paper command) (papers_made h h)) acts))
    c.found e

-- ---- the change suits the tables

-- a file's row that is there may have a new state of the same parcel, applicant and edition
pub row_suits : (h : History) (id : ℕ) (one : CaseFile) (after : State) (effect : RowEffect) → case_numbered h id ≡ Some one →
    after.parcel ≡ one.filing.parcel → after.applicant ≡ one.filing.applicant → after.edition ≡ one.filing.edition →
    IsTrue (suits_effect (tables h) (state_of one) after effect) → IsTrue
    (suits_row (tables h) (find (λ (r : FileRow). r.id == id) (tables h).files) after effect)
row_suits h id one after effect there parcel applicant edition suits =
    subst (λ (o : Option FileRow). IsTrue (suits_row (tables h) o after effect)) (sym (rows_found h id ∙ ap (option_map file_row) there))
    (all_three ((after.parcel == one.filing.parcel) && (after.applicant == one.filing.applicant)) (is_edition after.edition one.filing.edition)
    (suits_effect (tables h) (state_of one) after effect)
    (both _ _ (eq-eqb after.parcel one.filing.parcel parcel) (eq-eqb after.applicant one.filing.applicant applicant))
    (subst (λ e. IsTrue (is_edition e one.filing.edition)) (sym edition) (edition_itself one.filing.edition)) suits)

-- the count of papers after a command
pub papers_counted : (act : Act) (before : List Act) → paper_count (act ∷ before) ≡ papers_after act.command (paper_count before)
papers_counted act before = counted_by (makes_paper act.command) act (filter (λ (a : Act). makes_paper a.command) before)
  where
    counted_by : (b : Bool) (act : Act) (papers : List Act) → length (cond b (act ∷ papers) papers) ≡ (if b then length papers + 1 else length papers)
    counted_by true act papers = omega arith
    counted_by false act papers = refl

room_by : (h : History) (day : ℕ) (file : CaseFile) (command : Command) → AllPass (file_tests h day file command) → makes_paper command ≡ true →
    nat_le most_papers (paper_count file.acts) ≡ false
room_by h day file (Return text) p e = p.1.0
room_by h day file (Resubmit text) p e = p.1.0
room_by h day file (Reject text) p e = p.1.0
room_by h day file Issue p e = p.1.0
room_by h day file (AskExtension days text) p e = p.1.1.1.0
room_by h day file GrantExtension p e = p.1.1.0
room_by h day file (RefuseExtension text) p e = p.1.1.0
room_by h day file (Notice text) p e = p.1.1.0
room_by h day file (Stop text conditions) p e = p.1.1.0
room_by h day file Lift p e = p.1.1.0
room_by h day file (Revoke text) p e = p.1.0
room_by h day file (Temporary days text) p e = p.1.1.1.1.1.0
room_by h day file Certify p e = p.1.1.1.0
room_by h day file _ p e = cc

below_most : (n : ℕ) → nat_le most_papers n ≡ false → nat_lt n most_papers ≡ true
below_most n e = grind (arith, nat_tests)

-- an admitted command that makes a paper finds room for it
pub papers_room : (h : History) (day caller id : ℕ) (command : Command) (one : CaseFile) → case_numbered h id ≡ Some one →
    reason_against h day caller (OnFile id command) ≡ None → IsTrue (makes_paper command) →
    IsTrue (nat_lt (paper_count one.acts) most_papers)
papers_room h day caller id command one there none makes =
    below_most (paper_count one.acts) (room_by h day one command (all_pass (file_tests h day one command)
    (ap (λ o. first_failing (tests_on h day o command)) (sym there) ∙ none)) makes)

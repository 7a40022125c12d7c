-- A file's new row by an admitted command leaves sound tables sound.
use Rattle.std.proofs.Common.{◌≡◌, ◌≤◌, ℕ, ◌+◌, Bool, true, false, not, cond, ◌==◌, List, [], ◌∷◌, map, length, refl, sym, ◌∙◌, ap, subst, arith}
use Rattle.std.specs.Prelude.{Option, None, Some, is_some, find, filter, option_map, ◌&&◌, ◌||◌, nat_le, IsTrue, unwrap_or}
use Rattle.std.specs.List.{list_all, list_any}
use Rattle.std.specs.Option.{option_or}
use Rattle.std.proofs.lemmas.Bool.{eq-eqb, eqb-true, ne_eqb, le-leb, leb-true, leb-false, and_from, and_parts}
use Rattle.std.proofs.lemmas.List.{length-map}
use Rattle.permit_base.specs.Limits.{is_between, latest_day, latest_deadline, most_papers}
use Rattle.permit_base.specs.declared.words.PaperSort.{PaperSort}
use Rattle.permit_base.specs.declared.words.Role.{Role}
use Rattle.permit_base.specs.declared.words.Role.TheVariants.{Reviewer, Inspector}
use Rattle.permit_base.specs.declared.request.Command.{Command}
use Rattle.permit_base.specs.declared.request.Command.TheVariants.{AssignReviewer, AssignInspector, NameContractor}
use Rattle.permit_core.specs.declared.people.NamedParty.{NamedParty}
use Rattle.permit_core.specs.declared.people.People.{People}
use Rattle.permit_core.specs.Naming.{named_party, named_paper}
use Rattle.permit_core.specs.RowTests.{row_tests, is_of_role}
use Rattle.permit_core.specs.RowAfter.{row_after, row_paper_days}
use Rattle.permit_model.specs.Codes.{is_role, is_edition}
use Rattle.permit_model.specs.Caller.{Party, has_role}
use Rattle.permit_model.specs.Days.{term, longest_permit_extension}
use Rattle.permit_model.specs.Effects.{effects}
use Rattle.permit_model.specs.Work.{paper_sort}
use Rattle.permit_model.specs.Numbering.{is_numbered_from}
use Rattle.permit_model.specs.Tables.{State, FileRow, Paper, Tables, is_notice, next_in_row}
use Rattle.permit_model.specs.SoundState.{is_stored, is_completed, is_certified, deadline_stands, is_for, is_finished, request_dated, IsSoundState}
use Rattle.permit_model.specs.Within.{is_command_within}
use Rattle.permit_model.specs.Sound.{IsSoundTables, has_party, has_party_of, papers_in, if_any, is_counted, has_few_records, is_sound_upgrade}
use Rattle.permit_model.specs.Sound.{is_sound_desk, are_numbered, are_sound_filings, are_sound_stages, is_sound_work, are_sound_papers, never_fall}
use Rattle.permit_model.specs.Sound.{has_sound_people, is_sound_filing, has_own_edition, has_sound_stage, longest_ask, has_sound_certificate, has_sound_notices}
use Rattle.permit_model.specs.Sound.{has_sound_work, has_sound_days, has_sound_text, has_sound_terms, is_sound_paper, are_sound_papers_of}
use Rattle.permit_model.proofs.Fronts.{AllPass}
use Rattle.permit_model.proofs.SoundLists.{between, all_more, passed_not}
use Rattle.permit_model.proofs.SoundPapers.{if_paper, says}
use Rattle.permit_store.specs.declared.change.RowEffect.{RowEffect}
use Rattle.permit_store.specs.Changes.{with_state, papers_after, suits_effect, suits_row}
use Rattle.permit_office.specs.Effects.{paper_entered, papers_with}
use Rattle.permit_office.specs.Sound.{HasState, role_named, is_open_in}
use Rattle.permit_office.proofs.RowStages.{DeadlineIn, deadline_more}
use Rattle.permit_office.proofs.RowWork.{ask_late, is_sound_work_on, work_later, work_more}
use Rattle.permit_office.proofs.RowPapers.{all_filtered, all_of_filter, made_here, made_elsewhere, are_in_order, order_more, opened, is_open_among, opened_more}
use Rattle.permit_office.proofs.RowPapers.{written, room, all_with}
use Rattle.permit_office.proofs.Growing.{found_passes, numbered_same, there_same, renewed_id, all_renewed}
use Rattle.permit_office.proofs.Deciding.{edition_itself}
use Rattle.permit_office.proofs.Finding.{found_number}
use Rattle.permit_office.proofs.SoundLater.{IsLater, file_later, filing_later, edition_later, paper_later}

-- ---- whom a command names

any_or : (test : ℕ → Bool) (a b : Option ℕ) → if_any test a ≡ true → if_any test b ≡ true → if_any test (option_or a b) ≡ true
any_or test None b e f = f
any_or test (Some n) b e f = e

-- the role of the named party is that of the party in the tables
of_role : (role : Role) (named : Option NamedParty) (party : Option Party) →
    option_map (λ (n : NamedParty). n.role) named ≡ option_map (λ (p : Party). p.role) party → is_of_role role named ≡ has_role role party
of_role role None None e = refl
of_role role None (Some p) e = cc
of_role role (Some n) None e = cc
of_role role (Some n) (Some p) e = ap (λ r. is_role role r) (ap (λ o. unwrap_or o n.role) e)

there_as : (named : Option NamedParty) (party : Option Party) → option_map (λ (n : NamedParty). n.role) named ≡ option_map (λ (p : Party). p.role) party →
    is_some named ≡ is_some party
there_as None None e = refl
there_as None (Some p) e = cc
there_as (Some n) None e = cc
there_as (Some n) (Some p) e = refl

people_more : (t : Tables) (day : ℕ) (command : Command) (s : State) (people : People) → AllPass (row_tests day s people command) →
    option_map (λ (n : NamedParty). n.role) people.named ≡ role_named t (named_party command) → has_sound_people t s ≡ true →
    has_sound_people t (row_after day command s) ≡ true
people_more t day command s people p named e =
    let inspector = and_parts _ (if_any (has_party_of t Inspector) s.inspector) e in
    let parts = and_parts (if_any (has_party t) s.contractor) (if_any (has_party_of t Reviewer) s.reviewer) inspector.0 in
    and_from _ _ (and_from _ _ (any_or (has_party t) ((effects command).contractor) s.contractor (builds command p named) parts.0)
    (any_or (has_party_of t Reviewer) ((effects command).reviewer) s.reviewer (reviews command p named) parts.1))
    (any_or (has_party_of t Inspector) ((effects command).inspector) s.inspector (inspects command p named) inspector.1)
  where
    builds : (command : Command) → AllPass (row_tests day s people command) →
        option_map (λ (n : NamedParty). n.role) people.named ≡ role_named t (named_party command) → if_any (has_party t) ((effects command).contractor) ≡ true
    builds (NameContractor party) p named =
        sym (there_as people.named (find (λ (q : Party). q.id == party) t.parties) named) ∙ passed_not (is_some people.named) p.1.0
    builds _ p named = refl

    reviews : (command : Command) → AllPass (row_tests day s people command) →
        option_map (λ (n : NamedParty). n.role) people.named ≡ role_named t (named_party command) →
        if_any (has_party_of t Reviewer) ((effects command).reviewer) ≡ true
    reviews (AssignReviewer party) p named =
        sym (of_role Reviewer people.named (find (λ (q : Party). q.id == party) t.parties) named) ∙ passed_not (is_of_role Reviewer people.named) p.1.0
    reviews _ p named = refl

    inspects : (command : Command) → AllPass (row_tests day s people command) →
        option_map (λ (n : NamedParty). n.role) people.named ≡ role_named t (named_party command) →
        if_any (has_party_of t Inspector) ((effects command).inspector) ≡ true
    inspects (AssignInspector party) p named =
        sym (of_role Inspector people.named (find (λ (q : Party). q.id == party) t.parties) named) ∙ passed_not (is_of_role Inspector people.named) p.1.0
    inspects _ p named = refl

-- ---- the paper that a clearing names

-- of the papers of all files, those of the one
open_here : (id n : ℕ) (ps : List Paper) → list_any (λ (p : Paper). (p.file == id) && (p.is_open && (p.number == n))) ps
    ≡ list_any (λ (p : Paper). p.is_open && (p.number == n)) (filter (λ (p : Paper). p.file == id) ps)
open_here id n [] = refl
open_here id n (p ∷ ps) = by (p.file == id) (open_here id n ps)
  where
    by : (b : Bool) → list_any (λ (q : Paper). (q.file == id) && (q.is_open && (q.number == n))) ps
        ≡ list_any (λ (q : Paper). q.is_open && (q.number == n)) (filter (λ (q : Paper). q.file == id) ps) →
        ((b && (p.is_open && (p.number == n))) || list_any (λ (q : Paper). (q.file == id) && (q.is_open && (q.number == n))) ps)
        ≡ list_any (λ (q : Paper). q.is_open && (q.number == n))
        (cond b (p ∷ filter (λ (q : Paper). q.file == id) ps) (filter (λ (q : Paper). q.file == id) ps))
    by true ih = ap (λ b. (p.is_open && (p.number == n)) || b) ih
    by false ih = ih

open_as : (t : Tables) (id : ℕ) (o : Option ℕ) → is_open_in t id o ≡ is_open_among o (papers_in t id)
open_as t id None = refl
open_as t id (Some n) = open_here id n t.papers

few_opened : (ps : List Paper) → length (opened ps) ≤ length ps
few_opened [] = omega arith
few_opened (p ∷ ps) = by p.is_open (few_opened ps)
  where
    by : (b : Bool) → length (opened ps) ≤ length ps → length (cond b (p ∷ opened ps) (opened ps)) ≤ length (p ∷ ps)
    by true ih = omega (arith, ih)
    by false ih = omega (arith, ih)

-- ---- the tables with the new row

-- the tables after the command of the author on the file of the number, which has the state
abbrev pub with_row : Tables → (id author day : ℕ) → Command → State → Tables
with_row t id author day command s = record t {
  desk = record t.desk { last = day };
  files = map (with_state id (row_after day command s)) t.files;
  papers = papers_with id (row_after day command s).papers day author (row_paper_days s command) command (paper_sort command) (named_paper command) t.papers;
}

-- the command was admitted on the file of the row in sound tables, where the author is there, with the people as the tables have them
pub record IsServed (t : Tables) (id author day : ℕ) (command : Command) (s : State) (people : People) : Type 0 where
  pub sound : IsSoundTables t
  pub in_time : t.desk.last ≤ day
  pub early : day ≤ latest_day
  pub by : has_party t author ≡ true
  pub named : option_map (λ (n : NamedParty). n.role) people.named ≡ role_named t (named_party command)
  pub noted : people.is_open_notice ≡ is_open_in t id (named_paper command)
  pub within : is_command_within command ≡ true
  pub passed : AllPass (row_tests day s people command)
  pub state : IsSoundState (row_after day command s)

turned : (a b : ℕ) → (a == b) ≡ false → (b == a) ≡ false
turned a b e = ne_eqb b a (λ f. let bad : true ≡ false = sym (eq-eqb a b (sym f)) ∙ e in cc)

module _ (t : Tables) (row : FileRow) (author day : ℕ) (command : Command) (people : People)
    (found : find (λ (f : FileRow). f.id == row.id) t.files ≡ Some row) (w : IsServed t row.id author day command row.state people) where
  abbrev u : Tables
  u = with_row t row.id author day command row.state

  abbrev after : State
  after = row_after day command row.state

  abbrev papers_now : List Paper → List Paper
  papers_now = papers_with row.id after.papers day author (row_paper_days row.state command) command (paper_sort command) (named_paper command)

  later : IsLater t u
  later = record {
    last = w.in_time;
    party = λ id e. e;
    role = λ role id e. e;
    parcel = λ id e. e;
    file = λ id e. there_same (λ (f : FileRow). f.id) (with_state row.id after) (renewed_id row.id after) id t.files ∙ e;
    upgrade = refl;
  }

  numbered : is_numbered_from (λ (f : FileRow). f.id) 1 t.files ≡ true
  numbered = (and_parts _ (is_numbered_from (λ (f : FileRow). f.id) 1 t.files) w.sound.numbering).1

  work : has_sound_work t row ≡ true
  work = found_passes (has_sound_work t) (λ (f : FileRow). f.id == row.id) t.files row w.sound.work found

  stage : has_sound_stage row.state ≡ true
  stage = found_passes (λ (f : FileRow). has_sound_stage f.state) (λ (f : FileRow). f.id == row.id) t.files row w.sound.stages found

  stored : is_stored row.state.stage ≡ true
  stored =
      let stands = (and_parts _ (if_any (is_between (row.state.filed + term) latest_deadline) row.state.deadline) stage).0 in
      (and_parts (is_stored row.state.stage) (deadline_stands row.state) stands).0

  filed : row.state.filed ≤ day
  filed =
      let all = found_passes (λ (f : FileRow). is_sound_filing t f && has_sound_people t f.state && has_own_edition t f) (λ (f : FileRow). f.id == row.id)
      t.files row w.sound.filings found in
      let filing = (and_parts (is_sound_filing t row) (has_sound_people t row.state) (and_parts _ (has_own_edition t row) all).0).0 in
      let between = (and_parts _ (is_between 1 t.desk.last row.state.filed) filing).1 in
      omega (arith, w.in_time, leb-true row.state.filed t.desk.last (and_parts (nat_le 1 row.state.filed) (nat_le row.state.filed t.desk.last) between).1)

  desk_sound : is_sound_desk u ≡ true
  desk_sound =
      let upgrade = and_parts _ (is_sound_upgrade t) w.sound.desk in
      let few = and_parts _ (has_few_records t.desk) upgrade.0 in
      let counted = and_parts (is_between 1 latest_day t.desk.last) (is_counted t) few.0 in
      let first = leb-true 1 t.desk.last (and_parts (nat_le 1 t.desk.last) (nat_le t.desk.last latest_day) counted.0).0 in
      and_from _ _ (and_from _ _ (and_from _ _ (between 1 latest_day day (omega (arith, w.in_time, first)) w.early)
      (ap (λ n. (t.desk.parties == length t.parties) && (t.desk.parcels == length t.parcels) && (t.desk.files == n))
      (length-map t.files (with_state row.id after)) ∙ counted.1)) few.1) upgrade.1

  numbering_sound : are_numbered u ≡ true
  numbering_sound =
      let parts = and_parts _ (is_numbered_from (λ (f : FileRow). f.id) 1 t.files) w.sound.numbering in
      and_from _ _ parts.0 (numbered_same (λ (f : FileRow). f.id) (with_state row.id after) (renewed_id row.id after) 1 t.files ∙ parts.1)

  filings_sound : are_sound_filings u ≡ true
  filings_sound = all_renewed (λ f. is_sound_filing t f && has_sound_people t f.state && has_own_edition t f)
      (λ f. is_sound_filing u f && has_sound_people u f.state && has_own_edition u f) row.id after (λ f other e. file_later t u later f e) row
      (λ e.
      let own = and_parts _ (has_own_edition t row) e in
      let parts = and_parts (is_sound_filing t row) (has_sound_people t row.state) own.0 in
      and_from _ _ (and_from _ _ (filing_later t u later row parts.0) (people_more t day command row.state people w.passed w.named parts.1))
      (edition_later t u later row own.1))
      1 t.files numbered found w.sound.filings

  stage_more : has_sound_stage row.state ≡ true → has_sound_stage after ≡ true
  stage_more e =
      let free = and_parts _ (not (is_certified after.stage) || not after.stopped) w.state in
      let state = and_parts _ (not (is_completed after.stage) || is_finished after) free.0 in
      let request = and_parts _ (is_for after.request (next_in_row after)) (and_parts _ (request_dated after) state.0).0 in
      let stands = and_parts _ (deadline_stands after) request.0 in
      let stored = and_parts (is_stored after.stage) _ stands.0 in
      let deadline : DeadlineIn row.state.filed row.state.deadline =
      (and_parts _ (if_any (is_between (row.state.filed + term) latest_deadline) row.state.deadline) e).1 in
      and_from _ _ (and_from _ _ stored.0 stands.1) (deadline_more day command row.state people w.passed filed w.early deadline)

  stages_sound : are_sound_stages u ≡ true
  stages_sound = all_renewed (λ f. has_sound_stage f.state) (λ f. has_sound_stage f.state) row.id after (λ f other e. e) row stage_more
      1 t.files numbered found w.sound.stages

  abbrev papers_before : List Paper
  papers_before = papers_in t row.id

  ordered : are_in_order row.state.papers row.state.filed papers_before ≡ true
  ordered = found_passes (λ (f : FileRow). are_sound_papers_of (papers_in t f.id) f.state) (λ (f : FileRow). f.id == row.id) t.files row
      (and_parts _ (list_all (λ (f : FileRow). are_sound_papers_of (papers_in t f.id) f.state) t.files) w.sound.papers).1 found

  here : papers_in u row.id ≡ papers_now papers_before
  here = made_here row.id after.papers day author (row_paper_days row.state command) command (paper_sort command) (named_paper command) t.papers

  elsewhere : (f : FileRow) → (f.id == row.id) ≡ false → papers_in u f.id ≡ papers_in t f.id
  elsewhere f other = made_elsewhere row.id after.papers day author (row_paper_days row.state command) command f.id (paper_sort command)
      (named_paper command) t.papers (turned f.id row.id other)

  counted : (after.notices == length (opened (papers_now papers_before))) ≡ true
  counted =
      let notices = (and_parts _ (has_sound_notices papers_before row.state) work).1 in
      let same = eqb-true row.state.notices (length (opened papers_before)) (and_parts (row.state.notices == length (opened papers_before)) _ notices).0 in
      let numbered_here = (and_parts _ (is_numbered_from (λ (p : Paper). p.number) 1 papers_before)
      (and_parts _ (never_fall row.state.filed (map (λ (p : Paper). p.day) papers_before)) ordered).0).1 in
      eq-eqb after.notices (length (opened (papers_now papers_before)))
      (opened_more row.id after.papers day author (row_paper_days row.state command) command row.state people papers_before w.passed numbered_here
      (all_filtered (λ p. p.file == row.id) t.papers) (w.noted ∙ open_as t row.id (named_paper command)) same)

  work_sound : is_sound_work u ≡ true
  work_sound = all_renewed (has_sound_work t) (has_sound_work u) row.id after
      (λ f other e. ap (λ ps. is_sound_work_on day ps f.state) (elsewhere f other) ∙ work_later t.desk.last day (papers_in t f.id) f.state w.in_time e) row
      (λ e. ap (λ ps. is_sound_work_on day ps after) here
      ∙ work_more t.desk.last day papers_before (papers_now papers_before) command row.state people stored w.passed w.state w.within filed w.in_time counted e)
      1 t.files numbered found w.sound.work

  asked : if_any (is_between 1 longest_permit_extension) row.state.ask ≡ true
  asked =
      let certificate = and_parts _ (has_sound_certificate t.desk.last row.state) (and_parts _ (has_sound_notices papers_before row.state) work).0 in
      ask_late row.state (and_parts _ (if_any (is_between 1 (longest_ask row.state.stage)) row.state.ask) certificate.0).1

  made_sound : (o : Option PaperSort) →
      if_paper says (option_map (paper_entered row.id after.papers day author (row_paper_days row.state command) command) o) ≡ true →
      if_paper (is_sound_paper u) (option_map (paper_entered row.id after.papers day author (row_paper_days row.state command) command) o) ≡ true
  made_sound None e = refl
  made_sound (Some sort) e =
      let p = paper_entered row.id after.papers day author (row_paper_days row.state command) command sort in
      let closed = and_parts _ (not p.is_open || is_notice p.sort) e in
      let terms = and_parts _ (has_sound_terms p) closed.0 in
      let parts = and_parts (has_sound_days p) (has_sound_text p) terms.0 in
      let there = later.file row.id (ap is_some found) in
      and_from _ _ (and_from _ _ (and_from _ _ (and_from _ _ (and_from _ _ (and_from _ _ there w.by) (le-leb day day (omega arith)))
      parts.0) parts.1) terms.1) closed.1

  closes : (p : Paper) → is_sound_paper u p ≡ true → is_sound_paper u (record p { is_open = false }) ≡ true
  closes p e = and_from _ _ (and_parts _ (not p.is_open || is_notice p.sort) e).0 refl

  dated : (p : Paper) → is_sound_paper t p ≡ true → nat_le p.day t.desk.last ≡ true
  dated p e =
      let terms = and_parts _ (has_sound_terms p) (and_parts _ (not p.is_open || is_notice p.sort) e).0 in
      let days = and_parts _ (has_sound_days p) (and_parts _ (has_sound_text p) terms.0).0 in
      (and_parts _ (nat_le p.day t.desk.last) days.0).1

  papers_sound : are_sound_papers u ≡ true
  papers_sound =
      let parts = and_parts (list_all (is_sound_paper t) t.papers) (list_all (λ (f : FileRow). are_sound_papers_of (papers_in t f.id) f.state) t.files)
      w.sound.papers in
      let by = all_of_filter (λ p. nat_le p.day t.desk.last) (λ p. p.file == row.id) t.papers
      (all_more (is_sound_paper t) (λ p. nat_le p.day t.desk.last) t.papers dated parts.0) in
      and_from _ _ (all_with (is_sound_paper u) row.id after.papers day author (row_paper_days row.state command) command (paper_sort command)
      (named_paper command) t.papers closes
      (made_sound (paper_sort command) (written row.id after.papers day author command row.state people w.passed w.within asked))
      (all_more (is_sound_paper t) (is_sound_paper u) t.papers (paper_later t u later) parts.0))
      (all_renewed (λ f. are_sound_papers_of (papers_in t f.id) f.state) (λ f. are_sound_papers_of (papers_in u f.id) f.state) row.id after
      (λ f other e. ap (λ ps. are_sound_papers_of ps f.state) (elsewhere f other) ∙ e) row
      (λ e. ap (λ ps. are_sound_papers_of ps after) here
      ∙ order_more row.id day author (row_paper_days row.state command) command (paper_sort command) (named_paper command) row.state.papers row.state.filed
      t.desk.last papers_before (λ makes. leb-false most_papers row.state.papers (room day command row.state people w.passed makes)) filed w.in_time by e)
      1 t.files numbered found parts.1)

  new_row_sound : IsSoundTables u
  new_row_sound = record {
    desk = desk_sound;
    numbering = numbering_sound;
    parties = w.sound.parties;
    parcels = w.sound.parcels;
    filings = filings_sound;
    stages = stages_sound;
    work = work_sound;
    papers = papers_sound;
  }

-- ---- the file of the number, with its state

-- what holds of the row that is found holds of the number and the state
by_state : (t : Tables) (id : ℕ) (s : State) (P : ℕ → State → Type 0) →
    ((row : FileRow) → find (λ (f : FileRow). f.id == row.id) t.files ≡ Some row → P row.id row.state) →
    option_map (λ (f : FileRow). f.state) (find (λ (f : FileRow). f.id == id) t.files) ≡ Some s → P id s
by_state t id s P each e = by (find (λ (f : FileRow). f.id == id) t.files) refl e
  where
    by : (o : Option FileRow) → find (λ (f : FileRow). f.id == id) t.files ≡ o → option_map (λ (f : FileRow). f.state) o ≡ Some s → P id s
    by None found e = cc
    by (Some row) found e =
        let named : row.id ≡ id = found_number (λ (f : FileRow). f.id) id t.files row found in
        let same : row.state ≡ s = ap (λ o. unwrap_or o row.state) e in
        subst (λ n. P n s) named (subst (P row.id) same (each row (subst (λ n. find (λ (f : FileRow). f.id == n) t.files ≡ Some row) (sym named) found)))

pub row_sound : (t : Tables) (id author day : ℕ) (command : Command) (s : State) (people : People) → HasState t id s →
    IsServed t id author day command s people → IsSoundTables (with_row t id author day command s)
row_sound t id author day command s people there =
    by_state t id s (λ n x. IsServed t n author day command x people → IsSoundTables (with_row t n author day command x))
    (λ row found w. new_row_sound t row author day command people found w) there

-- no more notices are open than there are papers
pub few_notices : (t : Tables) (id : ℕ) (s : State) → IsSoundTables t → HasState t id s → s.notices ≤ s.papers
few_notices t id s sound = by_state t id s (λ n x. x.notices ≤ x.papers) (λ row found.
    let work = found_passes (has_sound_work t) (λ (f : FileRow). f.id == row.id) t.files row sound.work found in
    let notices = (and_parts _ (has_sound_notices (papers_in t row.id) row.state) work).1 in
    let counted = (and_parts (row.state.notices == length (opened (papers_in t row.id))) _ notices).0 in
    let ordered = found_passes (λ (f : FileRow). are_sound_papers_of (papers_in t f.id) f.state) (λ (f : FileRow). f.id == row.id) t.files row
    (and_parts _ (list_all (λ (f : FileRow). are_sound_papers_of (papers_in t f.id) f.state) t.files) sound.papers).1 found in
    let numbered = (and_parts _ (never_fall row.state.filed (map (λ (p : Paper). p.day) (papers_in t row.id))) ordered).0 in
    let few = (and_parts _ (is_numbered_from (λ (p : Paper). p.number) 1 (papers_in t row.id)) numbered).0 in
    let length_is = (and_parts (row.state.papers == length (papers_in t row.id)) _ few).0 in
    omega (
      arith,
      eqb-true row.state.notices (length (opened (papers_in t row.id))) counted,
      few_opened (papers_in t row.id),
      eqb-true row.state.papers (length (papers_in t row.id)) length_is,
    ))

-- ---- the change

-- the tables with the row and the effect that the office made are those
pub row_made : (t : Tables) (id author day : ℕ) (command : Command) (s x : State) (effect : RowEffect) → x ≡ row_after day command s →
    papers_after id x.papers day effect t.papers
    ≡ papers_with id x.papers day author (row_paper_days s command) command (paper_sort command) (named_paper command) t.papers →
    IsSoundTables (with_row t id author day command s) →
    IsSoundTables (record t {
      desk = record t.desk { last = day };
      files = map (with_state id x) t.files;
      papers = papers_after id x.papers day effect t.papers;
    })
row_made t id author day command s x effect same papers sound =
    subst (λ ps. IsSoundTables (record t { desk = record t.desk { last = day }; files = map (with_state id x) t.files; papers = ps })) (sym papers)
    (subst (λ (y : State). IsSoundTables (record t {
      desk = record t.desk { last = day };
      files = map (with_state id y) t.files;
      papers = papers_with id y.papers day author (row_paper_days s command) command (paper_sort command) (named_paper command) t.papers;
    })) (sym same) sound)

-- the new row suits the file
pub row_fits : (t : Tables) (id : ℕ) (s x : State) (effect : RowEffect) → HasState t id s → x.parcel ≡ s.parcel → x.applicant ≡ s.applicant →
    x.edition ≡ s.edition → IsTrue (suits_effect t s x effect) → IsTrue (suits_row t (find (λ (f : FileRow). f.id == id) t.files) x effect)
row_fits t id s x effect there parcel applicant edition suits = by (find (λ (f : FileRow). f.id == id) t.files) there
  where
    by : (o : Option FileRow) → option_map (λ (f : FileRow). f.state) o ≡ Some s → IsTrue (suits_row t o x effect)
    by None e = cc
    by (Some row) e =
        let same : s ≡ row.state = sym (ap (λ o. unwrap_or o row.state) e) in
        subst (λ (y : State). IsTrue ((x.parcel == y.parcel) && (x.applicant == y.applicant) && is_edition x.edition y.edition
        && suits_effect t y x effect)) same
        (and_from _ _ (and_from _ _ (and_from _ _ (eq-eqb x.parcel s.parcel parcel) (eq-eqb x.applicant s.applicant applicant))
        (ap (λ e. is_edition e s.edition) edition ∙ edition_itself s.edition)) suits)

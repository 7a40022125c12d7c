-- A new party, parcel, owner, interest or file leaves sound tables sound.
use Rattle.std.proofs.Common.{◌≡◌, ◌≤◌, ◌<◌, ℕ, ◌+◌, Bool, true, false, cond, ◌==◌, List, [], ◌∷◌, ◌++◌, map, length, refl, sym, ◌∙◌, ap, arith}
use Rattle.std.proofs.Common.{length-append}
use Rattle.std.specs.Prelude.{Option, None, Some, Result, Ok, Err, OnOk, option_map, is_some, find, filter, ◌&&◌, nat_le, if◌then◌else◌}
use Rattle.std.specs.List.{list_all}
use Rattle.std.proofs.lemmas.Bool.{eq-eqb, eqb-true, ne_eqb, le-leb, lt-leb, leb-true, and_from, and_parts}
use Rattle.std.proofs.lemmas.List.{length-map}
use Rattle.std.proofs.lemmas.List.Folds.{list_all-map}
use Rattle.permit_base.specs.Limits.{is_between, is_cents, latest_day, latest_deadline, most_records}
use Rattle.permit_base.specs.Texts.{is_printable, is_lot, is_digest}
use Rattle.permit_base.specs.declared.words.Edition.{Edition}
use Rattle.permit_base.specs.declared.words.Edition.TheVariants.{First, Second}
use Rattle.permit_base.specs.declared.words.Kind.{Kind}
use Rattle.permit_base.specs.declared.words.Role.{Role}
use Rattle.permit_base.specs.declared.words.Role.TheVariants.{Official}
use Rattle.permit_core.specs.Views.{filed_by}
use Rattle.permit_model.specs.Codes.{is_edition}
use Rattle.permit_model.specs.Caller.{Party}
use Rattle.permit_model.specs.Parcels.{Parcel, Interest}
use Rattle.permit_model.specs.Days.{term}
use Rattle.permit_model.specs.Numbering.{is_numbered_from}
use Rattle.permit_model.specs.Tables.{Desk, State, FileRow, Paper, Tables, state_of, edition_by, edition_numbered}
use Rattle.permit_model.specs.Sound.{IsSoundTables, has_party, has_parcel, has_party_of, has_file, papers_in, if_any, is_sound_desk, is_sound_upgrade}
use Rattle.permit_model.specs.Sound.{are_numbered, is_sound_party, are_sound_parties, is_sound_parcel, is_sound_interest, are_sound_parcels}
use Rattle.permit_model.specs.Sound.{is_sound_filing, has_sound_people, has_own_edition, has_sound_stage, has_sound_work, is_sound_paper}
use Rattle.permit_model.specs.Sound.{has_few_records, are_sound_papers_of}
use Rattle.permit_model.proofs.SoundLists.{between, any_more, all_more, there_last}
use Rattle.permit_store.specs.Changes.{given_to}
use Rattle.permit_office.proofs.RowWork.{work_later}
use Rattle.permit_office.proofs.Growing.{numbered_more, all_and, numbered_same, there_same}
use Rattle.permit_office.proofs.SoundLater.{role_front, IsLater, parcel_later, interest_later, file_later, paper_later}

-- ---- what a call reported

-- what is said of a success holds where there was one
pub on_ok : {A E : Type 0} (P : Type 0) (r : Result A E) (x : A) → r ≡ Ok x → OnOk r P → P
on_ok P (Ok y) x is p = p
on_ok P (Err e) x is p = cc

-- a parcel with an owner is there
pub owned_there : (o : Option Parcel) (owner : ℕ) → Some owner ≡ option_map (λ (p : Parcel). p.owner) o → is_some o ≡ true
owned_there None owner e = cc
owned_there (Some p) owner e = refl

-- ---- the desk

-- the facts of a sound desk, one by one
pub record DeskFacts (t : Tables) : Type 0 where
  pub first : 1 ≤ t.desk.last
  pub parties : t.desk.parties ≡ length t.parties
  pub parcels : t.desk.parcels ≡ length t.parcels
  pub files : t.desk.files ≡ length t.files
  pub one : 1 ≤ t.desk.parties
  pub few_parties : t.desk.parties ≤ most_records
  pub few_parcels : t.desk.parcels ≤ most_records
  pub few_files : t.desk.files ≤ most_records
  pub edition : is_edition t.desk.edition (edition_by t.upgrade) ≡ true
  pub before : if_any (λ count. nat_le count t.desk.files) t.upgrade ≡ true

pub desk_facts : (t : Tables) → is_sound_desk t ≡ true → DeskFacts t
desk_facts t sound =
    let upgrade = and_parts _ (is_sound_upgrade t) sound in
    let few_files = and_parts _ (has_few_records t.desk) upgrade.0 in
    let few = and_parts _ (nat_le t.desk.files most_records) few_files.1 in
    let few_parcels = and_parts (is_between 1 most_records t.desk.parties) (nat_le t.desk.parcels most_records) few.0 in
    let few_parties = and_parts (nat_le 1 t.desk.parties) (nat_le t.desk.parties most_records) few_parcels.0 in
    let counted = and_parts (is_between 1 latest_day t.desk.last)
    ((t.desk.parties == length t.parties) && (t.desk.parcels == length t.parcels) && (t.desk.files == length t.files)) few_files.0 in
    let files = and_parts _ (t.desk.files == length t.files) counted.1 in
    let parcels = and_parts (t.desk.parties == length t.parties) (t.desk.parcels == length t.parcels) files.0 in
    let editions = and_parts (is_edition t.desk.edition (edition_by t.upgrade)) (if_any (λ count. nat_le count t.desk.files) t.upgrade) upgrade.1 in
    record {
      first = leb-true 1 t.desk.last (and_parts (nat_le 1 t.desk.last) (nat_le t.desk.last latest_day) counted.0).0;
      parties = eqb-true t.desk.parties (length t.parties) parcels.0;
      parcels = eqb-true t.desk.parcels (length t.parcels) parcels.1;
      files = eqb-true t.desk.files (length t.files) files.1;
      one = leb-true 1 t.desk.parties few_parties.0;
      few_parties = leb-true t.desk.parties most_records few_parties.1;
      few_parcels = leb-true t.desk.parcels most_records few_parcels.1;
      few_files = leb-true t.desk.files most_records few.1;
      edition = editions.0;
      before = editions.1;
    }

desk_whole : (t : Tables) → t.desk.last ≤ latest_day → DeskFacts t → is_sound_desk t ≡ true
desk_whole t early d =
    and_from _ _ (and_from _ _ (and_from _ _ (between 1 latest_day t.desk.last d.first early)
    (and_from _ _ (and_from _ _ (eq-eqb t.desk.parties (length t.parties) d.parties) (eq-eqb t.desk.parcels (length t.parcels) d.parcels))
    (eq-eqb t.desk.files (length t.files) d.files)))
    (and_from _ _ (and_from _ _ (between 1 most_records t.desk.parties d.one d.few_parties) (le-leb t.desk.parcels most_records d.few_parcels))
    (le-leb t.desk.files most_records d.few_files)))
    (and_from _ _ d.edition d.before)

-- ---- what another desk, other parties, parcels or interests leave of files and papers

others_sound : (t : Tables) (desk : Desk) (parties : List Party) (parcels : List Parcel) (interests : List Interest) → IsSoundTables t →
    let u : Tables = record t { desk = desk; parties = parties; parcels = parcels; interests = interests } in
    IsLater t u → is_sound_desk u ≡ true → are_numbered u ≡ true → are_sound_parties u ≡ true → are_sound_parcels u ≡ true → IsSoundTables u
others_sound t desk parties parcels interests sound later desk_is numbering parties_are parcels_are =
    let u : Tables = record t { desk = desk; parties = parties; parcels = parcels; interests = interests } in
    let papers = and_parts (list_all (is_sound_paper t) t.papers) (list_all (λ (f : FileRow). are_sound_papers_of (papers_in t f.id) f.state) t.files)
    sound.papers in
    record {
      desk = desk_is;
      numbering = numbering;
      parties = parties_are;
      parcels = parcels_are;
      filings = all_more (λ f. is_sound_filing t f && has_sound_people t f.state && has_own_edition t f)
          (λ f. is_sound_filing u f && has_sound_people u f.state && has_own_edition u f) t.files (file_later t u later) sound.filings;
      stages = sound.stages;
      work = all_more (has_sound_work t) (has_sound_work u) t.files
          (λ f. work_later t.desk.last desk.last (papers_in t f.id) f.state later.last) sound.work;
      papers = and_from _ _ (all_more (is_sound_paper t) (is_sound_paper u) t.papers (paper_later t u later) papers.0) papers.1;
    }

-- ---- a party more

pub party_sound : (t : Tables) (day : ℕ) (name : List ℕ) (role : Role) (digest : List ℕ) → IsSoundTables t → t.desk.last ≤ day → day ≤ latest_day →
    t.desk.parties < most_records → is_printable name ≡ true → is_digest digest ≡ true →
    IsSoundTables (record t {
      desk = record t.desk { last = day; parties = t.desk.parties + 1 };
      parties = t.parties ++ (record { id = t.desk.parties + 1; name = name; role = role; digest = digest }) ∷ [];
    })
party_sound t day name role digest sound time early room named hex =
    let d : DeskFacts t = desk_facts t sound.desk in
    let new : Party = record { id = t.desk.parties + 1; name = name; role = role; digest = digest } in
    let u : Tables = record t { desk = record t.desk { last = day; parties = t.desk.parties + 1 }; parties = t.parties ++ new ∷ [] } in
    let long : length (t.parties ++ new ∷ []) ≡ length t.parties + 1 = length-append t.parties (new ∷ []) in
    let files = and_parts _ (is_numbered_from (λ (f : FileRow). f.id) 1 t.files) sound.numbering in
    let numbers = and_parts (is_numbered_from (λ (p : Party). p.id) 1 t.parties) (is_numbered_from (λ (p : Parcel). p.id) 1 t.parcels) files.0 in
    let parties = and_parts (list_all is_sound_party t.parties) (has_party_of t Official 1) sound.parties in
    let parcels = and_parts (list_all (is_sound_parcel t) t.parcels) (list_all (is_sound_interest t) t.interests) sound.parcels in
    let later : IsLater t u = record {
      last = time;
      party = λ id e. there_last (λ (p : Party). p.id == id) t.parties (Some new) e;
      role = λ which id e. role_front which id t.parties (new ∷ []) e;
      parcel = λ id e. e;
      file = λ id e. e;
      upgrade = refl;
    } in
    others_sound t (record t.desk { last = day; parties = t.desk.parties + 1 }) (t.parties ++ new ∷ []) t.parcels t.interests sound later
    (desk_whole u early (record {
      first = omega (arith, d.first, time);
      parties = omega (arith, d.parties, long);
      parcels = d.parcels;
      files = d.files;
      one = omega arith;
      few_parties = omega (arith, room);
      few_parcels = d.few_parcels;
      few_files = d.few_files;
      edition = d.edition;
      before = d.before;
    }))
    (and_from _ _ (and_from _ _ (numbered_more (λ (p : Party). p.id) 1 t.parties new (omega (arith, d.parties)) numbers.0) numbers.1) files.1)
    (and_from _ _ (all_and is_sound_party t.parties new parties.0 (and_from _ _ named hex)) (later.role Official 1 parties.1))
    (and_from _ _ (all_more (is_sound_parcel t) (is_sound_parcel u) t.parcels (parcel_later t u later) parcels.0)
    (all_more (is_sound_interest t) (is_sound_interest u) t.interests (interest_later t u later) parcels.1))

-- ---- a parcel more

pub parcel_sound : (t : Tables) (day : ℕ) (lot address : List ℕ) (owner : ℕ) → IsSoundTables t → t.desk.last ≤ day → day ≤ latest_day →
    t.desk.parcels < most_records → is_lot lot ≡ true → is_printable address ≡ true → has_party t owner ≡ true →
    IsSoundTables (record t {
      desk = record t.desk { last = day; parcels = t.desk.parcels + 1 };
      parcels = t.parcels ++ (record { id = t.desk.parcels + 1; lot = lot; address = address; owner = owner }) ∷ [];
    })
parcel_sound t day lot address owner sound time early room placed printed owned =
    let d : DeskFacts t = desk_facts t sound.desk in
    let new : Parcel = record { id = t.desk.parcels + 1; lot = lot; address = address; owner = owner } in
    let u : Tables = record t { desk = record t.desk { last = day; parcels = t.desk.parcels + 1 }; parcels = t.parcels ++ new ∷ [] } in
    let long : length (t.parcels ++ new ∷ []) ≡ length t.parcels + 1 = length-append t.parcels (new ∷ []) in
    let files = and_parts _ (is_numbered_from (λ (f : FileRow). f.id) 1 t.files) sound.numbering in
    let numbers = and_parts (is_numbered_from (λ (p : Party). p.id) 1 t.parties) (is_numbered_from (λ (p : Parcel). p.id) 1 t.parcels) files.0 in
    let parcels = and_parts (list_all (is_sound_parcel t) t.parcels) (list_all (is_sound_interest t) t.interests) sound.parcels in
    let later : IsLater t u = record {
      last = time;
      party = λ id e. e;
      role = λ which id e. e;
      parcel = λ id e. there_last (λ (p : Parcel). p.id == id) t.parcels (Some new) e;
      file = λ id e. e;
      upgrade = refl;
    } in
    others_sound t (record t.desk { last = day; parcels = t.desk.parcels + 1 }) t.parties (t.parcels ++ new ∷ []) t.interests sound later
    (desk_whole u early (record {
      first = omega (arith, d.first, time);
      parties = d.parties;
      parcels = omega (arith, d.parcels, long);
      files = d.files;
      one = d.one;
      few_parties = d.few_parties;
      few_parcels = omega (arith, room);
      few_files = d.few_files;
      edition = d.edition;
      before = d.before;
    }))
    (and_from _ _ (and_from _ _ numbers.0 (numbered_more (λ (p : Parcel). p.id) 1 t.parcels new (omega (arith, d.parcels)) numbers.1)) files.1)
    sound.parties
    (and_from _ _ (all_and (is_sound_parcel u) t.parcels new (all_more (is_sound_parcel t) (is_sound_parcel u) t.parcels (parcel_later t u later) parcels.0)
    (and_from _ _ (and_from _ _ placed printed) owned))
    (all_more (is_sound_interest t) (is_sound_interest u) t.interests (interest_later t u later) parcels.1))

-- ---- another owner of a parcel

given_id : (id owner : ℕ) (p : Parcel) → (given_to id owner p).id ≡ p.id
given_id id owner p = by (p.id == id)
  where
    by : (b : Bool) → (if b then record p { owner = owner } else p).id ≡ p.id
    by true = refl
    by false = refl

given_sound : (t : Tables) (id owner : ℕ) → has_party t owner ≡ true → (p : Parcel) → is_sound_parcel t p ≡ true →
    is_sound_parcel t (given_to id owner p) ≡ true
given_sound t id owner there p e = by (p.id == id)
  where
    by : (b : Bool) → is_sound_parcel t (if b then record p { owner = owner } else p) ≡ true
    by true = and_from _ _ (and_parts (is_lot p.lot && is_printable p.address) (has_party t p.owner) e).0 there
    by false = e

pub owner_sound : (t : Tables) (day parcel owner : ℕ) → IsSoundTables t → t.desk.last ≤ day → day ≤ latest_day → has_party t owner ≡ true →
    IsSoundTables (record t { desk = record t.desk { last = day }; parcels = map (given_to parcel owner) t.parcels })
owner_sound t day parcel owner sound time early there =
    let d : DeskFacts t = desk_facts t sound.desk in
    let given : List Parcel = map (given_to parcel owner) t.parcels in
    let u : Tables = record t { desk = record t.desk { last = day }; parcels = given } in
    let long : length given ≡ length t.parcels = length-map t.parcels (given_to parcel owner) in
    let files = and_parts _ (is_numbered_from (λ (f : FileRow). f.id) 1 t.files) sound.numbering in
    let numbers = and_parts (is_numbered_from (λ (p : Party). p.id) 1 t.parties) (is_numbered_from (λ (p : Parcel). p.id) 1 t.parcels) files.0 in
    let parcels = and_parts (list_all (is_sound_parcel t) t.parcels) (list_all (is_sound_interest t) t.interests) sound.parcels in
    let later : IsLater t u = record {
      last = time;
      party = λ id e. e;
      role = λ which id e. e;
      parcel = λ id e. there_same (λ (p : Parcel). p.id) (given_to parcel owner) (given_id parcel owner) id t.parcels ∙ e;
      file = λ id e. e;
      upgrade = refl;
    } in
    others_sound t (record t.desk { last = day }) t.parties given t.interests sound later
    (desk_whole u early (record {
      first = omega (arith, d.first, time);
      parties = d.parties;
      parcels = omega (arith, d.parcels, long);
      files = d.files;
      one = d.one;
      few_parties = d.few_parties;
      few_parcels = d.few_parcels;
      few_files = d.few_files;
      edition = d.edition;
      before = d.before;
    }))
    (and_from _ _ (and_from _ _ numbers.0
    (numbered_same (λ (p : Parcel). p.id) (given_to parcel owner) (given_id parcel owner) 1 t.parcels ∙ numbers.1)) files.1)
    sound.parties
    (and_from _ _ (list_all-map (is_sound_parcel u) (given_to parcel owner) t.parcels
    ∙ all_more (is_sound_parcel t) (λ p. is_sound_parcel u (given_to parcel owner p)) t.parcels (given_sound t parcel owner there) parcels.0)
    (all_more (is_sound_interest t) (is_sound_interest u) t.interests (interest_later t u later) parcels.1))

-- ---- an interest more

pub interest_sound : (t : Tables) (day parcel party : ℕ) → IsSoundTables t → t.desk.last ≤ day → day ≤ latest_day → has_parcel t parcel ≡ true →
    has_party t party ≡ true →
    IsSoundTables (record t { desk = record t.desk { last = day }; interests = t.interests ++ (record { parcel = parcel; party = party }) ∷ [] })
interest_sound t day parcel party sound time early placed there =
    let d : DeskFacts t = desk_facts t sound.desk in
    let new : Interest = record { parcel = parcel; party = party } in
    let u : Tables = record t { desk = record t.desk { last = day }; interests = t.interests ++ new ∷ [] } in
    let parcels = and_parts (list_all (is_sound_parcel t) t.parcels) (list_all (is_sound_interest t) t.interests) sound.parcels in
    let later : IsLater t u = record { last = time; party = λ id e. e; role = λ which id e. e; parcel = λ id e. e; file = λ id e. e; upgrade = refl } in
    others_sound t (record t.desk { last = day }) t.parties t.parcels (t.interests ++ new ∷ []) sound later
    (desk_whole u early (record {
      first = omega (arith, d.first, time);
      parties = d.parties;
      parcels = d.parcels;
      files = d.files;
      one = d.one;
      few_parties = d.few_parties;
      few_parcels = d.few_parcels;
      few_files = d.few_files;
      edition = d.edition;
      before = d.before;
    }))
    sound.numbering
    sound.parties
    (and_from _ _ parcels.0 (all_and (is_sound_interest t) t.interests new parcels.1 (and_from _ _ placed there)))

-- ---- a file more

-- no file has the number after the count
absent : (first : ℕ) (files : List FileRow) (id : ℕ) → first + length files ≤ id → is_numbered_from (λ (f : FileRow). f.id) first files ≡ true →
    is_some (find (λ (f : FileRow). f.id == id) files) ≡ false
absent first [] id above numbered = refl
absent first (f ∷ files) id above numbered =
    let parts = and_parts (f.id == first) (is_numbered_from (λ (g : FileRow). g.id) (first + 1) files) numbered in
    let other : (f.id == id) ≡ false = ne_eqb f.id id (omega (arith, above, eqb-true f.id first parts.0)) in
    ap (λ b. is_some (cond b (Some f) (find (λ (g : FileRow). g.id == id) files))) other ∙ absent (first + 1) files id (omega (arith, above)) parts.1

none_filtered : (test which : Paper → Bool) (ps : List Paper) → ((p : Paper) → test p ≡ true → which p ≡ false) → list_all test ps ≡ true →
    filter which ps ≡ []
none_filtered test which [] never all = refl
none_filtered test which (p ∷ ps) never all =
    let parts = and_parts (test p) (list_all test ps) all in
    ap (λ b. cond b (p ∷ filter which ps) (filter which ps)) (never p parts.0) ∙ none_filtered test which ps never parts.1

-- so no paper is of it
no_papers : (t : Tables) (id : ℕ) → has_file t id ≡ false → list_all (is_sound_paper t) t.papers ≡ true → papers_in t id ≡ []
no_papers t id none all =
    none_filtered (λ p. has_file t p.file) (λ p. p.file == id) t.papers
    (λ p there. ne_eqb p.file id (λ e. let bad : true ≡ false = sym there ∙ ap (has_file t) e ∙ none in cc))
    (all_more (is_sound_paper t) (λ p. has_file t p.file) t.papers of_file all)
  where
    of_file : (p : Paper) → is_sound_paper t p ≡ true → has_file t p.file ≡ true
    of_file p e =
        let one = and_parts _ _ e in
        let two = and_parts _ _ one.0 in
        let three = and_parts _ _ two.0 in
        let four = and_parts _ _ three.0 in
        let five = and_parts _ _ four.0 in
        (and_parts (has_file t p.file) (has_party t p.author) five.0).0

-- a new file has the edition in force
edition_new : (e : Edition) (upgrade : Option ℕ) (files : ℕ) → is_edition e (edition_by upgrade) ≡ true →
    if_any (λ count. nat_le count files) upgrade ≡ true → is_edition e (edition_numbered upgrade (files + 1)) ≡ true
edition_new e None files is before = is
edition_new e (Some count) files is before =
    ap (λ b. is_edition e (if b then First else Second)) (lt-leb (files + 1) count (omega (arith, leb-true count files before))) ∙ is

pub file_sound : (t : Tables) (day applicant parcel : ℕ) (kind : Kind) (edition : Edition) (valuation : ℕ) (description : List ℕ) → IsSoundTables t →
    t.desk.last ≤ day → day ≤ latest_day → t.desk.files < most_records → edition ≡ t.desk.edition → has_parcel t parcel ≡ true →
    has_party t applicant ≡ true → is_cents valuation ≡ true → is_printable description ≡ true →
    IsSoundTables (record t {
      desk = record t.desk { last = day; files = t.desk.files + 1 };
      files = t.files ++ (record {
        id = t.desk.files + 1;
        state = state_of (filed_by applicant parcel kind edition day (t.desk.files + 1) valuation description);
        valuation = valuation;
        description = description;
      }) ∷ [];
    })
file_sound t day applicant parcel kind edition valuation description sound time early room same placed there cents printed =
    let d : DeskFacts t = desk_facts t sound.desk in
    let state : State = state_of (filed_by applicant parcel kind edition day (t.desk.files + 1) valuation description) in
    let new : FileRow = record { id = t.desk.files + 1; state = state; valuation = valuation; description = description } in
    let u : Tables = record t { desk = record t.desk { last = day; files = t.desk.files + 1 }; files = t.files ++ new ∷ [] } in
    let long : length (t.files ++ new ∷ []) ≡ length t.files + 1 = length-append t.files (new ∷ []) in
    let files = and_parts _ (is_numbered_from (λ (f : FileRow). f.id) 1 t.files) sound.numbering in
    let parcels = and_parts (list_all (is_sound_parcel t) t.parcels) (list_all (is_sound_interest t) t.interests) sound.parcels in
    let papers = and_parts (list_all (is_sound_paper t) t.papers) (list_all (λ (f : FileRow). are_sound_papers_of (papers_in t f.id) f.state) t.files)
    sound.papers in
    let none : papers_in t (t.desk.files + 1) ≡ [] =
    no_papers t (t.desk.files + 1) (absent 1 t.files (t.desk.files + 1) (omega (arith, d.files)) files.1) papers.0 in
    let now : is_edition edition (edition_by t.upgrade) ≡ true = ap (λ e. is_edition e (edition_by t.upgrade)) same ∙ d.edition in
    let later : IsLater t u = record {
      last = time;
      party = λ id e. e;
      role = λ which id e. e;
      parcel = λ id e. e;
      file = λ id e. there_last (λ (f : FileRow). f.id == id) t.files (Some new) e;
      upgrade = refl;
    } in
    record {
      desk = desk_whole u early (record {
        first = omega (arith, d.first, time);
        parties = d.parties;
        parcels = d.parcels;
        files = omega (arith, d.files, long);
        one = d.one;
        few_parties = d.few_parties;
        few_parcels = d.few_parcels;
        few_files = omega (arith, room);
        edition = d.edition;
        before = any_more (λ count. nat_le count t.desk.files) (λ count. nat_le count (t.desk.files + 1)) t.upgrade
            (λ n e. le-leb n (t.desk.files + 1) (omega (arith, leb-true n t.desk.files e))) d.before;
      });
      numbering = and_from _ _ files.0 (numbered_more (λ (f : FileRow). f.id) 1 t.files new (omega (arith, d.files)) files.1);
      parties = sound.parties;
      parcels = sound.parcels;
      filings = all_and (λ f. is_sound_filing u f && has_sound_people u f.state && has_own_edition u f) t.files new
          (all_more (λ f. is_sound_filing t f && has_sound_people t f.state && has_own_edition t f)
          (λ f. is_sound_filing u f && has_sound_people u f.state && has_own_edition u f) t.files (file_later t u later) sound.filings)
          (and_from _ _ (and_from _ _ (and_from _ _ (and_from _ _ (and_from _ _ (and_from _ _ placed there) cents) printed)
          (between 1 day day (omega (arith, d.first, time)) (omega arith))) refl)
          (edition_new edition t.upgrade t.desk.files now d.before));
      stages = all_and (λ f. has_sound_stage f.state) t.files new sound.stages
          (between (day + term) latest_deadline (day + term) (omega arith) (omega (arith, early)));
      work = all_and (has_sound_work u) t.files new
          (all_more (has_sound_work t) (has_sound_work u) t.files (λ f. work_later t.desk.last day (papers_in t f.id) f.state time) sound.work)
          (ap (λ ps. (0 == length (filter (λ (p : Paper). p.is_open) ps)) && true) none);
      papers = and_from _ _ (all_more (is_sound_paper t) (is_sound_paper u) t.papers (paper_later t u later) papers.0)
          (all_and (λ f. are_sound_papers_of (papers_in u f.id) f.state) t.files new papers.1
          (ap (λ ps. are_sound_papers_of ps state) none));
    }

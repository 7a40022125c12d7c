-- What was read of sound tables is kept as the tables are.
use Rattle.std.proofs.Common.{◌≡◌, ◌≤◌, ℕ, ◌+◌, ◌-◌, ◌==◌, Bool, true, false, cond, List, [], ◌∷◌, length, map, filter, find, refl, sym, ◌∙◌, ap, arith}
use Rattle.std.proofs.lemmas.List.{length-map}
use Rattle.std.proofs.lemmas.List.Sums.{sum_by-cons}
use Rattle.std.specs.Prelude.{◌&&◌, ◌||◌, not, nat_le, Option, None, Some, is_some, option_map, if◌then◌else◌}
use Rattle.std.specs.List.{list_all}
use Rattle.std.proofs.lemmas.Bool.{eqb-true, leb-true, leb-false, and_parts}
use Rattle.permit_base.specs.Limits.{is_between, latest_day}
use Rattle.permit_base.specs.declared.words.Edition.{Edition}
use Rattle.permit_base.specs.declared.words.Edition.TheVariants.{First, Second}
use Rattle.permit_model.specs.Caller.{Party}
use Rattle.permit_model.specs.Parcels.{Parcel, Interest}
use Rattle.permit_model.specs.Codes.{is_edition}
use Rattle.permit_model.specs.Numbering.{IsNumbered, IsNumberedFrom, is_numbered, is_numbered_from}
use Rattle.permit_model.specs.Sound.{IsSoundTables, has_file, has_party, has_sound_days, has_sound_text, has_sound_terms, is_sound_paper, is_sound_filing}
use Rattle.permit_model.specs.Sound.{has_sound_people, has_own_edition, is_counted, has_few_records, is_sound_upgrade, if_any, papers_in, are_sound_papers_of}
use Rattle.permit_model.specs.Tables.{Desk, FileRow, Paper, Tables, edition_by, edition_numbered, is_notice}
use Rattle.permit_store.specs.Interests.{DeclareSame}
use Rattle.permit_store.specs.Loading.{kept_of, first_editions}
use Rattle.permit_store.specs.Plain.{KeptFile, papers_at, Keeps}
use Rattle.permit_store.specs.Plain as plain

-- ---- numbers

-- what the test says of the numbers
numbers_told : {A : Type 0} (number : A → ℕ) (first : ℕ) (xs : List A) → is_numbered_from number first xs ≡ true → IsNumberedFrom number first xs
numbers_told number first [] e = tt
numbers_told number first (x ∷ xs) e =
    let parts = and_parts (number x == first) (is_numbered_from number (first + 1) xs) e in
    (eqb-true (number x) first parts.0, numbers_told number (first + 1) xs parts.1)

module _ (t : Tables) (sound : IsSoundTables t) where
  pub parties_numbered : IsNumbered (λ (p : Party). p.id) t.parties
  parties_numbered =
      let two = and_parts _ (is_numbered (λ (f : FileRow). f.id) t.files) sound.numbering in
      numbers_told (λ p. p.id) 1 t.parties (and_parts (is_numbered (λ (p : Party). p.id) t.parties) (is_numbered (λ (p : Parcel). p.id) t.parcels) two.0).0

  pub parcels_numbered : IsNumbered (λ (p : Parcel). p.id) t.parcels
  parcels_numbered =
      let two = and_parts _ (is_numbered (λ (f : FileRow). f.id) t.files) sound.numbering in
      numbers_told (λ p. p.id) 1 t.parcels (and_parts (is_numbered (λ (p : Party). p.id) t.parties) (is_numbered (λ (p : Parcel). p.id) t.parcels) two.0).1

  pub files_numbered : IsNumbered (λ (f : FileRow). f.id) t.files
  files_numbered = numbers_told (λ f. f.id) 1 t.files (and_parts _ (is_numbered (λ (f : FileRow). f.id) t.files) sound.numbering).1

  upgrade_sound : is_sound_upgrade t ≡ true
  upgrade_sound = (and_parts _ (is_sound_upgrade t) sound.desk).1

  counted : is_counted t ≡ true
  counted =
      let few = and_parts _ (has_few_records t.desk) (and_parts _ (is_sound_upgrade t) sound.desk).0 in
      (and_parts (is_between 1 latest_day t.desk.last) (is_counted t) few.0).1

  pub parties_counted : t.desk.parties ≡ length t.parties
  parties_counted =
      let two = and_parts _ (t.desk.files == length t.files) counted in
      eqb-true t.desk.parties (length t.parties) (and_parts (t.desk.parties == length t.parties) (t.desk.parcels == length t.parcels) two.0).0

  pub parcels_counted : t.desk.parcels ≡ length t.parcels
  parcels_counted =
      let two = and_parts _ (t.desk.files == length t.files) counted in
      eqb-true t.desk.parcels (length t.parcels) (and_parts (t.desk.parties == length t.parties) (t.desk.parcels == length t.parcels) two.0).1

  pub files_counted : t.desk.files ≡ length t.files
  files_counted = eqb-true t.desk.files (length t.files) (and_parts _ (t.desk.files == length t.files) counted).1

-- ---- papers

kept_either : (t : Tables) (f : FileRow) (b : Bool) (kept : Option KeptFile) (row : Option FileRow) → kept ≡ option_map (kept_of t) row →
    cond b (Some (kept_of t f)) kept ≡ option_map (kept_of t) (cond b (Some f) row)
kept_either t f true kept row e = refl
kept_either t f false kept row e = e

file_kept : (t : Tables) (id : ℕ) (files : List FileRow) →
    find (λ k. k.row.id == id) (map (kept_of t) files) ≡ option_map (kept_of t) (find (λ f. f.id == id) files)
file_kept t id [] = refl
file_kept t id (f ∷ files) =
    kept_either t f (f.id == id) (find (λ k. k.row.id == id) (map (kept_of t) files)) (find (λ f. f.id == id) files) (file_kept t id files)

id_either : (f row : FileRow) (id : ℕ) (b : Bool) (rest : Option FileRow) → (f.id == id) ≡ b → (rest ≡ Some row → row.id ≡ id) →
    cond b (Some f) rest ≡ Some row → row.id ≡ id
id_either f row id true rest at later e =
    let same : f ≡ row = cc in
    ap (λ (r : FileRow). r.id) (sym same) ∙ eqb-true f.id id at
id_either f row id false rest at later e = later e

id_found : (id : ℕ) (files : List FileRow) (row : FileRow) → find (λ f. f.id == id) files ≡ Some row → row.id ≡ id
id_found id [] row e = cc
id_found id (f ∷ files) row e = id_either f row id (f.id == id) (find (λ f. f.id == id) files) refl (id_found id files row) e

paper_file : (t : Tables) (p : Paper) → is_sound_paper t p ≡ true → has_file t p.file ≡ true
paper_file t p e =
    let terms = and_parts _ (not p.is_open || is_notice p.sort) e in
    let text = and_parts _ (has_sound_terms p) terms.0 in
    let days = and_parts _ (has_sound_text p) text.0 in
    let day = and_parts _ (has_sound_days p) days.0 in
    let author = and_parts _ (nat_le p.day t.desk.last) day.0 in
    (and_parts (has_file t p.file) (has_party t p.author) author.0).0

none_either : (t : Tables) (id : ℕ) (p : Paper) (b : Bool) (rest : List Paper) → (p.file == id) ≡ b → find (λ f. f.id == id) t.files ≡ None →
    has_file t p.file ≡ true → rest ≡ [] → cond b (p ∷ rest) rest ≡ []
none_either t id p true rest at none there e =
    let here : has_file t id ≡ true = ap (has_file t) (sym (eqb-true p.file id at)) ∙ there in
    let nowhere : has_file t id ≡ false = ap is_some none in
    cc
none_either t id p false rest at none there e = e

-- a file that isn't there has no papers
none_filed : (t : Tables) (id : ℕ) (papers : List Paper) → find (λ f. f.id == id) t.files ≡ None → list_all (is_sound_paper t) papers ≡ true →
    filter (λ p. p.file == id) papers ≡ []
none_filed t id [] none all = refl
none_filed t id (p ∷ papers) none all =
    let parts = and_parts (is_sound_paper t p) (list_all (is_sound_paper t) papers) all in
    none_either t id p (p.file == id) (filter (λ p. p.file == id) papers) refl none (paper_file t p parts.0) (none_filed t id papers none parts.1)

papers_either : (t : Tables) (id : ℕ) (o : Option FileRow) → find (λ f. f.id == id) t.files ≡ o → list_all (is_sound_paper t) t.papers ≡ true →
    filter (λ p. p.file == id) t.papers ≡ plain.papers_in (option_map (kept_of t) o)
papers_either t id None e all = none_filed t id t.papers e all
papers_either t id (Some row) e all = ap (λ n. filter (λ p. p.file == n) t.papers) (sym (id_found id t.files row e))

-- each file keeps its papers
papers_kept : (t : Tables) (id : ℕ) → list_all (is_sound_paper t) t.papers ≡ true → filter (λ p. p.file == id) t.papers ≡ papers_at id (map (kept_of t) t.files)
papers_kept t id all = papers_either t id (find (λ f. f.id == id) t.files) refl all ∙ sym (ap plain.papers_in (file_kept t id t.files))

-- ---- the upgrade

told_edition : (e : Edition) (b : Bool) → is_edition e (if b then First else Second) ≡ true → is_edition e First ≡ b
told_edition e true h = h
told_edition First false h = sym h
told_edition Second false h = refl

count_either : (b : Bool) (id n k count : ℕ) → nat_le id n ≡ b → id ≡ k + 1 → count ≡ n - (k + 1) → cond b 1 0 + count ≡ n - k
count_either true id n k count e at rest =
    let below = leb-true id n e in
    omega (arith, below, at, rest)
count_either false id n k count e at rest =
    let above = leb-false id n e in
    omega (arith, above, at, rest)

own : (t : Tables) (f : FileRow) → (is_sound_filing t f && has_sound_people t f.state && has_own_edition t f) ≡ true → has_own_edition t f ≡ true
own t f e = (and_parts _ (has_own_edition t f) e).1

-- as many files keep to the first edition as there were at the upgrade
first_counted : (t : Tables) (n k : ℕ) (files : List FileRow) → t.upgrade ≡ Some n → IsNumberedFrom (λ f. f.id) (k + 1) files →
    list_all (λ f. is_sound_filing t f && has_sound_people t f.state && has_own_edition t f) files ≡ true → n ≤ k + length files →
    first_editions (map (kept_of t) files) ≡ n - k
first_counted t n k [] up numbered all few = omega (arith, few)
first_counted t n k (f ∷ files) up numbered all few =
    let parts = and_parts (is_sound_filing t f && has_sound_people t f.state && has_own_edition t f)
    (list_all (λ f. is_sound_filing t f && has_sound_people t f.state && has_own_edition t f) files) all in
    let told : is_edition f.state.edition (edition_numbered (Some n) f.id) ≡ true =
    ap (λ o. is_edition f.state.edition (edition_numbered o f.id)) (sym up) ∙ own t f parts.0 in
    sum_by-cons (λ (k : KeptFile). cond (is_edition k.row.state.edition First) 1 0) (kept_of t f) (map (kept_of t) files)
    ∙ ap (λ b. cond b 1 0 + first_editions (map (kept_of t) files)) (told_edition f.state.edition (nat_le f.id n) told)
    ∙ count_either (nat_le f.id n) f.id n k (first_editions (map (kept_of t) files)) refl numbered.0
    (first_counted t n (k + 1) files up numbered.1 parts.1 (omega (arith, few)))

upgraded : (edition : Edition) (upgrade : Option ℕ) (files : ℕ) → edition ≡ Second →
    (is_edition edition (edition_by upgrade) && if_any (λ count. nat_le count files) upgrade) ≡ true → (n : ℕ) × (upgrade ≡ Some n) × (n ≤ files)
upgraded First upgrade files second e = cc
upgraded Second None files second e = cc
upgraded Second (Some n) files second e = (n, refl, leb-true n files e)

-- ---- all of it

rows_kept : (t : Tables) (files : List FileRow) → files ≡ map (λ k. k.row) (map (kept_of t) files)
rows_kept t [] = refl
rows_kept t (f ∷ files) = ap (λ rows. f ∷ rows) (rows_kept t files)

same_desk : (d : Desk) (e : Edition) (p l f : ℕ) → d.edition ≡ e → d.parties ≡ p → d.parcels ≡ l → d.files ≡ f →
    d ≡ record { edition = e; last = d.last; parties = p; parcels = l; files = f }
same_desk d e p l f ee ep el ef =
    ap (λ x. record d { edition = x }) ee ∙ ap (λ x. record d { edition = e; parties = x }) ep ∙ ap (λ x. record d { edition = e; parties = p; parcels = x }) el
    ∙ ap (λ x. record d { edition = e; parties = p; parcels = l; files = x }) ef

pub loaded : (t : Tables) (desk : Desk) (parties : List Party) (parcels : List Parcel) (interests : List Interest) (files : List KeptFile) → IsSoundTables t →
    desk ≡ t.desk → desk.edition ≡ Second → parties ≡ t.parties → parcels ≡ t.parcels → DeclareSame t.interests interests → files ≡ map (kept_of t) t.files →
    Keeps (first_editions files) desk.last parties parcels interests files t
loaded t desk parties parcels interests files sound ed second ep el ei ef =
    let all : list_all (is_sound_paper t) t.papers ≡ true =
    (and_parts (list_all (is_sound_paper t) t.papers) (list_all (λ f. are_sound_papers_of (papers_in t f.id) f.state) t.files) sound.papers).0 in
    let up = upgraded t.desk.edition t.upgrade t.desk.files (ap (λ (d : Desk). d.edition) (sym ed) ∙ second) (upgrade_sound t sound) in
    let few : up.0 ≤ 0 + length t.files = omega (arith, up.2, files_counted t sound) in
    let count : first_editions (map (kept_of t) t.files) ≡ up.0 = first_counted t up.0 0 t.files up.1 (files_numbered t sound) sound.filings few
    ∙ omega arith in
    rw (ep, el, ef) (record {
      desk = sym ed ∙ same_desk desk Second (length t.parties) (length t.parcels) (length (map (kept_of t) t.files)) second
          (ap (λ (d : Desk). d.parties) ed ∙ parties_counted t sound)
          (ap (λ (d : Desk). d.parcels) ed ∙ parcels_counted t sound)
          (ap (λ (d : Desk). d.files) ed ∙ files_counted t sound ∙ sym (length-map t.files (kept_of t)));
      upgrade = up.1 ∙ ap (λ n. Some n) (sym count);
      parties = refl;
      parcels = refl;
      interests = ei;
      files = rows_kept t t.files;
      papers = λ id. papers_kept t id all;
    })

-- The tables that the tested rows are.
use Rattle.std.proofs.Common.{◌≡◌, inl, inr, ℕ, suc, ◌-◌, ◌<◌, ◌≤◌, Bool, true, false, cond, eqb, List, [], ◌∷◌, map, filter, length}
use Rattle.std.proofs.Common.{Option, option_map, unwrap_or, refl, sym, ap, subst, ◌∙◌, arith}
use Rattle.std.specs.List.{AllByRecursion}
use Rattle.std.proofs.lemmas.Bool.{eqb-true}
use Rattle.sqlite_trees.specs.Tree.{IsAscending}
use Rattle.sqlite.specs.Effect.{Database}
use Rattle.permit_base.specs.declared.words.Edition.{Edition}
use Rattle.permit_model.specs.Tables.{Tables, Desk, FileRow, Paper}
use Rattle.permit_sql_rows.specs.Schema.{IsOffice, upgrade_tree}
use Rattle.permit_sql_rows.specs.Kept.{IsNamed, AreKeyed, AreInTrees, papers_counted}
use Rattle.permit_sql_rows.specs.Typed.{IsFile, IsPaper}
use Rattle.permit_sql.specs.Found.{IsNumbered, IsLater, IsRising, IsGoodFile, IsApart, counted_in, HasDesk, HasUpgrade, HasParties, HasParcels, HasFiles, HasInterests}
use Rattle.permit_sql.specs.Found.{HasPapers, AreTyped, HasTyped}
use Rattle.permit_sql.proofs.Numbered.{once_numbered, find_numbered, get_map}

all_of : {A : Type 0} {P Q : A → Type 0} → ((x : A) → P x → Q x) → (xs : List A) → AllByRecursion P xs → AllByRecursion Q xs
all_of f [] h = tt
all_of f (x ∷ xs) h = (f x h.0, all_of f xs h.1)

all_passing : {A : Type 0} {P Q : A → Type 0} (test : A → Bool) → ((x : A) → test x ≡ true → P x → Q x) → (xs : List A) → AllByRecursion P xs →
    AllByRecursion Q (filter test xs)
all_passing test f [] h = tt
all_passing {P = P} {Q = Q} test f (x ∷ xs) h = go (test x) refl (all_passing test f xs h.1)
  where
    go : (b : Bool) → test x ≡ b → AllByRecursion Q (filter test xs) → AllByRecursion Q (cond b (x ∷ filter test xs) (filter test xs))
    go true e more = (f x e h.0, more)
    go false e more = more

pub counts_of : (files : List FileRow) → IsNumbered (λ f. f.id) 1 files → (file : ℕ) → 1 ≤ file →
    papers_counted file files ≡ counted_in (map (λ f. f.state.papers) files) file
counts_of files up file low =
    ap (λ (o : Option FileRow). unwrap_or (option_map (λ f. f.state.papers) o) 0) (find_numbered (λ f. f.id) 1 files up file low)
    ∙ ap (λ o. unwrap_or o 0) (sym (get_map (λ f. f.state.papers) files (file - 1)))

-- ---- papers in rising order

then_later : (f n g m h k : ℕ) → IsLater f n g m → IsLater g m h k → IsLater f n h k
then_later f n g m h k (inl a) (inl b) = inl (b.0 ∙ a.0, omega (arith, a.1, b.1))
then_later f n g m h k (inl a) (inr b) = inr (let e = a.0 in omega (arith, e, b))
then_later f n g m h k (inr a) (inl b) = inr (let e = b.0 in omega (arith, e, a))
then_later f n g m h k (inr a) (inr b) = inr (omega (arith, a, b))

all_later : (f n g m : ℕ) (ps : List Paper) → IsLater f n g m → IsRising g m ps → AllByRecursion (λ b. IsLater f n b.file b.number) ps
all_later f n g m [] first up = tt
all_later f n g m (p ∷ ps) first up = let here = then_later f n g m p.file p.number first up.0 in (here, all_later f n p.file p.number ps here up.1)

rising_from : (f n : ℕ) (ps : List Paper) → IsRising f n ps → AllByRecursion (λ b. IsLater f n b.file b.number) ps
rising_from f n [] up = tt
rising_from f n (p ∷ ps) up = (up.0, all_later f n p.file p.number ps up.0 up.1)

pub rise_in : (f n : ℕ) (ps : List Paper) → IsRising f n ps → (file : ℕ) → IsAscending (λ a b. a.number < b.number) (filter (λ p. eqb p.file file) ps)
rise_in f n [] up file = tt
rise_in f n (p ∷ ps) up file = go (eqb p.file file) refl (rise_in p.file p.number ps up.1 file)
  where
    past : p.file ≡ file → (b : Paper) → eqb b.file file ≡ true → IsLater p.file p.number b.file b.number → p.number < b.number
    past here b same (inl h) = h.1
    past here b same (inr h) = absurd (let e = eqb-true b.file file same in omega (arith, e, here, h))

    go : (t : Bool) → eqb p.file file ≡ t → IsAscending (λ a b. a.number < b.number) (filter (λ p. eqb p.file file) ps) →
        IsAscending (λ a b. a.number < b.number) (cond t (p ∷ filter (λ p. eqb p.file file) ps) (filter (λ p. eqb p.file file) ps))
    go true e more = (all_passing (λ (q : Paper). eqb q.file file) (past (eqb-true p.file file e)) ps (rising_from p.file p.number ps up.1), more)
    go false e more = more

-- ---- all together

pub tables_found : (edition : Edition) (db : Database) (d : Desk) (upgrade : Option ℕ) (counts : List ℕ) → IsOffice edition db.schema →
    d.edition ≡ edition → HasDesk d (db.trees 0) → HasUpgrade edition d.files upgrade db → HasParties d.parties (db.trees 1) →
    HasParcels d.parcels (db.trees 3) → HasInterests (db.trees 5)
    → HasFiles upgrade counts (db.trees 7) → length counts ≡ d.files → HasPapers counts (db.trees 8) → IsApart (db.trees 8) → HasTyped edition db d upgrade
tables_found edition db d upgrade counts office now desk upgraded parties parcels interests files long papers apart =
    let t : Tables = record { desk = d; upgrade = upgrade; parties = parties.all; parcels = parcels.all; interests = interests.all; files = files.all; papers = papers.all } in
    let many : length files.all ≡ d.files = sym (long_map (λ (f : FileRow). f.state.papers) files.all) ∙ ap length files.counted ∙ long in
    let typed : AreTyped t = record {
      desk = desk.good;
      parties = parties.good;
      parcels = parcels.good;
      interests = interests.good;
      files = all_of {P = IsGoodFile upgrade} {Q = IsFile} (λ f h. h.0) files.all files.good;
      papers = papers.good;
      party_numbers = parties.numbered;
      parcel_numbers = parcels.numbered;
      file_numbers = files.numbered;
      party_count = parties.counted;
      parcel_count = parcels.counted;
      file_count = many;
    } in
    let keyed : AreKeyed t = record {
      upgraded = upgraded.within;
      edition = now ∙ upgraded.told;
      parties = once_numbered (λ p. p.id) 1 parties.all parties.numbered;
      digests = parties.once;
      parcels = once_numbered (λ p. p.id) 1 parcels.all parcels.numbered;
      lots = parcels.once;
      files = once_numbered (λ f. f.id) 1 files.all files.numbered;
      named = all_of {P = IsGoodFile upgrade} {Q = λ f. IsNamed upgrade f.id f.state} (λ f h. h.1) files.all files.good;
      papers = rise_in 0 0 papers.all papers.rising;
      counted = λ file. all_passing (λ (p : Paper). eqb p.file file) (counted_at file) papers.all (both papers.all papers.good papers.counted);
    } in
    let rows : AreInTrees t (upgrade_tree db.schema) db.trees = record {
      desk = desk.here;
      upgrade = upgraded.here;
      parties = parties.here;
      parcels = parcels.here;
      interests = interests.here;
      files = files.here;
      papers = papers.here;
      apart = apart;
    } in
    (t, typed, record { schema = office; now = now; keyed = keyed; rows = rows }, refl, refl)
  where
    long_map : {A B : Type 0} (f : A → B) (xs : List A) → length (map f xs) ≡ length xs
    long_map f [] = refl
    long_map f (x ∷ xs) = ap suc (long_map f xs)

    both : (ps : List Paper) → AllByRecursion IsPaper ps → AllByRecursion (λ p. p.number ≤ counted_in counts p.file) ps →
        AllByRecursion (λ p. IsPaper p × (p.number ≤ counted_in counts p.file)) ps
    both [] a b = tt
    both (p ∷ ps) a b = ((a.0, b.0), both ps a.1 b.1)

    counted_at : (file : ℕ) (p : Paper) → eqb p.file file ≡ true → IsPaper p × (p.number ≤ counted_in counts p.file) → p.number ≤ papers_counted file files.all
    counted_at file p same h =
        let here = eqb-true p.file file same in
        let some : 1 ≤ file = let e = h.0.file.0 in omega (arith, e, here) in
        let is : papers_counted file files.all ≡ counted_in counts file = counts_of files.all files.numbered file some
        ∙ ap (λ c. counted_in c file) files.counted in
        subst (λ n. p.number ≤ n) (ap (counted_in counts) here ∙ sym is) h.1

-- What is kept of the tables as one table turns into another.
use Rattle.std.proofs.Common.{◌≡◌, ℕ, suc, ℤ, ◌<◌, ◌≤◌, Bool, true, false, cond, eqb, List, [], ◌∷◌, ◌++◌, map, filter, find, drop, length, Option, Some, None, option_map}
use Rattle.std.proofs.Common.{unwrap_or, true≢false, refl, sym, ap, subst, ◌∙◌, arith, IsPermutation}
use Rattle.std.specs.Prelude.{◌≢◌, ◌&&◌, bytes_eq, IfSome}
use Rattle.std.specs.List.{AllByRecursion}
use Rattle.std.proofs.lemmas.Bool.Decides.{nat_tests}
use Rattle.std.proofs.lemmas.Slice.Eq.{bytes_eq-Decides}
use Rattle.sqlite_keyed.proofs.ListLemmas.{filter-map, filter_same, all_kept, ascending-map, ascending_weaker}
use Rattle.sqlite_value.specs.Order.{Row}
use Rattle.sqlite.specs.Effect.{Database}
use Rattle.sqlite_trees.specs.Tree.{IsAscending, has_rowid}
use Rattle.permit_model.specs.Caller.{Party}
use Rattle.permit_model.specs.Parcels.{Parcel, Interest}
use Rattle.permit_model.specs.Tables.{Desk, State, FileRow, Paper, Tables}
use Rattle.permit_store.specs.Changes.{given_to, with_state, closed_by}
use Rattle.sqlite_schema.specs.declared.schema.Table.{Table}
use Rattle.permit_sql_rows.specs.Schema.{Order, IsSecond, schema_in, upgrade_tree, desk_table, upgrade_table, party_table, parcel_table, interest_table, file_table, paper_table}
use Rattle.permit_sql_rows.specs.Rows.{desk_row, upgrade_row, party_row, parcel_row, file_row, shown_interest, shown_paper}
use Rattle.permit_sql_rows.specs.Kept.{papers_counted, IsNamed, AreKeyed, AreInTrees}
use Rattle.permit_sql_statements.proofs.Permuted.{once_more}
use Rattle.permit_sql_statements.proofs.Effects.{Leaves}

-- ---- the trees: one is changed

abbrev pub Apart : List (List Rattle.sqlite.specs.declared.types.Value.Value) → Type 0
Apart rows = (id : ℤ) → length (filter (has_rowid id) rows) ≤ 1

apart : (a b : ℕ) → eqb a b ≡ false → a ≢ b
apart a b other same = absurd (true≢false (sym (itself b) ∙ ap (λ n. eqb n b) (sym same) ∙ other))
  where
    itself : (n : ℕ) → eqb n n ≡ true
    itself n = grind (arith, nat_tests)

some_still : (o : Option ℕ) {a b : List Row} → b ≡ a → IfSome o (λ files. a ≡ upgrade_row files ∷ []) → IfSome o (λ files. b ≡ upgrade_row files ∷ [])
some_still None same was = tt
some_still (Some files) same was = same ∙ was

-- an edit leaves the order of the schema
pub second_after : (old new : Database) (s : IsSecond old.schema) → new.schema ≡ schema_in s.order → IsSecond new.schema
second_after old new s same = record { order = s.order; is = same; apart = s.apart; low = s.low; are = s.are }

module _ (old new : Database) (t : Tables) (office : IsSecond old.schema) (k : AreInTrees t (upgrade_tree old.schema) old.trees) where
  abbrev o : Order
  o = office.order

  upgrade_here : IfSome t.upgrade (λ files. old.trees o.tree ≡ upgrade_row files ∷ [])
  upgrade_here = subst (λ n. IfSome t.upgrade (λ files. old.trees n ≡ upgrade_row files ∷ [])) (ap upgrade_tree office.is) k.upgrade

  -- the upgrade's tree is none of the others
  far : (n : ℕ) → n ≤ 9 → eqb n o.tree ≡ false
  far n low = let apart_from = office.apart in grind (arith, nat_tests)

  in_its_tree : (u : Tables) → new.schema ≡ schema_in o → AreInTrees u o.tree new.trees → AreInTrees u (upgrade_tree new.schema) new.trees
  in_its_tree u same kept = subst (λ n. AreInTrees u n new.trees) (sym (ap upgrade_tree same)) kept

  -- what an edit of one table leaves of each other's tree
  module _ (table : Table) (leaves : Leaves o old new table) where
    abbrev Other : ℕ → Type 0
    Other tree = eqb tree table.tree ≡ false

    desk_stays : Other 0 → new.trees 0 ≡ desk_row t.desk ∷ []
    desk_stays other = leaves.others.0 (apart 0 table.tree other) ∙ k.desk

    upgrade_stays : table.tree ≤ 9 → IfSome t.upgrade (λ files. new.trees o.tree ≡ upgrade_row files ∷ [])
    upgrade_stays low = some_still t.upgrade (leaves.others.1.1.1.1.1.1.0 (λ same. omega (arith, low, office.apart, same))) upgrade_here

    parties_stay : Other 1 → IsPermutation (map party_row t.parties) (new.trees 1)
    parties_stay other = subst (IsPermutation (map party_row t.parties)) (sym (leaves.others.1.0 (apart 1 table.tree other))) k.parties

    parcels_stay : Other 3 → IsPermutation (map parcel_row t.parcels) (new.trees 3)
    parcels_stay other = subst (IsPermutation (map parcel_row t.parcels)) (sym (leaves.others.1.1.0 (apart 3 table.tree other))) k.parcels

    interests_stay : Other 5 → IsPermutation (map shown_interest t.interests) (map (drop 1) (new.trees 5))
    interests_stay other = subst (λ r. IsPermutation (map shown_interest t.interests) (map (drop 1) r))
        (sym (leaves.others.1.1.1.0 (apart 5 table.tree other))) k.interests

    files_stay : Other 7 → IsPermutation (map file_row t.files) (new.trees 7)
    files_stay other = subst (IsPermutation (map file_row t.files)) (sym (leaves.others.1.1.1.1.0 (apart 7 table.tree other))) k.files

    papers_stay : Other 8 → IsPermutation (map shown_paper t.papers) (map (drop 1) (new.trees 8)) × Apart (new.trees 8)
    papers_stay other =
        let same = sym (leaves.others.1.1.1.1.1.0 (apart 8 table.tree other)) in
        (subst (λ r. IsPermutation (map shown_paper t.papers) (map (drop 1) r)) same k.papers, subst Apart same k.apart)

  pub keeps_desk : (d : Desk) → Leaves o old new desk_table → new.trees 0 ≡ desk_row d ∷ [] →
      AreInTrees (record t { desk = d }) (upgrade_tree new.schema) new.trees
  keeps_desk d leaves now = in_its_tree (record t { desk = d }) leaves.schema (record {
    desk = now;
    upgrade = upgrade_stays desk_table leaves (omega arith);
    parties = parties_stay desk_table leaves refl;
    parcels = parcels_stay desk_table leaves refl;
    interests = interests_stay desk_table leaves refl;
    files = files_stay desk_table leaves refl;
    papers = (papers_stay desk_table leaves refl).0;
    apart = (papers_stay desk_table leaves refl).1;
  })

  pub keeps_upgrade : (files : ℕ) → Leaves o old new (upgrade_table o.tree) → new.trees o.tree ≡ upgrade_row files ∷ [] →
      AreInTrees (record t { upgrade = Some files }) (upgrade_tree new.schema) new.trees
  keeps_upgrade files leaves now = in_its_tree (record t { upgrade = Some files }) leaves.schema (record {
    desk = desk_stays (upgrade_table o.tree) leaves (far 0 (omega arith));
    upgrade = now;
    parties = parties_stay (upgrade_table o.tree) leaves (far 1 (omega arith));
    parcels = parcels_stay (upgrade_table o.tree) leaves (far 3 (omega arith));
    interests = interests_stay (upgrade_table o.tree) leaves (far 5 (omega arith));
    files = files_stay (upgrade_table o.tree) leaves (far 7 (omega arith));
    papers = (papers_stay (upgrade_table o.tree) leaves (far 8 (omega arith))).0;
    apart = (papers_stay (upgrade_table o.tree) leaves (far 8 (omega arith))).1;
  })

  pub keeps_parties : (xs : List Party) → Leaves o old new party_table → IsPermutation (map party_row xs) (new.trees 1) →
      AreInTrees (record t { parties = xs }) (upgrade_tree new.schema) new.trees
  keeps_parties xs leaves now = in_its_tree (record t { parties = xs }) leaves.schema (record {
    desk = desk_stays party_table leaves refl;
    upgrade = upgrade_stays party_table leaves (omega arith);
    parties = now;
    parcels = parcels_stay party_table leaves refl;
    interests = interests_stay party_table leaves refl;
    files = files_stay party_table leaves refl;
    papers = (papers_stay party_table leaves refl).0;
    apart = (papers_stay party_table leaves refl).1;
  })

  pub keeps_parcels : (xs : List Parcel) → Leaves o old new parcel_table → IsPermutation (map parcel_row xs) (new.trees 3) →
      AreInTrees (record t { parcels = xs }) (upgrade_tree new.schema) new.trees
  keeps_parcels xs leaves now = in_its_tree (record t { parcels = xs }) leaves.schema (record {
    desk = desk_stays parcel_table leaves refl;
    upgrade = upgrade_stays parcel_table leaves (omega arith);
    parties = parties_stay parcel_table leaves refl;
    parcels = now;
    interests = interests_stay parcel_table leaves refl;
    files = files_stay parcel_table leaves refl;
    papers = (papers_stay parcel_table leaves refl).0;
    apart = (papers_stay parcel_table leaves refl).1;
  })

  pub keeps_interests : (xs : List Interest) → Leaves o old new interest_table → IsPermutation (map shown_interest xs) (map (drop 1) (new.trees 5)) →
      AreInTrees (record t { interests = xs }) (upgrade_tree new.schema) new.trees
  keeps_interests xs leaves now = in_its_tree (record t { interests = xs }) leaves.schema (record {
    desk = desk_stays interest_table leaves refl;
    upgrade = upgrade_stays interest_table leaves (omega arith);
    parties = parties_stay interest_table leaves refl;
    parcels = parcels_stay interest_table leaves refl;
    interests = now;
    files = files_stay interest_table leaves refl;
    papers = (papers_stay interest_table leaves refl).0;
    apart = (papers_stay interest_table leaves refl).1;
  })

  pub keeps_files : (xs : List FileRow) → Leaves o old new file_table → IsPermutation (map file_row xs) (new.trees 7) →
      AreInTrees (record t { files = xs }) (upgrade_tree new.schema) new.trees
  keeps_files xs leaves now = in_its_tree (record t { files = xs }) leaves.schema (record {
    desk = desk_stays file_table leaves refl;
    upgrade = upgrade_stays file_table leaves (omega arith);
    parties = parties_stay file_table leaves refl;
    parcels = parcels_stay file_table leaves refl;
    interests = interests_stay file_table leaves refl;
    files = now;
    papers = (papers_stay file_table leaves refl).0;
    apart = (papers_stay file_table leaves refl).1;
  })

  pub keeps_papers : (xs : List Paper) → Leaves o old new paper_table → IsPermutation (map shown_paper xs) (map (drop 1) (new.trees 8)) × Apart (new.trees 8) →
      AreInTrees (record t { papers = xs }) (upgrade_tree new.schema) new.trees
  keeps_papers xs leaves now = in_its_tree (record t { papers = xs }) leaves.schema (record {
    desk = desk_stays paper_table leaves refl;
    upgrade = upgrade_stays paper_table leaves (omega arith);
    parties = parties_stay paper_table leaves refl;
    parcels = parcels_stay paper_table leaves refl;
    interests = interests_stay paper_table leaves refl;
    files = files_stay paper_table leaves refl;
    papers = now.0;
    apart = now.1;
  })

-- ---- the keys

same_number : (a b : ℕ) → eqb a b ≡ true → a ≡ b
same_number a b e = grind (arith, nat_tests)

same_bytes : (a b : List ℕ) → bytes_eq a b ≡ true → a ≡ b
same_bytes a b e = (bytes_eq-Decides a b).0 e

-- a change of values leaves how many pass a test that reads what stays
pub as_many : {X : Type 0} (p : X → Bool) (f : X → X) → ((x : X) → p (f x) ≡ p x) → (xs : List X) → length (filter p xs) ≤ 1 → length (filter p (map f xs)) ≤ 1
as_many p f same xs short = subst (λ n. n ≤ 1) (sym (ap length (filter-map p f xs) ∙ long f (filter (λ x. p (f x)) xs)
    ∙ ap length (filter_same _ _ same xs))) short
  where
    long : {A B : Type 0} (g : A → B) (ys : List A) → length (map g ys) ≡ length ys
    long g [] = refl
    long g (y ∷ ys) = ap suc (long g ys)

few_still : (o : Option ℕ) {a b : ℕ} → a ≤ b → IfSome o (λ files. files ≤ a) → IfSome o (λ files. files ≤ b)
few_still None more few = tt
few_still (Some files) more few = omega (arith, more, few)

module _ (t : Tables) (k : AreKeyed t) where
  pub keyed_desk : (d : Desk) → t.desk.files ≤ d.files → d.edition ≡ t.desk.edition → AreKeyed (record t { desk = d })
  keyed_desk d more now = record {
    upgraded = few_still t.upgrade more k.upgraded;
    edition = now ∙ k.edition;
    parties = k.parties;
    digests = k.digests;
    parcels = k.parcels;
    lots = k.lots;
    files = k.files;
    named = k.named;
    papers = k.papers;
    counted = k.counted;
  }

  pub keyed_interests : (is : List Interest) → AreKeyed (record t { interests = is })
  keyed_interests is = record {
    upgraded = k.upgraded;
    edition = k.edition;
    parties = k.parties;
    digests = k.digests;
    parcels = k.parcels;
    lots = k.lots;
    files = k.files;
    named = k.named;
    papers = k.papers;
    counted = k.counted;
  }

  pub keyed_party : (p : Party) → filter (λ q. eqb q.id p.id) t.parties ≡ [] → filter (λ q. bytes_eq q.digest p.digest) t.parties ≡ [] →
      AreKeyed (record t { parties = t.parties ++ p ∷ [] })
  keyed_party p free new = record {
    upgraded = k.upgraded;
    edition = k.edition;
    parties = λ id. once_more (λ q. eqb q.id id) t.parties p (k.parties id)
        (λ e. subst (λ n. filter (λ q. eqb q.id n) t.parties ≡ []) (same_number p.id id e) free);
    digests = λ d. once_more (λ q. bytes_eq q.digest d) t.parties p (k.digests d)
        (λ e. subst (λ b. filter (λ q. bytes_eq q.digest b) t.parties ≡ []) (same_bytes p.digest d e) new);
    parcels = k.parcels;
    lots = k.lots;
    files = k.files;
    named = k.named;
    papers = k.papers;
    counted = k.counted;
  }

  pub keyed_parcel : (p : Parcel) → filter (λ q. eqb q.id p.id) t.parcels ≡ [] → filter (λ q. bytes_eq q.lot p.lot) t.parcels ≡ [] →
      AreKeyed (record t { parcels = t.parcels ++ p ∷ [] })
  keyed_parcel p free new = record {
    upgraded = k.upgraded;
    edition = k.edition;
    parcels = λ id. once_more (λ q. eqb q.id id) t.parcels p (k.parcels id)
        (λ e. subst (λ n. filter (λ q. eqb q.id n) t.parcels ≡ []) (same_number p.id id e) free);
    lots = λ d. once_more (λ q. bytes_eq q.lot d) t.parcels p (k.lots d)
        (λ e. subst (λ b. filter (λ q. bytes_eq q.lot b) t.parcels ≡ []) (same_bytes p.lot d e) new);
    parties = k.parties;
    digests = k.digests;
    files = k.files;
    named = k.named;
    papers = k.papers;
    counted = k.counted;
  }

  pub keyed_owner : (id owner : ℕ) → AreKeyed (record t { parcels = map (given_to id owner) t.parcels })
  keyed_owner id owner = record {
    upgraded = k.upgraded;
    edition = k.edition;
    parcels = λ n. as_many (λ q. eqb q.id n) (given_to id owner) (λ q. ap (λ m. eqb m n) (still q)) t.parcels (k.parcels n);
    lots = λ d. as_many (λ q. bytes_eq q.lot d) (given_to id owner) (λ q. ap (λ l. bytes_eq l d) (lot_still q)) t.parcels (k.lots d);
    parties = k.parties;
    digests = k.digests;
    files = k.files;
    named = k.named;
    papers = k.papers;
    counted = k.counted;
  }
    where
      still : (q : Parcel) → (given_to id owner q).id ≡ q.id
      still q = go (eqb q.id id)
        where
          go : (b : Bool) → (cond b (record q { owner = owner }) q).id ≡ q.id
          go true = refl
          go false = refl

      lot_still : (q : Parcel) → (given_to id owner q).lot ≡ q.lot
      lot_still q = go (eqb q.id id)
        where
          go : (b : Bool) → (cond b (record q { owner = owner }) q).lot ≡ q.lot
          go true = refl
          go false = refl

-- ---- files, and the papers that their rows count

raised : (a b : ℕ) (ps : List Paper) → a ≤ b → AllByRecursion (λ p. p.number ≤ a) ps → AllByRecursion (λ p. p.number ≤ b) ps
raised a b [] low all = tt
raised a b (p ∷ ps) low all = (omega (arith, low, all.0), raised a b ps low all.1)

counted_more : (file : ℕ) (f : FileRow) (fs : List FileRow) → papers_counted file fs ≤ papers_counted file (fs ++ f ∷ [])
counted_more file f [] = omega arith
counted_more file f (x ∷ fs) = go (eqb x.id file) (counted_more file f fs)
  where
    go : (b : Bool) → papers_counted file fs ≤ papers_counted file (fs ++ f ∷ [])
        → unwrap_or (option_map (λ (r : FileRow). r.state.papers) (cond b (Some x) (find (λ r. eqb r.id file) fs))) 0 ≤ unwrap_or
        (option_map (λ (r : FileRow). r.state.papers) (cond b (Some x) (find (λ r. eqb r.id file) (fs ++ f ∷ [])))) 0
    go true more = omega arith
    go false more = more

still_id : (id : ℕ) (s : State) (x : FileRow) → (with_state id s x).id ≡ x.id
still_id id s x = go (eqb x.id id)
  where
    go : (b : Bool) → (cond b (record x { state = s }) x).id ≡ x.id
    go true = refl
    go false = refl

counted_set : (file id : ℕ) (s : State) (fs : List FileRow) → AllByRecursion (λ (x : FileRow). eqb x.id id ≡ true → x.state.papers ≤ s.papers) fs →
    papers_counted file fs ≤ papers_counted file (map (with_state id s) fs)
counted_set file id s [] low = omega arith
counted_set file id s (x ∷ fs) low =
    subst (λ n. unwrap_or (option_map (λ (r : FileRow). r.state.papers) (cond (eqb x.id file) (Some x) (find (λ r. eqb r.id file) fs))) 0 ≤ unwrap_or
    (option_map (λ (r : FileRow). r.state.papers) (cond (eqb n file) (Some (with_state id s x)) (find (λ r. eqb r.id file) (map (with_state id s) fs)))) 0)
    (sym (still_id id s x)) (go (eqb x.id file) (counted_set file id s fs low.1))
  where
    here : (b : Bool) → eqb x.id id ≡ b → x.state.papers ≤ (cond b (record x { state = s }) x).state.papers
    here true e = low.0 e
    here false e = omega arith

    go : (b : Bool) → papers_counted file fs ≤ papers_counted file (map (with_state id s) fs)
        → unwrap_or (option_map (λ (r : FileRow). r.state.papers) (cond b (Some x) (find (λ r. eqb r.id file) fs))) 0 ≤ unwrap_or
        (option_map (λ (r : FileRow). r.state.papers) (cond b (Some (with_state id s x)) (find (λ r. eqb r.id file) (map (with_state id s) fs)))) 0
    go true more = here (eqb x.id id) refl
    go false more = more

-- the count in the row that is set
pub counted_here : (id : ℕ) (s : State) (f : FileRow) (fs : List FileRow) → find (λ r. eqb r.id id) fs ≡ Some f →
    papers_counted id (map (with_state id s) fs) ≡ s.papers
counted_here id s f [] e = absurd cc
counted_here id s f (x ∷ fs) e = ap (λ n. unwrap_or (option_map (λ (r : FileRow). r.state.papers)
    (cond (eqb n id) (Some (with_state id s x)) (find (λ r. eqb r.id id) (map (with_state id s) fs)))) 0) (still_id id s x)
    ∙ go (eqb x.id id) e (counted_here id s f fs)
  where
    go : (b : Bool) → cond b (Some x) (find (λ r. eqb r.id id) fs) ≡ Some f →
        (find (λ r. eqb r.id id) fs ≡ Some f → papers_counted id (map (with_state id s) fs) ≡ s.papers)
        → unwrap_or (option_map (λ (r : FileRow). r.state.papers) (cond b (Some (cond b (record x { state = s }) x))
        (find (λ r. eqb r.id id) (map (with_state id s) fs)))) 0 ≡ s.papers
    go true e more = refl
    go false e more = more e

all_last : {X : Type 0} (P : X → Type 0) (xs : List X) (x : X) → AllByRecursion P xs → P x → AllByRecursion P (xs ++ x ∷ [])
all_last P [] x all is = (is, tt)
all_last P (y ∷ xs) x all is = (all.0, all_last P xs x all.1 is)

named_set : (upgrade : Option ℕ) (id : ℕ) (s : State) (fs : List FileRow) → IsNamed upgrade id s →
    AllByRecursion (λ (f : FileRow). IsNamed upgrade f.id f.state) fs → AllByRecursion (λ (f : FileRow). IsNamed upgrade f.id f.state) (map (with_state id s) fs)
named_set upgrade id s [] is all = tt
named_set upgrade id s (x ∷ fs) is all = (go (eqb x.id id) refl, named_set upgrade id s fs is all.1)
  where
    go : (b : Bool) → eqb x.id id ≡ b → IsNamed upgrade (cond b (record x { state = s }) x).id (cond b (record x { state = s }) x).state
    go true e = subst (λ n. IsNamed upgrade n s) (sym (same_number x.id id e)) is
    go false e = all.0

module _ (t : Tables) (k : AreKeyed t) where
  pub keyed_file : (f : FileRow) → filter (λ q. eqb q.id f.id) t.files ≡ [] → IsNamed t.upgrade f.id f.state → AreKeyed (record t { files = t.files ++ f ∷ [] })
  keyed_file f free is = record {
    upgraded = k.upgraded;
    edition = k.edition;
    parties = k.parties;
    digests = k.digests;
    parcels = k.parcels;
    lots = k.lots;
    files = λ id. once_more (λ q. eqb q.id id) t.files f (k.files id) (λ e. subst (λ n. filter (λ q. eqb q.id n) t.files ≡ []) (same_number f.id id e) free);
    named = all_last (λ (x : FileRow). IsNamed t.upgrade x.id x.state) t.files f k.named is;
    papers = k.papers;
    counted = λ file. raised (papers_counted file t.files) (papers_counted file (t.files ++ f ∷ [])) _ (counted_more file f t.files) (k.counted file);
  }

  pub keyed_row : (id : ℕ) (s : State) (f : FileRow) → filter (λ q. eqb q.id id) t.files ≡ f ∷ [] → f.state.papers ≤ s.papers → IsNamed t.upgrade id s →
      AreKeyed (record t { files = map (with_state id s) t.files })
  keyed_row id s f one low is = record {
    upgraded = k.upgraded;
    edition = k.edition;
    parties = k.parties;
    digests = k.digests;
    parcels = k.parcels;
    lots = k.lots;
    files = λ n. as_many (λ q. eqb q.id n) (with_state id s) (λ q. ap (λ m. eqb m n) (still_id id s q)) t.files (k.files n);
    named = named_set t.upgrade id s t.files is k.named;
    papers = k.papers;
    counted = λ file. raised (papers_counted file t.files) (papers_counted file (map (with_state id s) t.files)) _
        (counted_set file id s t.files (all_kept (λ (x : FileRow). x.state.papers ≤ s.papers) (λ q. eqb q.id id) t.files
        (subst (AllByRecursion (λ (x : FileRow). x.state.papers ≤ s.papers)) (sym one) (low, tt)))) (k.counted file);
  }

-- ---- papers

filter_last : {X : Type 0} (p : X → Bool) (xs : List X) (x : X) → filter p (xs ++ x ∷ []) ≡ filter p xs ++ cond (p x) (x ∷ []) []
filter_last p [] x = refl
filter_last p (y ∷ xs) x = go (p y) (filter_last p xs x)
  where
    go : (b : Bool) → filter p (xs ++ x ∷ []) ≡ filter p xs ++ cond (p x) (x ∷ []) [] →
        cond b (y ∷ filter p (xs ++ x ∷ [])) (filter p (xs ++ x ∷ [])) ≡ cond b (y ∷ filter p xs) (filter p xs) ++ cond (p x) (x ∷ []) []
    go true e = ap (λ l. y ∷ l) e
    go false e = e

ascends_last : (xs : List Paper) (x : Paper) → IsAscending (λ (a b : Paper). a.number < b.number) xs → AllByRecursion (λ (y : Paper). y.number < x.number) xs →
    IsAscending (λ (a b : Paper). a.number < b.number) (xs ++ x ∷ [])
ascends_last [] x up low = (tt, tt)
ascends_last (y ∷ xs) x up low = (all_last (λ (b : Paper). y.number < b.number) xs x up.0 low.0, ascends_last xs x up.1 low.1)

pub lower : (a b : ℕ) (ps : List Paper) → a < b → AllByRecursion (λ (p : Paper). p.number ≤ a) ps → AllByRecursion (λ (p : Paper). p.number < b) ps
lower a b [] low all = tt
lower a b (p ∷ ps) low all = (omega (arith, low, all.0), lower a b ps low all.1)

append_nil : {X : Type 0} (xs : List X) → xs ++ [] ≡ xs
append_nil [] = refl
append_nil (x ∷ xs) = ap (λ l. x ∷ l) (append_nil xs)

module _ (t : Tables) (k : AreKeyed t) where
  -- a paper of the file, with the number after all of its papers
  pub keyed_paper : (p : Paper) → AllByRecursion (λ (x : Paper). x.number < p.number) (filter (λ (x : Paper). eqb x.file p.file) t.papers) →
      p.number ≤ papers_counted p.file t.files → AreKeyed (record t { papers = t.papers ++ p ∷ [] })
  keyed_paper p above low = record {
    upgraded = k.upgraded;
    edition = k.edition;
    parties = k.parties;
    digests = k.digests;
    parcels = k.parcels;
    lots = k.lots;
    files = k.files;
    named = k.named;
    papers = λ file. subst (IsAscending (λ (a b : Paper). a.number < b.number)) (sym (filter_last (λ (x : Paper). eqb x.file file) t.papers p))
        (rises file (eqb p.file file) refl);
    counted = λ file. subst (AllByRecursion (λ (x : Paper). x.number ≤ papers_counted file t.files))
        (sym (filter_last (λ (x : Paper). eqb x.file file) t.papers p)) (counts file (eqb p.file file) refl);
  }
    where
      rises : (file : ℕ) (b : Bool) → eqb p.file file ≡ b → IsAscending (λ (x y : Paper). x.number < y.number)
          (filter (λ (x : Paper). eqb x.file file) t.papers ++ cond b (p ∷ []) [])
      rises file true e = ascends_last _ p (k.papers file) (subst (λ n. AllByRecursion (λ (x : Paper). x.number < p.number)
          (filter (λ (x : Paper). eqb x.file n) t.papers)) (same_number p.file file e) above)
      rises file false e = subst (IsAscending (λ (x y : Paper). x.number < y.number)) (sym (append_nil _)) (k.papers file)

      counts : (file : ℕ) (b : Bool) → eqb p.file file ≡ b → AllByRecursion (λ (x : Paper). x.number ≤ papers_counted file t.files)
          (filter (λ (x : Paper). eqb x.file file) t.papers ++ cond b (p ∷ []) [])
      counts file true e = all_last _ _ p (k.counted file) (subst (λ n. p.number ≤ papers_counted n t.files) (same_number p.file file e) low)
      counts file false e = subst (AllByRecursion (λ (x : Paper). x.number ≤ papers_counted file t.files)) (sym (append_nil _)) (k.counted file)

  closed_file : (file number : ℕ) (x : Paper) → (closed_by file number x).file ≡ x.file
  closed_file file number x = go (eqb x.file file && eqb x.number number)
    where
      go : (b : Bool) → (cond b (record x { is_open = false }) x).file ≡ x.file
      go true = refl
      go false = refl

  closed_number : (file number : ℕ) (x : Paper) → (closed_by file number x).number ≡ x.number
  closed_number file number x = go (eqb x.file file && eqb x.number number)
    where
      go : (b : Bool) → (cond b (record x { is_open = false }) x).number ≡ x.number
      go true = refl
      go false = refl

  closed_all : (n file number : ℕ) (xs : List Paper) → AllByRecursion (λ (x : Paper). x.number ≤ n) xs →
      AllByRecursion (λ (x : Paper). x.number ≤ n) (map (closed_by file number) xs)
  closed_all n file number [] all = tt
  closed_all n file number (x ∷ xs) all = (subst (λ m. m ≤ n) (sym (closed_number file number x)) all.0, closed_all n file number xs all.1)

  pub keyed_closed : (file number : ℕ) → AreKeyed (record t { papers = map (closed_by file number) t.papers })
  keyed_closed file number = record {
    upgraded = k.upgraded;
    edition = k.edition;
    parties = k.parties;
    digests = k.digests;
    parcels = k.parcels;
    lots = k.lots;
    files = k.files;
    named = k.named;
    papers = λ f. subst (IsAscending (λ (a b : Paper). a.number < b.number)) (sym (kept f))
        (ascending-map (λ (a b : Paper). a.number < b.number) (closed_by file number) _
        (ascending_weaker _ _ (λ a b low. subst (λ n. n < (closed_by file number b).number) (sym (closed_number file number a))
        (subst (λ n. a.number < n) (sym (closed_number file number b)) low)) _ (k.papers f)));
    counted = λ f. subst (AllByRecursion (λ (x : Paper). x.number ≤ papers_counted f t.files)) (sym (kept f)) (closed_all _ file number _ (k.counted f));
  }
    where
      kept : (f : ℕ) → filter (λ (x : Paper). eqb x.file f) (map (closed_by file number) t.papers)
          ≡ map (closed_by file number) (filter (λ (x : Paper). eqb x.file f) t.papers)
      kept f = filter-map (λ (x : Paper). eqb x.file f) (closed_by file number) t.papers
          ∙ ap (map (closed_by file number)) (filter_same _ _ (λ x. ap (λ n. eqb n f) (closed_file file number x)) t.papers)

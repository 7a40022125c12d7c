-- What the statements of a commit make of the tables.
use Rattle.std.proofs.Common.{◌≡◌, ℕ, pos, ◌+◌, ◌<◌, ◌≤◌, filter, unwrap_or, option_map, Bool, true, false, cond, eqb, List, [], ◌∷◌, ◌++◌, map, find, drop}
use Rattle.std.proofs.Common.{Some, None, Ok, refl, sym, ap, subst, ◌∙◌, arith, IsPermutation}
use Rattle.std.specs.Prelude.{bytes_eq}
use Rattle.std.proofs.lemmas.Bool.Decides.{nat_tests}
use Rattle.std.proofs.lemmas.List.Sorted.{IsPermutation-map, IsPermutation-trans}
use Rattle.sqlite.specs.declared.types.Value.TheVariants.{Int}
use Rattle.sqlite_value.specs.Order.{Row}
use Rattle.sqlite_trees.specs.Tree.{put_row, without_rowid}
use Rattle.std.specs.List.{AllByRecursion}
use Rattle.sqlite_trees.specs.declared.store.Store.{Ghosts}
use Rattle.sqlite_rules.specs.Edit.{next_rowid}
use Rattle.sqlite.specs.State.{State, Executes}
use Rattle.sqlite.specs.Held.{Held, state}
use Rattle.permit_base.specs.declared.words.Edition.TheVariants.{Second}
use Rattle.permit_model.specs.Caller.{Party}
use Rattle.permit_model.specs.Parcels.{Parcel, Interest}
use Rattle.permit_model.specs.Tables.{Desk, State as FileState, FileRow, Paper, Tables}
use Rattle.permit_store.specs.Changes.{given_to, with_state, closed_by}
use Rattle.permit_sql_rows.specs.Schema.{IsSecond, upgrade_tree}
use Rattle.permit_sql_rows.specs.Rows.{int, party_row, parcel_row, file_row, shown_party, shown_parcel, shown_file, shown_interest, shown_paper, row_params}
use Rattle.permit_sql_rows.specs.Kept.{papers_counted, IsNamed, AreKeyed, AreInTrees, Keeps}
use Rattle.permit_sql_statements.specs.declared.texts.TheConstants.{WRITE_DESK, ADD_PARTY, ADD_PARCEL, ADD_INTEREST, ADD_FILE, ADD_PAPER, SET_OWNER, WRITE_FILE}
use Rattle.permit_sql_statements.specs.declared.texts.TheConstants.{CLOSE_NOTICE}
use Rattle.permit_sql_statements.specs.Statements.{Ran, desk_statement}
use Rattle.permit_sql_statements.proofs.Permuted.{put_fresh, put_more, put_changed, key_free, not_found, only_found, append_any}
use Rattle.permit_sql_statements.proofs.Writes.{sets_desk, adds_party, adds_parcel, adds_interest, adds_file, adds_paper, sets_owner, sets_file}
use Rattle.permit_sql_statements.proofs.Closing.{apart_put, notice_set}
use Rattle.permit_sql_statements.proofs.Keeping.{Apart, second_after, lower, counted_here, keeps_papers, keyed_paper, keeps_desk, keeps_parties, keeps_parcels}
use Rattle.permit_sql_statements.proofs.Keeping.{keeps_interests, keeps_files, keyed_desk, keyed_interests, keyed_party, keyed_parcel, keyed_owner, keyed_file}
use Rattle.permit_sql_statements.proofs.Keeping.{keyed_row}

-- the desk is set last
ended : (mid last : State) (count : ℕ) (t : Tables) (d : Desk) → t.desk.files ≤ d.files → d.edition ≡ t.desk.edition → t.desk.edition ≡ Second →
    IsSecond mid.now.schema → AreInTrees t (upgrade_tree mid.now.schema) mid.now.trees → AreKeyed t →
    Executes WRITE_DESK.now (int d.last ∷ int d.parties ∷ int d.parcels ∷ int d.files ∷ []) mid last (Ok count)
    → Keeps (record t { desk = d }) last.now
ended mid last count t d more same now schema rows keyed h =
    let it = sets_desk schema.order mid last count schema.is t.desk d same rows.desk h in
    record {
      schema = second_after mid.now last.now schema it.0.schema;
      now = same ∙ now;
      keyed = keyed_desk t keyed d more same;
      rows = keeps_desk mid.now last.now t schema rows d it.0 it.1;
    }

pub found_number : {X : Type 0} (key : X → ℕ) (id : ℕ) (xs : List X) (x : X) → find (λ y. eqb (key y) id) xs ≡ Some x → key x ≡ id
found_number key id [] x e = absurd cc
found_number {X} key id (y ∷ ys) x e = go (eqb (key y) id) refl e (found_number key id ys x)
  where
    some : {A : Type 0} {a b : A} → Some a ≡ Some b → a ≡ b
    some e = cc

    go : (b : Bool) → eqb (key y) id ≡ b → cond b (Some y) (find (λ z. eqb (key z) id) ys) ≡ Some x → (find (λ z. eqb (key z) id) ys ≡ Some x → key x ≡ id) →
        key x ≡ id
    go true is e more = let same : key y ≡ id = grind (arith, nat_tests) in ap key (sym (some e)) ∙ same
    go false is e more = more e

-- a file's row is set
pub row_set : (old new : State) (count : ℕ) (t : Tables) (k : Keeps t old.now) (id : ℕ) (s : FileState) (f : FileRow) →
    find (λ q. eqb q.id id) t.files ≡ Some f → s.parcel ≡ f.state.parcel → s.applicant ≡ f.state.applicant
    → f.state.papers ≤ s.papers → IsNamed t.upgrade id s → Executes WRITE_FILE.now (row_params id s) old new (Ok count) →
    Keeps (record t { files = map (with_state id s) t.files }) new.now
row_set old new count t k id s f found parcel applicant kept named h =
    let only = only_found (λ (q : FileRow). eqb q.id id) t.files f found (k.keyed.files id) in
    let number = found_number (λ (q : FileRow). q.id) id t.files f found in
    let first = sets_file k.schema.order old new count k.schema.is t k id s f only number parcel applicant h in
    let xs = map (with_state id s) t.files in
    let here : with_state id s f ≡ record f { state = s } = set number in
    let there = put_changed (λ (q : FileRow). q.id) file_row (λ q. refl) id (with_state id s) f t.files (old.now.trees 7)
    (λ y apart. ap (λ c. cond c (record y { state = s }) y) apart) (ap (λ (q : FileRow). q.id) here ∙ number) only k.rows.files in
    let row = subst (IsPermutation (map file_row xs)) (ap (λ q. put_row (file_row q) (without_rowid (pos id) (old.now.trees 7))) here ∙ sym first.1) there in
    record {
      schema = second_after old.now new.now k.schema first.0.schema;
      now = k.now;
      keyed = keyed_row t k.keyed id s f only kept named;
      rows = keeps_files old.now new.now t k.schema k.rows xs first.0 row;
    }
  where
    set : f.id ≡ id → with_state id s f ≡ record f { state = s }
    set e = let is : eqb f.id id ≡ true = grind (arith, nat_tests) in ap (λ c. cond c (record f { state = s }) f) is

-- a paper of a file, with the number after all of its papers
pub paper_added : (old new : State) (count : ℕ) (t : Tables) (k : Keeps t old.now) (p : Paper) →
    AllByRecursion (λ (x : Paper). x.number < p.number) (filter (λ (x : Paper). eqb x.file p.file) t.papers) → p.number ≤ papers_counted p.file t.files
    → Executes ADD_PAPER.now (shown_paper p) old new (Ok count) → Keeps (record t { papers = t.papers ++ p ∷ [] }) new.now
paper_added old new count t k p above low h =
    let first = adds_paper k.schema.order old new count k.schema.is p h in
    let xs = t.papers ++ p ∷ [] in
    let id = next_rowid (old.now.trees 8) in
    let made : Row = Int id ∷ shown_paper p in
    let put = IsPermutation-map (drop 1) _ _ (put_fresh made (old.now.trees 8) first.fresh) in
    let more = append_any (map shown_paper t.papers) (shown_paper p) (map (drop 1) (old.now.trees 8)) k.rows.papers in
    let there = subst (λ l. IsPermutation l (map (drop 1) (put_row made (old.now.trees 8)))) (sym (map_last t.papers)) (IsPermutation-trans _ _ _ more put) in
    let rows = keeps_papers old.now new.now t k.schema k.rows xs first.leaves (
      subst (λ r. IsPermutation (map shown_paper xs) (map (drop 1) r)) (sym first.row) there,
      subst Apart (sym first.row) (apart_put id (shown_paper p) (old.now.trees 8) first.fresh k.rows.apart),
    ) in
    record { schema = second_after old.now new.now k.schema first.leaves.schema; now = k.now; keyed = keyed_paper t k.keyed p above low; rows = rows }
  where
    map_last : (xs : List Paper) → map shown_paper (xs ++ p ∷ []) ≡ map shown_paper xs ++ shown_paper p ∷ []
    map_last [] = refl
    map_last (x ∷ xs) = ap (λ l. shown_paper x ∷ l) (map_last xs)

module _ {S : Type 0} (g : Ghosts S) (old last : Held S) (t : Tables) (k : Keeps t (state g old).now) (d : Desk)
    (more : t.desk.files ≤ d.files) (same_edition : d.edition ≡ t.desk.edition) where
  pub party_made : (p : Party) → find (λ q. bytes_eq q.digest p.digest) t.parties ≡ None →
      Ran g ((ADD_PARTY.now, shown_party p) ∷ desk_statement d ∷ []) old last → Keeps (record t { desk = d; parties = t.parties ++ p ∷ [] }) (state g last).now
  party_made p new ran =
      let one = ran in
      let two = one.3 in
      let begun = state g old in
      let a = state g one.0 in
      let b = state g two.0 in
      let first = adds_party k.schema.order begun a one.1 k.schema.is p one.2 in
      let xs = t.parties ++ p ∷ [] in
      let there = subst (IsPermutation (map party_row xs)) (sym first.row)
      (put_more (λ (q : Party). q.id) party_row (λ q. refl) p t.parties (begun.now.trees 1) first.fresh k.rows.parties) in
      let rows = keeps_parties begun.now a.now t k.schema k.rows xs first.leaves there in
      let keyed = keyed_party t k.keyed p (key_free (λ (q : Party). q.id) party_row (λ q. refl) p t.parties (begun.now.trees 1) first.fresh k.rows.parties)
      (not_found _ t.parties new) in
      let done = ended a b two.1 (record t { parties = xs }) d more same_edition k.now (second_after begun.now a.now k.schema first.leaves.schema) rows keyed two.2 in
      let same : (state g last).now ≡ b.now = ap (λ (h : Held _). (state g h).now) two.3 in
      subst (Keeps (record t { desk = d; parties = xs })) (sym same) done

  pub parcel_made : (p : Parcel) → find (λ q. bytes_eq q.lot p.lot) t.parcels ≡ None →
      Ran g ((ADD_PARCEL.now, shown_parcel p) ∷ desk_statement d ∷ []) old last → Keeps (record t { desk = d; parcels = t.parcels ++ p ∷ [] }) (state g last).now
  parcel_made p new ran =
      let one = ran in
      let two = one.3 in
      let begun = state g old in
      let a = state g one.0 in
      let b = state g two.0 in
      let first = adds_parcel k.schema.order begun a one.1 k.schema.is p one.2 in
      let xs = t.parcels ++ p ∷ [] in
      let there = subst (IsPermutation (map parcel_row xs)) (sym first.row)
      (put_more (λ (q : Parcel). q.id) parcel_row (λ q. refl) p t.parcels (begun.now.trees 3) first.fresh k.rows.parcels) in
      let rows = keeps_parcels begun.now a.now t k.schema k.rows xs first.leaves there in
      let keyed = keyed_parcel t k.keyed p (key_free (λ (q : Parcel). q.id) parcel_row (λ q. refl) p t.parcels (begun.now.trees 3) first.fresh k.rows.parcels)
      (not_found _ t.parcels new) in
      let done = ended a b two.1 (record t { parcels = xs }) d more same_edition k.now (second_after begun.now a.now k.schema first.leaves.schema) rows keyed two.2 in
      let same : (state g last).now ≡ b.now = ap (λ (h : Held _). (state g h).now) two.3 in
      subst (Keeps (record t { desk = d; parcels = xs })) (sym same) done

  pub owner_made : (id owner : ℕ) (p : Parcel) → find (λ q. eqb q.id id) t.parcels ≡ Some p →
      Ran g ((SET_OWNER.now, int id ∷ int owner ∷ []) ∷ desk_statement d ∷ []) old last →
      Keeps (record t { desk = d; parcels = map (given_to id owner) t.parcels }) (state g last).now
  owner_made id owner p found ran =
      let one = ran in
      let two = one.3 in
      let begun = state g old in
      let a = state g one.0 in
      let b = state g two.0 in
      let only = only_found (λ (q : Parcel). eqb q.id id) t.parcels p found (k.keyed.parcels id) in
      let number = found_number (λ (q : Parcel). q.id) id t.parcels p found in
      let first = sets_owner k.schema.order begun a one.1 k.schema.is t k id owner p only number one.2 in
      let xs = map (given_to id owner) t.parcels in
      let here : given_to id owner p ≡ record p { owner = owner } = given number in
      let there = put_changed (λ (q : Parcel). q.id) parcel_row (λ q. refl) id (given_to id owner) p t.parcels (begun.now.trees 3)
      (λ y apart. ap (λ c. cond c (record y { owner = owner }) y) apart) (ap (λ (q : Parcel). q.id) here ∙ number) only k.rows.parcels in
      let row = subst (IsPermutation (map parcel_row xs)) (ap (λ q. put_row (parcel_row q) (without_rowid (pos id) (begun.now.trees 3))) here
      ∙ sym first.1) there in
      let rows = keeps_parcels begun.now a.now t k.schema k.rows xs first.0 row in
      let done = ended a b two.1 (record t { parcels = xs }) d more same_edition k.now (second_after begun.now a.now k.schema first.0.schema) rows (keyed_owner t k.keyed id owner) two.2 in
      let same : (state g last).now ≡ b.now = ap (λ (h : Held _). (state g h).now) two.3 in
      subst (Keeps (record t { desk = d; parcels = xs })) (sym same) done
    where
      given : p.id ≡ id → given_to id owner p ≡ record p { owner = owner }
      given e = let is : eqb p.id id ≡ true = grind (arith, nat_tests) in ap (λ c. cond c (record p { owner = owner }) p) is

  pub interest_made : (i : Interest) → Ran g ((ADD_INTEREST.now, shown_interest i) ∷ desk_statement d ∷ []) old last →
      Keeps (record t { desk = d; interests = t.interests ++ i ∷ [] }) (state g last).now
  interest_made i ran =
      let one = ran in
      let two = one.3 in
      let begun = state g old in
      let a = state g one.0 in
      let b = state g two.0 in
      let first = adds_interest k.schema.order begun a one.1 k.schema.is i one.2 in
      let xs = t.interests ++ i ∷ [] in
      let made : Row = Int (next_rowid (begun.now.trees 5)) ∷ shown_interest i in
      let put = IsPermutation-map (drop 1) _ _ (put_fresh made (begun.now.trees 5) first.fresh) in
      let shown = append_any (map shown_interest t.interests) (shown_interest i) (map (drop 1) (begun.now.trees 5)) k.rows.interests in
      let there = subst (λ l. IsPermutation l (map (drop 1) (put_row made (begun.now.trees 5)))) (sym (map_last t.interests))
      (IsPermutation-trans _ _ _ shown put) in
      let rows = keeps_interests begun.now a.now t k.schema k.rows xs first.leaves
      (subst (λ r. IsPermutation (map shown_interest xs) (map (drop 1) r)) (sym first.row) there) in
      let done = ended a b two.1 (record t { interests = xs }) d more same_edition k.now (second_after begun.now a.now k.schema first.leaves.schema) rows (keyed_interests t k.keyed xs) two.2 in
      let same : (state g last).now ≡ b.now = ap (λ (h : Held _). (state g h).now) two.3 in
      subst (Keeps (record t { desk = d; interests = xs })) (sym same) done
    where
      map_last : (xs : List Interest) → map shown_interest (xs ++ i ∷ []) ≡ map shown_interest xs ++ shown_interest i ∷ []
      map_last [] = refl
      map_last (x ∷ xs) = ap (λ l. shown_interest x ∷ l) (map_last xs)

  pub file_made : (f : FileRow) → IsNamed t.upgrade f.id f.state → Ran g ((ADD_FILE.now, shown_file f) ∷ desk_statement d ∷ []) old last →
      Keeps (record t { desk = d; files = t.files ++ f ∷ [] }) (state g last).now
  file_made f named ran =
      let one = ran in
      let two = one.3 in
      let begun = state g old in
      let a = state g one.0 in
      let b = state g two.0 in
      let first = adds_file k.schema.order begun a one.1 k.schema.is f one.2 in
      let xs = t.files ++ f ∷ [] in
      let there = subst (IsPermutation (map file_row xs)) (sym first.row)
      (put_more (λ (q : FileRow). q.id) file_row (λ q. refl) f t.files (begun.now.trees 7) first.fresh k.rows.files) in
      let rows = keeps_files begun.now a.now t k.schema k.rows xs first.leaves there in
      let keyed = keyed_file t k.keyed f (key_free (λ (q : FileRow). q.id) file_row (λ q. refl) f t.files (begun.now.trees 7) first.fresh k.rows.files) named in
      let done = ended a b two.1 (record t { files = xs }) d more same_edition k.now (second_after begun.now a.now k.schema first.leaves.schema) rows keyed two.2 in
      let same : (state g last).now ≡ b.now = ap (λ (h : Held _). (state g h).now) two.3 in
      subst (Keeps (record t { desk = d; files = xs })) (sym same) done

  pub row_made : (id : ℕ) (s : FileState) (f : FileRow) → find (λ q. eqb q.id id) t.files ≡ Some f → s.parcel ≡ f.state.parcel →
      s.applicant ≡ f.state.applicant → f.state.papers ≤ s.papers → IsNamed t.upgrade id s
      → Ran g ((WRITE_FILE.now, row_params id s) ∷ desk_statement d ∷ []) old last → Keeps (record t { desk = d; files = map (with_state id s) t.files }) (state g last).now
  row_made id s f found parcel applicant kept named ran =
      let one = ran in
      let two = one.3 in
      let begun = state g old in
      let a = state g one.0 in
      let b = state g two.0 in
      let first = row_set begun a one.1 t k id s f found parcel applicant kept named one.2 in
      let xs = map (with_state id s) t.files in
      let done = ended a b two.1 (record t { files = xs }) d more same_edition k.now first.schema first.rows first.keyed two.2 in
      let same : (state g last).now ≡ b.now = ap (λ (h : Held _). (state g h).now) two.3 in
      subst (Keeps (record t { desk = d; files = xs })) (sym same) done

  pub paper_made : (id : ℕ) (s : FileState) (f : FileRow) (p : Paper) → find (λ q. eqb q.id id) t.files ≡ Some f → s.parcel ≡ f.state.parcel →
      s.applicant ≡ f.state.applicant → s.papers ≡ f.state.papers + 1 → IsNamed t.upgrade id s
      → p.file ≡ id → p.number ≡ s.papers
      → Ran g ((WRITE_FILE.now, row_params id s) ∷ (ADD_PAPER.now, shown_paper p) ∷ desk_statement d ∷ []) old last →
      Keeps (record t { desk = d; files = map (with_state id s) t.files; papers = t.papers ++ p ∷ [] }) (state g last).now
  paper_made id s f p found parcel applicant kept named file number ran =
      let one = ran in
      let two = one.3 in
      let three = two.3 in
      let begun = state g old in
      let a = state g one.0 in
      let b = state g two.0 in
      let c = state g three.0 in
      let fs = map (with_state id s) t.files in
      let t1 = record t { files = fs } in
      let first = row_set begun a one.1 t k id s f found parcel applicant (omega (arith, kept)) named one.2 in
      let count : papers_counted id t.files ≡ f.state.papers = ap (λ o. unwrap_or (option_map (λ (r : FileRow). r.state.papers) o) 0) found in
      let below = subst (λ n. AllByRecursion (λ (x : Paper). x.number ≤ n) (filter (λ (x : Paper). eqb x.file id) t.papers)) count (k.keyed.counted id) in
      let above = subst (λ n. AllByRecursion (λ (x : Paper). x.number < p.number) (filter (λ (x : Paper). eqb x.file n) t.papers)) (sym file)
      (lower f.state.papers p.number _ (omega (arith, kept, number)) below) in
      let now : papers_counted p.file fs ≡ s.papers = ap (λ n. papers_counted n fs) file ∙ counted_here id s f t.files found in
      let second = paper_added a b two.1 t1 first p above (omega (arith, number, now)) two.2 in
      let pp = t.papers ++ p ∷ [] in
      let done = ended b c three.1 (record t { files = fs; papers = pp }) d more same_edition k.now second.schema second.rows second.keyed three.2 in
      let same : (state g last).now ≡ c.now = ap (λ (h : Held _). (state g h).now) three.3 in
      subst (Keeps (record t { desk = d; files = fs; papers = pp })) (sym same) done

  pub notice_closed : (id number : ℕ) (s : FileState) (f : FileRow) → find (λ q. eqb q.id id) t.files ≡ Some f → s.parcel ≡ f.state.parcel →
      s.applicant ≡ f.state.applicant → f.state.papers ≤ s.papers → IsNamed t.upgrade id s
      → Ran g ((WRITE_FILE.now, row_params id s) ∷ (CLOSE_NOTICE.now, int id ∷ int number ∷ []) ∷ desk_statement d ∷ []) old last →
      Keeps (record t { desk = d; files = map (with_state id s) t.files; papers = map (closed_by id number) t.papers }) (state g last).now
  notice_closed id number s f found parcel applicant kept named ran =
      let one = ran in
      let two = one.3 in
      let three = two.3 in
      let begun = state g old in
      let a = state g one.0 in
      let b = state g two.0 in
      let c = state g three.0 in
      let fs = map (with_state id s) t.files in
      let first = row_set begun a one.1 t k id s f found parcel applicant kept named one.2 in
      let second = notice_set a b two.1 (record t { files = fs }) first id number two.2 in
      let pp = map (closed_by id number) t.papers in
      let done = ended b c three.1 (record t { files = fs; papers = pp }) d more same_edition k.now second.schema second.rows second.keyed three.2 in
      let same : (state g last).now ≡ c.now = ap (λ (h : Held _). (state g h).now) three.3 in
      subst (Keeps (record t { desk = d; files = fs; papers = pp })) (sym same) done

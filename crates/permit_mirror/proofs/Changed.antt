-- An index that covers the tables, and has what a change needs, covers the tables with the change.
use Rattle.std.proofs.Common.{◌≡◌, ◌<◌, ℕ, ◌+◌, ◌%◌, ◌^◌, ◌==◌, Bool, true, false, cond, List, [], ◌∷◌, ◌++◌, length, map, find, inl, inr, refl, sym, ◌∙◌, ap, subst, arith, length-append}
use Rattle.std.specs.Prelude.{◌⊎◌, ◌&&◌, ◌||◌, IsTrue, Option, Some, None, option_map, is_some, nat_lt}
use Rattle.std.specs.List.{AllByRecursion}
use Rattle.std.proofs.lemmas.Bool.{eqb-true, ltb-true, and_parts, or_cases}
use Rattle.std.proofs.lemmas.Bool.Decides.{nat_tests}
use Rattle.std.proofs.lemmas.List.{length-map}
use Rattle.std.proofs.lemmas.Option.{same_Some}
use Rattle.std.proofs.lemmas.List.Folds.{list_any-append}
use Rattle.permit_base.specs.Limits.{most_records}
use Rattle.permit_model.specs.Codes.{is_edition}
use Rattle.permit_model.specs.Numbering.{IsNumberedFrom}
use Rattle.permit_model.specs.Parcels.{Parcel, Interest}
use Rattle.permit_model.specs.Tables.{State, FileRow, Tables}
use Rattle.permit_store.specs.Changes.{Fits, changed, given_to, with_state, suits_effect, suits_row}
use Rattle.permit_store.specs.declared.change.Change.{Change}
use Rattle.permit_store.specs.declared.change.Change.TheVariants.{NewParty, NewParcel, NewOwner, NewInterest, NewFile, NewRow}
use Rattle.permit_store.specs.declared.change.RowEffect.{RowEffect}
use Rattle.permit_mirror.specs.declared.index.Index.{Index}
use Rattle.permit_mirror.specs.declared.pairs.Pairs.{Pairs}
use Rattle.permit_mirror.specs.Index.{Advances, Covers, IsAhead, IsRelated, IsThere, Widens}
use Rattle.permit_mirror.specs.Pairs.{has, Grows}

-- ---- the parcels

-- the owner of a parcel among these
abbrev pub owner_among : ℕ → List Parcel → Option ℕ
owner_among parcel parcels = option_map (λ (p : Parcel). p.owner) (find (λ (p : Parcel). p.id == parcel) parcels)

last_owner : (y : Parcel) (parcel p : ℕ) (b : Bool) → (y.id == parcel) ≡ b → option_map (λ (p : Parcel). p.owner) (cond b (Some y) None) ≡ Some p →
    (y.id ≡ parcel) × (y.owner ≡ p)
last_owner y parcel p true at e = (eqb-true y.id parcel at, same_Some y.owner p e)
last_owner y parcel p false at e = cc

more_owner : (x : Parcel) (parcel p : ℕ) (b : Bool) (before after : Option Parcel) (here : Type 0)
    → (option_map (λ (p : Parcel). p.owner) after ≡ Some p → (option_map (λ (p : Parcel). p.owner) before ≡ Some p) ⊎ here)
    → option_map (λ (p : Parcel). p.owner) (cond b (Some x) after) ≡ Some p → (option_map (λ (p : Parcel). p.owner) (cond b (Some x) before) ≡ Some p) ⊎ here
more_owner x parcel p true before after here rest e = inl e
more_owner x parcel p false before after here rest e = rest e

-- an owner among one parcel more was an owner, or is that parcel's
owner_more : (parcels : List Parcel) (y : Parcel) (parcel p : ℕ) → owner_among parcel (parcels ++ y ∷ []) ≡ Some p →
    (owner_among parcel parcels ≡ Some p) ⊎ ((y.id ≡ parcel) × (y.owner ≡ p))
owner_more [] y parcel p e = inr (last_owner y parcel p (y.id == parcel) refl e)
owner_more (x ∷ parcels) y parcel p e =
    more_owner x parcel p (x.id == parcel) (find (λ (p : Parcel). p.id == parcel) parcels) (find (λ (p : Parcel). p.id == parcel) (parcels ++ y ∷ [])) _
    (owner_more parcels y parcel p) e

given_owner : (x : Parcel) (id owner parcel p : ℕ) (b c : Bool) (before after : Option Parcel) → (x.id == id) ≡ b → (x.id == parcel) ≡ c
    → (option_map (λ (p : Parcel). p.owner) after ≡ Some p → (option_map (λ (p : Parcel). p.owner) before ≡ Some p) ⊎ ((id ≡ parcel) × (owner ≡ p)))
    → option_map (λ (p : Parcel). p.owner) (cond ((cond b (record x { owner = owner }) x).id == parcel) (Some (cond b (record x { owner = owner }) x)) after) ≡ Some p
    → (option_map (λ (p : Parcel). p.owner) (cond c (Some x) before) ≡ Some p) ⊎ ((id ≡ parcel) × (owner ≡ p))
given_owner x id owner parcel p true true before after eb ec rest e =
    let h = ap (λ k. option_map (λ (p : Parcel). p.owner) (cond k (Some (record x { owner = owner })) after)) (sym ec) ∙ e in
    inr (sym (eqb-true x.id id eb) ∙ eqb-true x.id parcel ec, same_Some owner p h)
given_owner x id owner parcel p true false before after eb ec rest e =
    rest (ap (λ k. option_map (λ (p : Parcel). p.owner) (cond k (Some (record x { owner = owner })) after)) (sym ec) ∙ e)
given_owner x id owner parcel p false true before after eb ec rest e =
    inl (ap (λ k. option_map (λ (p : Parcel). p.owner) (cond k (Some x) after)) (sym ec) ∙ e)
given_owner x id owner parcel p false false before after eb ec rest e =
    rest (ap (λ k. option_map (λ (p : Parcel). p.owner) (cond k (Some x) after)) (sym ec) ∙ e)

-- an owner after a parcel was given was an owner, or is the one to whom it was given
owner_given : (parcels : List Parcel) (id owner parcel p : ℕ) → owner_among parcel (map (given_to id owner) parcels) ≡ Some p →
    (owner_among parcel parcels ≡ Some p) ⊎ ((id ≡ parcel) × (owner ≡ p))
owner_given [] id owner parcel p e = inl e
owner_given (x ∷ parcels) id owner parcel p e =
    given_owner x id owner parcel p (x.id == id) (x.id == parcel) (find (λ (p : Parcel). p.id == parcel) parcels)
    (find (λ (p : Parcel). p.id == parcel) (map (given_to id owner) parcels)) refl refl (owner_given parcels id owner parcel p) e

-- ---- the interests

interest_here : (i : Interest) (parcel p : ℕ) → (((i.parcel == parcel) && (i.party == p)) || false) ≡ true → (i.parcel ≡ parcel) × (i.party ≡ p)
interest_here i parcel p e = elim (or_cases ((i.parcel == parcel) && (i.party == p)) false e) [
  | inl h ↦ let both = and_parts (i.parcel == parcel) (i.party == p) h in (eqb-true i.parcel parcel both.0, eqb-true i.party p both.1)
  | inr h ↦ cc
]

-- ---- the files

numbered_more : (k : ℕ) (files : List FileRow) (row : FileRow) → IsNumberedFrom (λ (f : FileRow). f.id) k files → row.id ≡ k + length files →
    IsNumberedFrom (λ (f : FileRow). f.id) k (files ++ row ∷ [])
numbered_more k [] row numbered e = (omega (arith, e), tt)
numbered_more k (f ∷ files) row numbered e = (numbered.0, numbered_more (k + 1) files row numbered.1 (omega (arith, e)))

id_by : (b : Bool) (state : State) (f : FileRow) → (cond b (record f { state = state }) f).id ≡ f.id
id_by true state f = refl
id_by false state f = refl

numbered_states : (n k : ℕ) (state : State) (files : List FileRow) → IsNumberedFrom (λ (f : FileRow). f.id) k files →
    IsNumberedFrom (λ (f : FileRow). f.id) k (map (with_state n state) files)
numbered_states n k state [] numbered = tt
numbered_states n k state (f ∷ files) numbered = (id_by (f.id == n) state f ∙ numbered.0, numbered_states n (k + 1) state files numbered.1)

different_up : (a b : ℕ) → b < a → (a == b) ≡ false
different_up a b h = grind (arith, nat_tests)

-- no later file has the number
unchanged : (n k : ℕ) (state : State) (files : List FileRow) → n < k → IsNumberedFrom (λ (f : FileRow). f.id) k files → map (with_state n state) files ≡ files
unchanged n k state [] h numbered = refl
unchanged n k state (f ∷ files) h numbered =
    let before : n < f.id = omega (arith, h, numbered.0) in
    ap (λ b. cond b (record f { state = state }) f ∷ map (with_state n state) files) (different_up f.id n before)
    ∙ ap (λ rest. f ∷ rest) (unchanged n (k + 1) state files (omega (arith, h)) numbered.1)

parcel_kept : (t : Tables) (o : Option FileRow) (state : State) (effect : RowEffect) (row : FileRow) → suits_row t o state effect ≡ true → o ≡ Some row →
    state.parcel ≡ row.state.parcel
parcel_kept t None state effect row e found = cc
parcel_kept t (Some f) state effect row e found =
    let three = and_parts _ (suits_effect t f.state state effect) e in
    let two = and_parts _ (is_edition state.edition f.state.edition) three.0 in
    let one = and_parts (state.parcel == f.state.parcel) (state.applicant == f.state.applicant) two.0 in
    let same : f ≡ row = cc in
    eqb-true state.parcel f.state.parcel one.0 ∙ ap (λ (r : FileRow). r.state.parcel) same

-- ---- the index

module _ (i j : Index) (of : Grows i.files_of j.files_of) (on : Grows i.files_on j.files_on) where
  related_still : (n : ℕ) (s : State) → IsRelated i n s → IsRelated j n s
  related_still n s r = record {
    applicant = λ p e. of p n (r.applicant p e);
    contractor = λ p e. of p n (r.contractor p e);
    reviewer = λ p e. of p n (r.reviewer p e);
    inspector = λ p e. of p n (r.inspector p e);
  }

  pub there_still : (n : ℕ) (s : State) → IsThere i n s → IsThere j n s
  there_still n s there = record { placed = on s.parcel n there.placed; related = related_still n s there.related }

  all_still : (files : List FileRow) → AllByRecursion (λ (f : FileRow). IsThere i f.id f.state) files → AllByRecursion (λ (f : FileRow). IsThere j f.id f.state) files
  all_still [] all = tt
  all_still (f ∷ files) all = (there_still f.id f.state all.0, all_still files all.1)

-- what an index covers is covered by one that has it all
pub covers_still : (i j : Index) (t : Tables) → Widens i j → Covers i t → Covers j t
covers_still i j t w c = record {
  parcels = c.parcels ∙ sym w.parcels;
  filed = c.filed ∙ sym w.files;
  counted = c.counted ∙ sym w.files;
  numbered = c.numbered;
  there = all_still i j w.of w.on t.files c.there;
  owners = λ parcel p e. w.at parcel p (c.owners parcel p e);
  interests = λ parcel p e. w.at parcel p (c.interests parcel p e);
}

module _ (j : Index) where
  -- each of these files is there
  abbrev pub AreThere : List FileRow → Type 0
  AreThere files = AllByRecursion (λ (f : FileRow). IsThere j f.id f.state) files

  pub there_more : (files : List FileRow) (row : FileRow) → AreThere files → IsThere j row.id row.state → AreThere (files ++ row ∷ [])
  there_more [] row all one = (one, tt)
  there_more (f ∷ files) row all one = (all.0, there_more files row all.1 one)

  there_by : (n k : ℕ) (state : State) (f : FileRow) (files : List FileRow) (b : Bool) → (f.id == n) ≡ b → IsNumberedFrom (λ (f : FileRow). f.id) k (f ∷ files)
      → AreThere (f ∷ files) → IsRelated j n state
      → ((row : FileRow) → cond b (Some f) (find (λ (f : FileRow). f.id == n) files) ≡ Some row → state.parcel ≡ row.state.parcel)
      → (((row : FileRow) → find (λ (f : FileRow). f.id == n) files ≡ Some row → state.parcel ≡ row.state.parcel) → AreThere (map (with_state n state) files))
      → AreThere (cond b (record f { state = state }) f ∷ map (with_state n state) files)
  there_by n k state f files true at numbered all related same rest =
      let here : f.id ≡ n = eqb-true f.id n at in
      let parcel : state.parcel ≡ f.state.parcel = same f refl in (
        record {
          placed = subst (λ m. IsTrue (has j.files_on m f.id)) (sym parcel) all.0.placed;
          related = subst (λ m. IsRelated j m state) (sym here) related;
        },
        subst AreThere (sym (unchanged n (k + 1) state files (omega (arith, here, numbered.0)) numbered.1)) all.1,
      )
  there_by n k state f files false at numbered all related same rest = (all.0, rest same)

  -- the files, with the new state of one that stays on its parcel
  pub there_states : (n k : ℕ) (state : State) (files : List FileRow) → IsNumberedFrom (λ (f : FileRow). f.id) k files → AreThere files → IsRelated j n state
      → ((row : FileRow) → find (λ (f : FileRow). f.id == n) files ≡ Some row → state.parcel ≡ row.state.parcel) → AreThere (map (with_state n state) files)
  there_states n k state [] numbered all related same = tt
  there_states n k state (f ∷ files) numbered all related same =
      there_by n k state f files (f.id == n) refl numbered all related same (there_states n (k + 1) state files numbered.1 all.1 related)

-- ---- each change

grows_same : (a b : Pairs) → b ≡ a → Grows a b
grows_same a b e = λ k n h. subst (λ (x : Pairs). IsTrue (has x k n)) (sym e) h

counts_on : (n m k : ℕ) → n ≡ m → n < most_records → k ≡ (m + 1) % 2 ^ 32 → n + 1 ≡ k
counts_on n m k e few c = omega arith

pub covers_changed : (i j : Index) (t : Tables) (change : Change) (day : ℕ) → Covers i t → IsAhead i change → Advances change i j → Fits t change day →
    Covers j (changed t change day)
covers_changed i j t (NewParty name role digest) day c ahead a fits = record {
  parcels = c.parcels ∙ sym a.parcels;
  filed = c.filed ∙ sym a.files;
  counted = c.counted ∙ sym a.files;
  numbered = c.numbered;
  there = all_still i j (grows_same _ _ a.of) (grows_same _ _ a.on) t.files c.there;
  owners = λ parcel p e. grows_same _ _ a.at parcel p (c.owners parcel p e);
  interests = λ parcel p e. grows_same _ _ a.at parcel p (c.interests parcel p e);
}
covers_changed i j t (NewParcel lot address owner) day c ahead a fits =
    let two = and_parts _ (is_some (find (λ p. p.id == owner) t.parties)) fits.suits in
    let few = ltb-true t.desk.parcels most_records (and_parts (nat_lt t.desk.parcels most_records) _ two.0).0 in
    record {
      parcels = counts_on t.desk.parcels i.parcels j.parcels c.parcels few a.parcels;
      filed = c.filed ∙ sym a.files;
      counted = c.counted ∙ sym a.files;
      numbered = c.numbered;
      there = all_still i j (grows_same _ _ a.of) (grows_same _ _ a.on) t.files c.there;
      owners = λ parcel p e. grows_same _ _ a.at parcel p (elim (owner_more t.parcels (record { id = t.desk.parcels + 1; lot = lot.now; address = address.now; owner = owner }) parcel p e) [
        | inl h ↦ c.owners parcel p h
        | inr h ↦ subst (λ q. IsTrue (has i.people_at parcel q)) h.1 (subst (λ n. IsTrue (has i.people_at n owner)) (ap (λ n. n + 1) (sym c.parcels) ∙ h.0) ahead)
      ]);
      interests = λ parcel p e. grows_same _ _ a.at parcel p (c.interests parcel p e);
    }
covers_changed i j t (NewOwner id owner) day c ahead a fits = record {
  parcels = c.parcels ∙ sym a.parcels;
  filed = c.filed ∙ sym a.files;
  counted = c.counted ∙ sym a.files;
  numbered = c.numbered;
  there = all_still i j (grows_same _ _ a.of) (grows_same _ _ a.on) t.files c.there;
  owners = λ parcel p e. grows_same _ _ a.at parcel p (elim (owner_given t.parcels id owner parcel p e) [
    | inl h ↦ c.owners parcel p h
    | inr h ↦ subst (λ q. IsTrue (has i.people_at parcel q)) h.1 (subst (λ n. IsTrue (has i.people_at n owner)) h.0 ahead)
  ]);
  interests = λ parcel p e. grows_same _ _ a.at parcel p (c.interests parcel p e);
}
covers_changed i j t (NewInterest id party) day c ahead a fits = record {
  parcels = c.parcels ∙ sym a.parcels;
  filed = c.filed ∙ sym a.files;
  counted = c.counted ∙ sym a.files;
  numbered = c.numbered;
  there = all_still i j (grows_same _ _ a.of) (grows_same _ _ a.on) t.files c.there;
  owners = λ parcel p e. grows_same _ _ a.at parcel p (c.owners parcel p e);
  interests = λ parcel p e.
      let new : Interest = record { parcel = id; party = party } in
      let two = sym (list_any-append (λ (i : Interest). (i.parcel == parcel) && (i.party == p)) t.interests (new ∷ [])) ∙ e in
      grows_same _ _ a.at parcel p (elim (or_cases _ _ two) [
        | inl h ↦ c.interests parcel p h
        | inr h ↦
            let here = interest_here new parcel p h in
            subst (λ q. IsTrue (has i.people_at parcel q)) here.1 (subst (λ n. IsTrue (has i.people_at n party)) here.0 ahead)
      ]);
}
covers_changed i j t (NewFile state valuation description) day c ahead a fits =
    let three = and_parts _ (is_some (find (λ p. p.id == state.applicant) t.parties)) fits.suits in
    let two = and_parts _ (is_some (find (λ p. p.id == state.parcel) t.parcels)) three.0 in
    let few = ltb-true t.desk.files most_records (and_parts (nat_lt t.desk.files most_records) _ two.0).0 in
    let new : FileRow = record { id = t.desk.files + 1; state = state; valuation = valuation; description = description.now } in
    let next : t.desk.files + 1 ≡ j.files = counts_on t.desk.files i.files j.files c.filed few a.files in
    record {
      parcels = c.parcels ∙ sym a.parcels;
      filed = next;
      counted = omega (arith, length-append t.files (new ∷ []), next, c.filed, c.counted);
      numbered = numbered_more 1 t.files new c.numbered (omega (arith, c.filed, c.counted));
      there = there_more j t.files new (all_still i j (grows_same _ _ a.of) (grows_same _ _ a.on) t.files c.there)
          (there_still i j (grows_same _ _ a.of) (grows_same _ _ a.on) new.id state (subst (λ n. IsThere i (n + 1) state) (sym c.filed) ahead));
      owners = λ parcel p e. grows_same _ _ a.at parcel p (c.owners parcel p e);
      interests = λ parcel p e. grows_same _ _ a.at parcel p (c.interests parcel p e);
    }
covers_changed i j t (NewRow file state effect) day c ahead a fits = record {
  parcels = c.parcels ∙ sym a.parcels;
  filed = c.filed ∙ sym a.files;
  counted = length-map t.files (with_state file state) ∙ c.counted ∙ sym a.files;
  numbered = numbered_states file 1 state t.files c.numbered;
  there = there_states j file 1 state t.files c.numbered (all_still i j (grows_same _ _ a.of) (grows_same _ _ a.on) t.files c.there)
      (related_still i j (grows_same _ _ a.of) (grows_same _ _ a.on) file state ahead)
      (λ row found. parcel_kept t (find (λ (f : FileRow). f.id == file) t.files) state effect row fits.suits found);
  owners = λ parcel p e. grows_same _ _ a.at parcel p (c.owners parcel p e);
  interests = λ parcel p e. grows_same _ _ a.at parcel p (c.interests parcel p e);
}

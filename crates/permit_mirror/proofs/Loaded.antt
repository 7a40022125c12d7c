-- An index to which all of the tables was added covers them.
use Rattle.std.proofs.Common.{◌≡◌, ◌<◌, ◌≤◌, ℕ, ◌+◌, ◌==◌, Bool, true, false, cond, List, [], ◌∷◌, length, find, inl, inr, refl, sym, ◌∙◌, ap, subst, arith}
use Rattle.std.specs.Prelude.{◌⊎◌, IsTrue, Some, option_map}
use Rattle.std.proofs.lemmas.Bool.{eqb-true, eq-eqb}
use Rattle.std.proofs.lemmas.Bool.Decides.{nat_tests}
use Rattle.permit_model.specs.Numbering.{IsNumberedFrom}
use Rattle.permit_model.specs.Parcels.{Parcel}
use Rattle.permit_model.specs.Routes.{owner_in, has_interest_in}
use Rattle.permit_model.specs.Sound.{IsSoundTables}
use Rattle.permit_model.specs.Tables.{FileRow, Tables}
use Rattle.permit_store.proofs.Loading.{files_numbered, files_counted, parcels_numbered, parcels_counted}
use Rattle.permit_mirror.specs.declared.index.Index.{Index}
use Rattle.permit_mirror.specs.Index.{Covers, IsThere, Widens}
use Rattle.permit_mirror.specs.Pairs.{has}
use Rattle.permit_mirror.proofs.Changed.{AreThere, owner_among, there_still}

pub up_to : (n m : ℕ) → n ≤ m + 1 → (n ≤ m) ⊎ (n ≡ m + 1)
up_to n m h = by (n == m + 1) refl
  where
    by : (b : Bool) → (n == m + 1) ≡ b → (n ≤ m) ⊎ (n ≡ m + 1)
    by true e = inr (eqb-true n (m + 1) e)
    by false e = inl (grind (arith, nat_tests))

pub widens_on : (i j k : Index) → Widens i j → Widens j k → Widens i k
widens_on i j k v w = record {
  of = λ key n h. w.of key n (v.of key n h);
  on = λ key n h. w.on key n (v.on key n h);
  at = λ key n h. w.at key n (v.at key n h);
  parcels = w.parcels ∙ v.parcels;
  files = w.files ∙ v.files;
}

-- one file more is there
pub there_next : (j k : Index) (t : Tables) (place id : ℕ) → Widens j k → id ≡ place + 1
    → ((n : ℕ) (row : FileRow) → 0 < n → n ≤ place → find (λ (f : FileRow). f.id == n) t.files ≡ Some row → IsThere j n row.state)
    → ((row : FileRow) → find (λ (f : FileRow). f.id == id) t.files ≡ Some row → IsThere k id row.state)
    → (n : ℕ) (row : FileRow) → 0 < n → n ≤ place + 1 → find (λ (f : FileRow). f.id == n) t.files ≡ Some row → IsThere k n row.state
there_next j k t place id w e before one n row low high found = elim (up_to n place high) [
  | inl h ↦ there_still j k w.of w.on n row.state (before n row low h found)
  | inr h ↦
      let same : id ≡ n = e ∙ sym h in
      subst (λ m. IsThere k m row.state) same (one row (ap (λ m. find (λ (f : FileRow). f.id == m) t.files) same ∙ found))
]

within_by : (x : Parcel) (parcels : List Parcel) (k parcel p : ℕ) (b : Bool) → (x.id == parcel) ≡ b → x.id ≡ k
    → (owner_among parcel parcels ≡ Some p → (k + 1 ≤ parcel) × (parcel < k + 1 + length parcels))
    → option_map (λ (p : Parcel). p.owner) (cond b (Some x) (find (λ (p : Parcel). p.id == parcel) parcels)) ≡ Some p
    → (k ≤ parcel) × (parcel < k + (length parcels + 1))
within_by x parcels k parcel p true at e rest found =
    let here : x.id ≡ parcel = eqb-true x.id parcel at in
    (omega (arith, here, e), omega (arith, here, e))
within_by x parcels k parcel p false at e rest found =
    let later = rest found in
    (omega (arith, later.0), omega (arith, later.1))

-- a parcel that has an owner is one of those that are numbered
found_within : (parcels : List Parcel) (k parcel p : ℕ) → IsNumberedFrom (λ (p : Parcel). p.id) k parcels → owner_among parcel parcels ≡ Some p →
    (k ≤ parcel) × (parcel < k + length parcels)
found_within [] k parcel p numbered e = cc
found_within (x ∷ parcels) k parcel p numbered e =
    let both = within_by x parcels k parcel p (x.id == parcel) refl numbered.0 (found_within parcels (k + 1) parcel p numbered.1) e in
    (both.0, omega (arith, both.1))

different : (a b : ℕ) → a < b → (a == b) ≡ false
different a b h = grind (arith, nat_tests)

-- each of the numbered files is there
all_found : (j : Index) (k : ℕ) (files : List FileRow) → IsNumberedFrom (λ (f : FileRow). f.id) k files
    → ((n : ℕ) (row : FileRow) → k ≤ n → n < k + length files → find (λ (f : FileRow). f.id == n) files ≡ Some row → IsThere j n row.state) → AreThere j files
all_found j k [] numbered there = tt
all_found j k (f ∷ files) numbered there = (
  there f.id f (omega (arith, numbered.0)) (omega (arith, numbered.0)) (ap (λ b. cond b (Some f) (find (λ (g : FileRow). g.id == f.id) files)) (eq-eqb f.id f.id refl)),
  all_found j (k + 1) files numbered.1
      (λ n row low high found. there n row (omega (arith, low)) (omega (arith, high))
      (ap (λ b. cond b (Some f) (find (λ (g : FileRow). g.id == n) files)) (different f.id n (omega (arith, low, numbered.0))) ∙ found)),
)

-- owners, then interests, then files were added
pub covers_loaded : (i owned interested j : Index) (t : Tables) → IsSoundTables t → i.parcels ≡ t.desk.parcels → i.files ≡ t.desk.files → Widens i owned
    → Widens owned interested → Widens interested j
    → ((parcel p : ℕ) → 0 < parcel → parcel ≤ i.parcels → owner_in t parcel ≡ Some p → IsTrue (has owned.people_at parcel p))
    → ((parcel p : ℕ) → IsTrue (has_interest_in t parcel p) → IsTrue (has interested.people_at parcel p))
    → ((n : ℕ) (row : FileRow) → 0 < n → n ≤ interested.files → find (λ (f : FileRow). f.id == n) t.files ≡ Some row → IsThere j n row.state) → Covers j t
covers_loaded i owned interested j t sound ep ef u v w owners interests there =
    let filed : t.desk.files ≡ j.files = sym (w.files ∙ v.files ∙ u.files ∙ ef) in
    record {
      parcels = sym (w.parcels ∙ v.parcels ∙ u.parcels ∙ ep);
      filed = filed;
      counted = sym (files_counted t sound) ∙ filed;
      numbered = files_numbered t sound;
      there = all_found j 1 t.files (files_numbered t sound)
          (λ n row low high found. there n row (omega (arith, low)) (omega (arith, high, files_counted t sound, w.files, filed)) found);
      owners = λ parcel p e.
          let at = found_within t.parcels 1 parcel p (parcels_numbered t sound) e in
          w.at parcel p (v.at parcel p (owners parcel p (omega (arith, at.0)) (omega (arith, at.1, ep, parcels_counted t sound)) e));
      interests = λ parcel p e. w.at parcel p (interests parcel p e);
    }

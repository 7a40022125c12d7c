-- What the tallies say once papers were read.
use Rattle.std.proofs.Common.{◌≡◌, inl, inr, ℕ, zero, suc, ◌+◌, ◌-◌, ◌≤◌, Bool, true, false, cond, not, eqb, List, [], ◌∷◌, map, filter, length, refl, sym}
use Rattle.std.proofs.Common.{ap, ap₂, subst, ◌∙◌, arith, true≢false}
use Rattle.std.specs.Prelude.{◌&&◌, ◌||◌, ◌==◌, nat_lt, nat_le, if◌then◌else◌, Option, None, Some, slice_get, slice_set}
use Rattle.std.specs.List.{list_all, AllByRecursion}
use Rattle.std.proofs.lemmas.Bool.{cases_Bool, and_parts, and_from, eqb-true, eqb-false, eq-eqb, ne_eqb, lt-ltb, ltb-true}
use Rattle.std.proofs.lemmas.Bool.Decides.{nat_tests}
use Rattle.permit_model.specs.Numbering.{is_numbered_from}
use Rattle.permit_model.specs.Tables.{Paper}
use Rattle.permit_model.specs.Sound.{never_fall}
use Rattle.permit_sql.specs.Tested.{fits_paper, is_next, tally_after, next_tally, is_ended, are_left}
use Rattle.permit_sql.specs.declared.tally.Tally.{Tally}

-- ---- one file

abbrev pub open_in : List Paper → List Paper
open_in = filter (λ p. p.is_open)

-- one open paper more is read
open_more : (n m : ℕ) → nat_lt 0 n ≡ true → eqb n (suc m) ≡ eqb (n - 1) m
open_more n m low =
    let some = ltb-true 0 n low in
    elim (cases_Bool (eqb (n - 1) m)) [
      | inl same ↦ let e = eqb-true (n - 1) m same in eq-eqb n (suc m) (omega (arith, some, e)) ∙ sym same
      | inr other ↦ ne_eqb n (suc m) (λ e. eqb-false (n - 1) m other (omega (arith, some, e))) ∙ sym other
    ]

open_read : (t : Tally) (p : Paper) (ps : List Paper) (b : Bool) → (not b || nat_lt 0 t.notices) ≡ true →
    (t.notices == length (cond b (p ∷ open_in ps) (open_in ps))) ≡ ((cond b (t.notices - 1) t.notices) == length (open_in ps))
open_read t p ps true left = open_more t.notices (length (open_in ps)) left
open_read t p ps false left = refl

-- the next paper is read
pub left_on : (t : Tally) (p : Paper) (ps : List Paper) → is_next t p ≡ true → are_left t (p ∷ ps) ≡ are_left (tally_after t p) ps
left_on t p ps next =
    let parts = and_parts ((p.number == t.number + 1) && nat_le t.day p.day) (not p.is_open || nat_lt 0 t.notices) next in
    let first = and_parts (p.number == t.number + 1) (nat_le t.day p.day) parts.0 in
    let number : p.number ≡ t.number + 1 = eqb-true p.number (t.number + 1) first.0 in
    let long : t.number + suc (length ps) ≡ p.number + length ps = omega (arith, number) in
    let one : (t.papers == t.number + suc (length ps)) ≡ (t.papers == p.number + length ps) = ap (λ n. t.papers == n) long in
    let two = open_read t p ps p.is_open parts.1 in
    let three : ((p.number == t.number + 1) && is_numbered_from (λ (q : Paper). q.number) (t.number + 1 + 1) ps)
    ≡ is_numbered_from (λ (q : Paper). q.number) (p.number + 1) ps =
    ap (λ b. b && is_numbered_from (λ (q : Paper). q.number) (t.number + 1 + 1) ps) first.0
    ∙ ap (λ n. is_numbered_from (λ (q : Paper). q.number) (n + 1) ps) (sym number) in
    let four : (nat_le t.day p.day && never_fall p.day (map (λ q. q.day) ps)) ≡ never_fall p.day (map (λ q. q.day) ps) =
    ap (λ b. b && never_fall p.day (map (λ (q : Paper). q.day) ps)) first.1 in
    ap₂ ◌&&◌ (ap₂ ◌&&◌ (ap₂ ◌&&◌ one two) three) four

open_some : (t : Tally) (p : Paper) (ps : List Paper) (b : Bool) → (t.notices == length (cond b (p ∷ open_in ps) (open_in ps))) ≡ true →
    (not b || nat_lt 0 t.notices) ≡ true
open_some t p ps true h =
    let e = eqb-true t.notices (suc (length (open_in ps))) h in
    lt-ltb 0 t.notices (omega (arith, e))
open_some t p ps false h = refl

-- the first of those that are left is the next
pub next_of_left : (t : Tally) (p : Paper) (ps : List Paper) → are_left t (p ∷ ps) ≡ true → is_next t p ≡ true
next_of_left t p ps left =
    let one = and_parts _ (nat_le t.day p.day && never_fall p.day (map (λ q. q.day) ps)) left in
    let two = and_parts _ ((p.number == t.number + 1) && is_numbered_from (λ (q : Paper). q.number) (t.number + 1 + 1) ps) one.0 in
    let three = and_parts (t.papers == t.number + suc (length ps)) (t.notices == length (open_in (p ∷ ps))) two.0 in
    let number = and_parts (p.number == t.number + 1) _ two.1 in
    let day = and_parts (nat_le t.day p.day) _ one.1 in
    and_from _ _ (and_from _ _ number.0 day.0) (open_some t p ps p.is_open three.1)

-- where no paper is left, all were read
pub left_none : (t : Tally) → are_left t [] ≡ is_ended t
left_none t =
    let e : t.number + 0 ≡ t.number = omega arith in
    let one : (t.papers == t.number + 0) ≡ (t.number == t.papers) = grind (arith, nat_tests) in
    let two : ((t.papers == t.number + 0) && (t.notices == 0)) ≡ ((t.number == t.papers) && (t.notices == 0)) = ap (λ b. b && (t.notices == 0)) one in
    go ((t.papers == t.number + 0) && (t.notices == 0)) ∙ two
  where
    go : (b : Bool) → (b && true && true) ≡ b
    go true = refl
    go false = refl

-- the tally that a paper moves on
pub next_is : (p : Paper) (o : Option Tally) (n : Tally) → next_tally p o ≡ Some n → (u : Tally) × (o ≡ Some u) × (is_next u p ≡ true) × (n ≡ tally_after u p)
next_is p None n h = absurd (let e = h in cc)
next_is p (Some u) n h = go (is_next u p) refl h
  where
    go : (b : Bool) → is_next u p ≡ b → (if b then Some (tally_after u p) else None) ≡ Some n →
        (v : Tally) × (Some u ≡ Some v) × (is_next v p ≡ true) × (n ≡ tally_after v p)
    go true is h = (u, refl, is, let e : tally_after u p ≡ n = cc in sym e)
    go false is h = absurd (let e = h in cc)

-- ---- all files

pub set_here : {A : Type 0} (xs : List A) (i : ℕ) (x y : A) → slice_get xs i ≡ Some y → slice_get (slice_set xs i x) i ≡ Some x
set_here [] i x y h = absurd (let e = h in cc)
set_here (z ∷ xs) zero x y h = refl
set_here (z ∷ xs) (suc i) x y h = set_here xs i x y h

pub set_other : {A : Type 0} (xs : List A) (i j : ℕ) (x : A) → (j ≡ i → ⊥) → slice_get (slice_set xs i x) j ≡ slice_get xs j
set_other [] i j x other = refl
set_other (z ∷ xs) zero zero x other = absurd (other refl)
set_other (z ∷ xs) zero (suc j) x other = refl
set_other (z ∷ xs) (suc i) zero x other = refl
set_other (z ∷ xs) (suc i) (suc j) x other = set_other xs i j x (λ e. other (ap suc e))

pub long_set : (ts : List Tally) (i : ℕ) (u : Tally) → length (slice_set ts i u) ≡ length ts
long_set [] i u = refl
long_set (x ∷ ts) zero u = refl
long_set (x ∷ ts) (suc i) u = ap suc (long_set ts i u)

abbrev pub of_file : ℕ → List Paper → List Paper
of_file file = filter (λ p. p.file == file)

module _ (parties last files : ℕ) where
  -- the papers are sound, each is of one of the files, and they are those that are left of each file
  pub record AreLeft (ts : List Tally) (ps : List Paper) : Type 0 where
    pub alone : AllByRecursion (λ p. fits_paper parties last p ≡ true) ps
    pub there : AllByRecursion (λ p. p.file ≤ files) ps
    pub left : (i : ℕ) (t : Tally) → slice_get ts i ≡ Some t → are_left t (of_file (suc i) ps) ≡ true

  module _ (ts : List Tally) (p : Paper) (ps : List Paper) (low : 1 ≤ p.file) (t : Tally) (at : slice_get ts (p.file - 1) ≡ Some t) where
    abbrev place : ℕ
    place = p.file - 1

    here : (p.file == suc place) ≡ true
    here = let e : p.file ≡ suc (p.file - 1) = omega (arith, low) in eq-eqb p.file (suc (p.file - 1)) e

    pub next_left : AreLeft ts (p ∷ ps) → is_next t p ≡ true
    next_left ok = next_of_left t p (of_file (suc place) ps) (rw here at (ok.left place t at))

    pub left_after : AreLeft ts (p ∷ ps) → AreLeft (slice_set ts place (tally_after t p)) ps
    left_after ok = record {
      alone = ok.alone.1;
      there = ok.there.1;
      left = λ i u got. go i u got (p.file == suc i) refl;
    }
      where
        go : (i : ℕ) (u : Tally) → slice_get (slice_set ts place (tally_after t p)) i ≡ Some u → (b : Bool) → (p.file == suc i) ≡ b →
            are_left u (of_file (suc i) ps) ≡ true
        go i u got true same =
            let file : p.file ≡ suc i = eqb-true p.file (suc i) same in
            let is : i ≡ place = omega (arith, file) in
            let told : Some u ≡ Some (tally_after t p) = sym got ∙ ap (λ j. slice_get (slice_set ts place (tally_after t p)) j) is ∙ set_here ts place
            (tally_after t p) t at in
            let one : u ≡ tally_after t p = cc in
            let was : are_left t (p ∷ of_file (suc place) ps) ≡ true = rw here at (ok.left place t at) in
            let now = sym (left_on t p (of_file (suc place) ps) (next_left ok)) ∙ was in
            ap₂ (λ w j. are_left w (of_file (suc j) ps)) one is ∙ now
        go i u got false other =
            let apart : i ≡ place → ⊥ = λ e. true≢false (sym here ∙ ap (λ j. p.file == suc j) (sym e) ∙ other) in
            let was = ok.left i u (sym (set_other ts place i (tally_after t p) apart) ∙ got) in
            rw other at was

    pub left_before : fits_paper parties last p ≡ true → p.file ≤ files → is_next t p ≡ true → AreLeft (slice_set ts place (tally_after t p)) ps →
        AreLeft ts (p ∷ ps)
    left_before fits in_range next ok = record {
      alone = (fits, ok.alone);
      there = (in_range, ok.there);
      left = λ i u got. go i u got (p.file == suc i) refl;
    }
      where
        go : (i : ℕ) (u : Tally) → slice_get ts i ≡ Some u → (b : Bool) → (p.file == suc i) ≡ b → are_left u (of_file (suc i) (p ∷ ps)) ≡ true
        go i u got true same =
            let file : p.file ≡ suc i = eqb-true p.file (suc i) same in
            let is : i ≡ place = omega (arith, file) in
            let told : Some u ≡ Some t = sym got ∙ ap (slice_get ts) is ∙ at in
            let one : u ≡ t = cc in
            let now = ok.left place (tally_after t p) (set_here ts place (tally_after t p) t at) in
            let was : are_left t (p ∷ of_file (suc place) ps) ≡ true = left_on t p (of_file (suc place) ps) next ∙ now in
            let whole : are_left t (of_file (suc place) (p ∷ ps)) ≡ true = rw here was in
            ap₂ (λ w j. are_left w (of_file (suc j) (p ∷ ps))) one is ∙ whole
        go i u got false other =
            let apart : i ≡ place → ⊥ = λ e. true≢false (sym here ∙ ap (λ j. p.file == suc j) (sym e) ∙ other) in
            let was = ok.left i u (set_other ts place i (tally_after t p) apart ∙ got) in
            rw other was

  -- where no paper is left, all tallies are ended
  pub all_ended : (ts : List Tally) → AreLeft ts [] → list_all is_ended ts ≡ true
  all_ended ts ok = go ts (λ i t got. sym (left_none t) ∙ ok.left i t got)
    where
      go : (us : List Tally) → ((i : ℕ) (t : Tally) → slice_get us i ≡ Some t → is_ended t ≡ true) → list_all is_ended us ≡ true
      go [] each = refl
      go (u ∷ us) each = and_from _ _ (each 0 u refl) (go us (λ i t got. each (suc i) t got))

  pub ended_left : (ts : List Tally) → list_all is_ended ts ≡ true → AreLeft ts []
  ended_left ts all = record { alone = tt; there = tt; left = λ i t got. left_none t ∙ go ts all i t got }
    where
      go : (us : List Tally) → list_all is_ended us ≡ true → (i : ℕ) (t : Tally) → slice_get us i ≡ Some t → is_ended t ≡ true
      go [] all i t got = absurd (let e = got in cc)
      go (u ∷ us) all zero t got = let e : u ≡ t = cc in subst (λ w. is_ended w ≡ true) e (and_parts (is_ended u) (list_all is_ended us) all).0
      go (u ∷ us) all (suc i) t got = go us (and_parts (is_ended u) (list_all is_ended us) all).1 i t got

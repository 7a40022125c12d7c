-- What a tally says of the papers of its file that were read.
use Rattle.std.proofs.Common.{◌≡◌, ℕ, suc, ◌+◌, ◌-◌, ◌≤◌, Bool, true, false, cond, not, List, [], ◌∷◌, length, refl, sym}
use Rattle.std.proofs.Common.{ap, subst, ◌∙◌, arith, true≢false}
use Rattle.std.specs.Prelude.{◌&&◌, ◌||◌, ◌==◌, nat_lt, nat_le, Some, slice_get, slice_set, if◌then◌else◌}
use Rattle.std.proofs.lemmas.Bool.{and_parts, eqb-true, eqb-false, eq-eqb, ne_eqb, ltb-true}
use Rattle.permit_model.specs.Tables.{Paper}
use Rattle.permit_sql.specs.Tested.{is_next, tally_after}
use Rattle.permit_sql.specs.Named.{first_gap, first_fall}
use Rattle.permit_sql.specs.declared.tally.Tally.{Tally}
use Rattle.permit_sql.proofs.Tallies.{of_file, open_in, set_here, set_other}

-- of all papers of the file of the first tally, those before the ones that are left were read
pub record Follows (first : Tally) (all : List Paper) (u : Tally) (left : List Paper) : Type 0 where
  pub gap : first_gap 1 all ≡ first_gap (u.number + 1) left
  pub fall : first_fall first.day all ≡ first_fall u.day left
  pub counted : length all ≡ u.number + length left
  pub papers : u.papers ≡ first.papers
  pub notices : first.notices + length (open_in left) ≡ u.notices + length (open_in all)

pub follows_first : (first : Tally) (all : List Paper) → first.number ≡ 0 → Follows first all first all
follows_first first all none = record {
  gap = ap (λ n. first_gap (n + 1) all) (sym none);
  fall = refl;
  counted = omega (arith, none);
  papers = refl;
  notices = refl;
}

module _ (first : Tally) (all : List Paper) (u : Tally) (p : Paper) (left : List Paper) (h : Follows first all u (p ∷ left)) where
  pub follows_next : is_next u p ≡ true → Follows first all (tally_after u p) left
  follows_next next =
      let parts = and_parts ((p.number == u.number + 1) && nat_le u.day p.day) (not p.is_open || nat_lt 0 u.notices) next in
      let front = and_parts (p.number == u.number + 1) (nat_le u.day p.day) parts.0 in
      let number : p.number ≡ u.number + 1 = eqb-true p.number (u.number + 1) front.0 in
      let long = h.counted in
      record {
        gap = h.gap ∙ ap (λ b. if b then first_gap (u.number + 1 + 1) left else Some p.number) front.0 ∙ ap (λ n. first_gap (n + 1) left) (sym number);
        fall = h.fall ∙ ap (λ b. if b then first_fall p.day left else Some p.number) front.1;
        counted = omega (arith, long, number);
        papers = h.papers;
        notices = open_read p.is_open h.notices parts.1;
      }
    where
      open_read : (b : Bool) → first.notices + length (cond b (p ∷ open_in left) (open_in left)) ≡ u.notices + length (open_in all) →
          (not b || nat_lt 0 u.notices) ≡ true → first.notices + length (open_in left) ≡ (cond b (u.notices - 1) u.notices) + length (open_in all)
      open_read true is some = let low = ltb-true 0 u.notices some in omega (arith, is, low)
      open_read false is some = is

  pub wrong_number : (p.number == u.number + 1) ≡ false → first_gap 1 all ≡ Some p.number
  wrong_number other = h.gap ∙ ap (λ b. if b then first_gap (u.number + 1 + 1) left else Some p.number) other

  pub early_day : nat_le u.day p.day ≡ false → first_fall first.day all ≡ Some p.number
  early_day before = h.fall ∙ ap (λ b. if b then first_fall p.day left else Some p.number) before

  pub one_more_open : p.is_open ≡ true → u.notices ≡ 0 → (first.notices == length (open_in all)) ≡ false
  one_more_open is none =
      let told : first.notices + suc (length (open_in left)) ≡ u.notices + length (open_in all)
      = subst (λ b. first.notices + length (cond b (p ∷ open_in left) (open_in left)) ≡ u.notices + length (open_in all)) is h.notices in
      ne_eqb first.notices (length (open_in all)) (λ same. omega (arith, told, none, same))

module _ (first : Tally) (all : List Paper) (u : Tally) (h : Follows first all u []) where
  pub wrong_papers : (u.number == u.papers) ≡ false → (first.papers == length all) ≡ false
  wrong_papers other =
      let long = h.counted in
      let same = h.papers in
      ne_eqb first.papers (length all) (λ e. eqb-false u.number u.papers other (omega (arith, long, same, e)))

  pub wrong_notices : (u.notices == 0) ≡ false → (first.notices == length (open_in all)) ≡ false
  wrong_notices some =
      let told = h.notices in
      ne_eqb first.notices (length (open_in all)) (λ e. eqb-false u.notices 0 some (omega (arith, told, e)))

-- ---- all files

-- each tally follows its file's papers
abbrev pub Follow : List Tally → List Paper → List Tally → List Paper → Type 0
Follow firsts all ts ps =
    (i : ℕ) (u : Tally) → slice_get ts i ≡ Some u → (first : Tally) × (slice_get firsts i ≡ Some first) × Follows first (of_file (suc i) all) u (of_file (suc i) ps)

module _ (firsts : List Tally) (all : List Paper) (ts : List Tally) (p : Paper) (ps : List Paper) (low : 1 ≤ p.file) (t : Tally)
    (at : slice_get ts (p.file - 1) ≡ Some t) (h : Follow firsts all ts (p ∷ ps)) where
  abbrev place : ℕ
  place = p.file - 1

  here : (p.file == suc place) ≡ true
  here = let e : p.file ≡ suc (p.file - 1) = omega (arith, low) in eq-eqb p.file (suc (p.file - 1)) e

  -- the tally of the paper's file
  pub follows_here : (first : Tally) × (slice_get firsts place ≡ Some first) × Follows first (of_file (suc place) all) t (p ∷ of_file (suc place) ps)
  follows_here = let it = h place t at in (it.0, it.1, rw here at it.2)

  pub follow_next : is_next t p ≡ true → Follow firsts all (slice_set ts place (tally_after t p)) ps
  follow_next next i u got = go (p.file == suc i) refl
    where
      go : (b : Bool) → (p.file == suc i) ≡ b →
          (first : Tally) × (slice_get firsts i ≡ Some first) × Follows first (of_file (suc i) all) u (of_file (suc i) ps)
      go true same =
          let file : p.file ≡ suc i = eqb-true p.file (suc i) same in
          let is : i ≡ place = omega (arith, file) in
          let told : Some u ≡ Some (tally_after t p) = sym got ∙ ap (λ j. slice_get (slice_set ts place (tally_after t p)) j) is ∙ set_here ts place
          (tally_after t p) t at in
          let one : u ≡ tally_after t p = cc in
          let it = follows_here in
          let on = follows_next it.0 (of_file (suc place) all) t p (of_file (suc place) ps) it.2 next in (
            it.0,
            ap (slice_get firsts) is ∙ it.1,
            subst (λ j. Follows it.0 (of_file (suc j) all) u (of_file (suc j) ps)) (sym is)
                (subst (λ w. Follows it.0 (of_file (suc place) all) w (of_file (suc place) ps)) (sym one) on),
          )
      go false other =
          let apart : i ≡ place → ⊥ = λ e. true≢false (sym here ∙ ap (λ j. p.file == suc j) (sym e) ∙ other) in
          let it = h i u (sym (set_other ts place i (tally_after t p) apart) ∙ got) in
          (it.0, it.1, rw other at it.2)

-- Interests sorted, and thinned of equal ones.
use Rattle.std.proofs.Common.{◌≡◌, ℕ, ◌==◌, Bool, true, List, sym, ◌∙◌, ap, subst, arith}
use Rattle.std.specs.Prelude.{◌&&◌}
use Rattle.std.specs.Cmp.{IsEquivalence, IsTotalOrder}
use Rattle.std.specs.Cmp.Derive.{Tied, tie, on_tied, then_tied}
use Rattle.std.specs.List.{Contains, dedup}
use Rattle.std.specs.List.Sorted.{IsPermutation, IsSorted, IsStrictlySortedBy}
use Rattle.std.specs.Ordering.{nat_cmp, eq_by_cmp}
use Rattle.std.proofs.lemmas.Bool.{and_parts, eqb-true}
use Rattle.std.proofs.lemmas.Bool.Decides.{nat_tests, same_from_decides}
use Rattle.std.proofs.lemmas.Cmp.{nat_cmp_total, nat_eq_equiv, on_total, then_total, on_equiv, and_equiv}
use Rattle.std.proofs.lemmas.List.Kept.{Contains-dedup, Contains-from_dedup, IsStrictlySortedBy-dedup}
use Rattle.std.proofs.lemmas.List.Sorted.{IsPermutation-sym, Contains-permutation}
use Rattle.std.proofs.lemmas.Map.Views.{list_any-from_Contains, Contains-from_any}
use Rattle.permit_model.specs.Parcels.{Interest}
use Rattle.permit_store.specs.Interests.{DeclareSame, is_declared}
use Rattle.permit_replay.specs.Sealing.{interest_order}

abbrev pub same_interest : Interest → Interest → Bool
same_interest a b = (a.parcel == b.parcel) && (a.party == b.party)

pub order_total : IsTotalOrder interest_order
order_total = then_total (on_total (λ (i : Interest). i.parcel) nat_cmp_total) (on_total (λ (i : Interest). i.party) nat_cmp_total)

pub same_equivalence : IsEquivalence same_interest
same_equivalence = and_equiv (on_equiv (λ (i : Interest). i.parcel) nat_eq_equiv) (on_equiv (λ (i : Interest). i.party) nat_eq_equiv)

nat_ties : (a b : ℕ) → (a == b) ≡ eq_by_cmp nat_cmp a b
nat_ties a b = grind (arith, nat_tests)

pub ties : Tied same_interest interest_order
ties = then_tied (on_tied (λ (i : Interest). i.parcel) (tie nat_cmp nat_ties)) (on_tied (λ (i : Interest). i.party) (tie nat_cmp nat_ties))

pub same_one : (a b : Interest) → same_interest a b ≡ true → a ≡ b
same_one a b e =
    let parts = and_parts (a.parcel == b.parcel) (a.party == b.party) e in
    ap (λ (n : ℕ). record { parcel = n; party = a.party }) (eqb-true a.parcel b.parcel parts.0)
    ∙ ap (λ (n : ℕ). record { parcel = b.parcel; party = n }) (eqb-true a.party b.party parts.1)

pub rises : (sorted kept : List Interest) → IsSorted interest_order sorted → kept ≡ dedup same_interest sorted → IsStrictlySortedBy interest_order kept
rises sorted kept up thin = subst (IsStrictlySortedBy interest_order) (sym thin) (IsStrictlySortedBy-dedup order_total ties.ties sorted up)

-- ---- what is declared

-- an interest of the list is the one that is asked for
abbrev asked : Interest → Interest → Bool
asked a b = same_interest b a

asked_equivalence : IsEquivalence asked
asked_equivalence = record {
  refl = same_equivalence.refl;
  symm = λ x y. same_equivalence.symm y x;
  congr = λ x y z e. same_equivalence.symm z x ∙ same_equivalence.congr x y z (same_equivalence.symm x y ∙ e) ∙ same_equivalence.symm y z;
}

declared_more : (xs ys : List Interest) → ((i : Interest) → Contains xs i → Contains ys i) → (parcel party : ℕ) → is_declared parcel party xs ≡ true
    → is_declared parcel party ys ≡ true
declared_more xs ys more parcel party e =
    let one : Interest = record { parcel = parcel; party = party } in
    list_any-from_Contains asked_equivalence one ys (more one (Contains-from_any (λ x y h. sym (same_one y x h)) one xs e))

pub declare_same : (interests sorted kept : List Interest) → IsPermutation interests sorted → kept ≡ dedup same_interest sorted → DeclareSame kept interests
declare_same interests sorted kept moved thin parcel party =
    same_from_decides {P = is_declared parcel party interests ≡ true} (is_declared parcel party kept) (is_declared parcel party interests) (
      declared_more kept interests (λ i there. Contains-permutation sorted interests i (IsPermutation-sym interests sorted moved)
          (Contains-from_dedup same_interest sorted i (subst (λ xs. Contains xs i) thin there))) parcel party,
      declared_more interests kept (λ i there. subst (λ xs. Contains xs i) (sym thin)
          (Contains-dedup same_equivalence same_one sorted i (Contains-permutation interests sorted i moved there))) parcel party,
    ) (λ e. e, λ e. e)

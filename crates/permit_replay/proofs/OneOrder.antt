-- Interests that rise strictly are one list where the same are declared.
use Rattle.std.proofs.Common.{◌≡◌, Bool, true, false, true≢false, List, [], ◌∷◌, refl, sym, ◌∙◌, ap, subst}
use Rattle.std.specs.Prelude.{◌||◌}
use Rattle.std.specs.List.{AllByRecursion}
use Rattle.std.specs.List.Sorted.{IsStrictlySortedBy}
use Rattle.std.specs.Ordering.{is_eq, ordering_reverse}
use Rattle.std.specs.declared.cmp.Ordering.{Ordering}
use Rattle.std.specs.declared.cmp.Ordering.TheVariants.{Less, Equal, Greater}
use Rattle.permit_model.specs.Parcels.{Interest}
use Rattle.permit_store.specs.Interests.{DeclareSame, is_declared}
use Rattle.permit_replay.specs.Sealing.{interest_order}
use Rattle.permit_replay.proofs.Sorted.{order_total, same_equivalence, same_interest, same_one, ties}

-- the interest is declared there
abbrev has : List Interest → Interest → Bool
has xs i = is_declared i.parcel i.party xs

has_first : (x : Interest) (xs : List Interest) → has (x ∷ xs) x ≡ true
has_first x xs = ap (λ b. b || has xs x) (same_equivalence.refl x)

-- each of these comes after the interest
abbrev AreBehind : Interest → List Interest → Type 0
AreBehind x ys = AllByRecursion (λ y. interest_order x y ≡ Less) ys

other : (x y : Interest) → interest_order x y ≡ Less → same_interest y x ≡ false
other x y less = same_equivalence.symm y x ∙ ties.ties x y ∙ ap is_eq less

not_behind : (x : Interest) (ys : List Interest) → AreBehind x ys → has ys x ≡ false
not_behind x [] all = refl
not_behind x (y ∷ ys) all = ap (λ b. b || has ys x) (other x y all.0) ∙ not_behind x ys all.1

further : (x y : Interest) (ys : List Interest) → interest_order x y ≡ Less → AreBehind y ys → AreBehind x ys
further x y [] less all = all
further x y (z ∷ ys) less all = (order_total.trans x y z less all.0, further x y ys less all.1)

-- an interest before the first of a rising list isn't in it
before : (x y : Interest) (ys : List Interest) → interest_order x y ≡ Less → IsStrictlySortedBy interest_order (y ∷ ys) → has (y ∷ ys) x ≡ false
unfolding IsStrictlySortedBy
before x y ys less up = not_behind x (y ∷ ys) (less, further x y ys less up.0)

turned : (x y : Interest) → interest_order x y ≡ Greater → interest_order y x ≡ Less
turned x y greater = order_total.antisymm y x ∙ ap ordering_reverse greater

same_first : (x y : Interest) (xs ys : List Interest) (o : Ordering) → interest_order x y ≡ o → IsStrictlySortedBy interest_order (x ∷ xs)
    → IsStrictlySortedBy interest_order (y ∷ ys) → DeclareSame (x ∷ xs) (y ∷ ys) → x ≡ y
same_first x y xs ys Less at up down same =
    absurd (true≢false (sym (has_first x xs) ∙ same x.parcel x.party ∙ before x y ys at down))
same_first x y xs ys Equal at up down same = same_one x y (ties.ties x y ∙ ap is_eq at)
same_first x y xs ys Greater at up down same =
    absurd (true≢false (sym (has_first y ys) ∙ sym (same y.parcel y.party) ∙ before y x xs (turned x y at) up))

-- what is declared after a first interest that both lists have
same_rest : (x : Interest) (xs ys : List Interest) → AreBehind x xs → AreBehind x ys → DeclareSame (x ∷ xs) (x ∷ ys) → DeclareSame xs ys
same_rest x xs ys up down same parcel party =
    by (same_interest x one) refl (same parcel party)
  where
    one : Interest
    one = record { parcel = parcel; party = party }

    by : (b : Bool) → same_interest x one ≡ b → (b || has xs one) ≡ (b || has ys one) → has xs one ≡ has ys one
    by true at e =
        let here : x ≡ one = same_one x one at in
        sym (ap (has xs) here) ∙ not_behind x xs up ∙ sym (not_behind x ys down) ∙ ap (has ys) here
    by false at e = e

pub one_list : (xs ys : List Interest) → IsStrictlySortedBy interest_order xs → IsStrictlySortedBy interest_order ys → DeclareSame xs ys → xs ≡ ys
unfolding IsStrictlySortedBy
one_list [] [] up down same = refl
one_list [] (y ∷ ys) up down same = absurd (true≢false (sym (has_first y ys) ∙ sym (same y.parcel y.party)))
one_list (x ∷ xs) [] up down same = absurd (true≢false (sym (has_first x xs) ∙ same x.parcel x.party))
one_list (x ∷ xs) (y ∷ ys) up down same =
    let first : x ≡ y = same_first x y xs ys (interest_order x y) refl up down same in
    let rest : DeclareSame xs ys =
    subst (λ (z : Interest). AreBehind z ys → DeclareSame (x ∷ xs) (z ∷ ys) → DeclareSame xs ys) first (same_rest x xs ys up.0) down.0 same in
    ap (λ z. z ∷ xs) first ∙ ap (λ zs. y ∷ zs) (one_list xs ys up.1 down.1 rest)

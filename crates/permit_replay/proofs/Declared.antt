-- The same interests are declared where each side has declared what the other has.
use Rattle.std.proofs.Common.{◌≡◌, ℕ, ◌==◌, Bool, true, false, List, [], ◌∷◌, refl, sym, ◌∙◌, ap, subst}
use Rattle.std.specs.Prelude.{◌&&◌, ◌||◌}
use Rattle.std.specs.List.{list_all}
use Rattle.std.proofs.lemmas.Bool.{and_parts, and_from, eqb-true, eq-eqb, or_right}
use Rattle.std.proofs.lemmas.Bool.Decides.{same_from_decides}
use Rattle.permit_model.specs.Parcels.{Interest}
use Rattle.permit_store.specs.Interests.{DeclareSame, is_declared}

-- each of these is declared there
abbrev are_in : List Interest → List Interest → Bool
are_in held given = list_all (λ i. is_declared i.parcel i.party held) given

declared : (held given : List Interest) → are_in held given ≡ true → (parcel party : ℕ) → is_declared parcel party given ≡ true
    → is_declared parcel party held ≡ true
declared held [] all parcel party there = cc
declared held (x ∷ given) all parcel party there =
    let parts = and_parts (is_declared x.parcel x.party held) (are_in held given) all in
    by ((x.parcel == parcel) && (x.party == party)) refl parts.0 (declared held given parts.1 parcel party) there
  where
    by : (b : Bool) → ((x.parcel == parcel) && (x.party == party)) ≡ b → is_declared x.parcel x.party held ≡ true
        → (is_declared parcel party given ≡ true → is_declared parcel party held ≡ true) → (b || is_declared parcel party given) ≡ true
        → is_declared parcel party held ≡ true
    by true at here rest there =
        let two = and_parts (x.parcel == parcel) (x.party == party) at in
        subst (λ n. is_declared n party held ≡ true) (eqb-true x.parcel parcel two.0)
        (subst (λ n. is_declared x.parcel n held ≡ true) (eqb-true x.party party two.1) here)
    by false at here rest there = rest there

all_there : (held given : List Interest) → ((parcel party : ℕ) → is_declared parcel party given ≡ true → is_declared parcel party held ≡ true)
    → are_in held given ≡ true
all_there held [] said = refl
all_there held (x ∷ given) said =
    let here : is_declared x.parcel x.party (x ∷ given) ≡ true =
    ap (λ b. b || is_declared x.parcel x.party given)
    (and_from (x.parcel == x.parcel) (x.party == x.party) (eq-eqb x.parcel x.parcel refl) (eq-eqb x.party x.party refl)) in
    and_from (is_declared x.parcel x.party held) (are_in held given) (said x.parcel x.party here)
    (all_there held given (λ parcel party there. said parcel party
    (ap (λ b. ((x.parcel == parcel) && (x.party == party)) || b) there ∙ or_right ((x.parcel == parcel) && (x.party == party)) true refl)))

pub both_ways : (t u one other : List Interest) → DeclareSame one t → DeclareSame other u → are_in u one ≡ true → are_in t other ≡ true → DeclareSame t u
both_ways t u one other first second there back parcel party =
    same_from_decides {P = is_declared parcel party u ≡ true} (is_declared parcel party t) (is_declared parcel party u) (
      λ e. declared u one there parcel party (first parcel party ∙ e),
      λ e. declared t other back parcel party (second parcel party ∙ e),
    ) (λ e. e, λ e. e)

pub there_where_same : (t u one : List Interest) → DeclareSame one t → DeclareSame t u → are_in u one ≡ true
there_where_same t u one first same = all_there u one (λ parcel party e. sym (same parcel party) ∙ sym (first parcel party) ∙ e)

pub back_where_same : (t u other : List Interest) → DeclareSame other u → DeclareSame t u → are_in t other ≡ true
back_where_same t u other second same = all_there t other (λ parcel party e. same parcel party ∙ sym (second parcel party) ∙ e)

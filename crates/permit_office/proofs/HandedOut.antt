-- A list handed to a taker, one item at a time.
use Rattle.std.proofs.Common.{◌≡◌, ◌∙◌, Bool, true, false, List, [], ◌∷◌, ◌++◌, length, refl, sym, ap, subst, append_assoc, arith}
use Rattle.std.proofs.lemmas.List.{append-nil}
use Rattle.permit_core.specs.Taking.{TookAll, StoppedIn}

module _ {T I : Type 0} (took : T → I → T → Bool → Type 0) where
  pub took_more : (items : List I) (item : I) (a b c : T) → TookAll took items a b → took b item c true → TookAll took (items ++ item ∷ []) a c
  took_more [] item a b c e t = (c, subst (λ x. took x item c true) e t, refl)
  took_more (first ∷ items) item a b c w t = (w.0, w.1, took_more items item w.0 b c w.2 t)

  -- the taker stopped at the next of the items left
  pub stops : (passed left rest all : List I) (item : I) (a b c : T) → passed ++ left ≡ all → left ≡ item ∷ rest → TookAll took passed a b →
      took b item c false → StoppedIn took all a c
  stops passed left rest all item a b c whole next taken last = (passed, item, rest, sym whole ∙ ap (λ xs. passed ++ xs) next, b, taken, last)

  -- no item is left
  pub ends : (passed left all : List I) (a b : T) → passed ++ left ≡ all → length left ≡ 0 → TookAll took passed a b → TookAll took all a b
  ends passed [] all a b whole none taken = subst (λ xs. TookAll took xs a b) (sym (append-nil passed) ∙ whole) taken
  ends passed (item ∷ left) all a b whole none taken = absurd (omega arith)

-- the next of the items left is among those passed
pub moved : {I : Type 0} (passed left rest all : List I) (item : I) → passed ++ left ≡ all → left ≡ item ∷ rest → (passed ++ item ∷ []) ++ rest ≡ all
moved passed left rest all item whole next = append_assoc passed (item ∷ []) rest ∙ sym (ap (λ xs. passed ++ xs) next) ∙ whole

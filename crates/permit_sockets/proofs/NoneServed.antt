-- Where no worker was started for any door, nothing was served.
use Rattle.std.proofs.Common.{◌≡◌, ◌<◌, ◌∙◌, ℕ, Bool, true, false, true≢false, List, [], ◌∷◌, length, map, get_or, refl, sym, ap, subst, arith, inl, inr}
use Rattle.std.specs.Prelude.{All, Option, None, Some, is_some, slice_get, if◌then◌else◌, filter, ◌==◌}
use Rattle.std.specs.List.{list_any}
use Rattle.std.proofs.lemmas.Bool.{eq-eqb}
use Rattle.std.proofs.lemmas.List.Elements.{All-head}
use Rattle.std.proofs.lemmas.List.Folds.{list_any_at}
use Rattle.std.proofs.lemmas.Option.{slice_get-get_or, slice_get_cases}
use Rattle.permit_base.specs.declared.request.Asked.{Asked}
use Rattle.permit_wire.specs.declared.service.Dated.{Dated}
use Rattle.permit_hall.specs.Doors.{AreDoorsServed}
use Rattle.permit_hall.specs.OneRun.{OneRun}
use Rattle.permit_hall.specs.Runs.{Entry, requests_of}
use Rattle.permit_hall.specs.declared.doors.DoorEnd.{DoorEnd}

-- the session of an entry has put a request
has_put : (e : Entry Asked Dated) (es : List (Entry Asked Dated)) → requests_of e.from (e ∷ es) ≡ [] → ⊥
has_put e es none =
    let test : Entry Asked Dated → Bool = λ x. x.from == e.from in
    let first : filter test (e ∷ es) ≡ e ∷ filter test es =
    ap (λ b. if b then e ∷ filter test es else filter test es) (eq-eqb e.from e.from refl) in
    let none' : map (λ (x : Entry Asked Dated). x.request) (e ∷ filter test es) ≡ [] =
    ap (map (λ (x : Entry Asked Dated). x.request)) (sym first) ∙ none in
    cc

-- the element of a list without any is none
gone : {X : Type 0} (xs : List (Option X)) (i : ℕ) (o : Option X) → list_any is_some xs ≡ false → i < length xs → get_or xs i None ≡ o → o ≡ None
gone xs i None none low is = refl
gone xs i (Some x) none low is =
    let found : list_any is_some xs ≡ true = list_any_at is_some xs i None low (ap is_some is) in
    absurd (true≢false (sym found ∙ none))

module _ {In Out D : Type 0} (remaining : In → Option (List ℕ)) (contents : Out → Option (List ℕ)) (gave : D → Option (In × Out) → D → Type 0)
    (spent : D → Type 0) (doors : List D) (ends : List (Option (DoorEnd D))) where
  pub none_served : (served : List (Entry Asked Dated)) → AreDoorsServed remaining contents gave spent doors ends served
      → All (λ e. e.from < length doors) served → list_any is_some ends ≡ false → served ≡ []
  none_served [] h each none = refl
  none_served (e ∷ es) h each none =
      let low : e.from < length doors = All-head (λ (x : Entry Asked Dated). x.from < length doors) e es each in
      let low' : e.from < length ends = omega (arith, h.count) in
      let end : slice_get ends e.from ≡ Some None =
      slice_get-get_or ends e.from None low' ∙ ap Some (gone ends e.from (get_or ends e.from None) none low' refl) in
      elim (slice_get_cases doors e.from).1 [
        | inl there ↦ absurd (has_put e es (h.each e.from there.0 None there.2 end))
        | inr past ↦ absurd (omega (arith, past.0))
      ]

module _ {T X In Out D : Type 0} (did : T → Asked → ℕ → Dated → T → Type 0) (tick : X → ℕ → X → Type 0) (remaining : In → Option (List ℕ))
    (contents : Out → Option (List ℕ)) (gave : D → Option (In × Out) → D → Type 0) (spent : D → Type 0) (doors : List D) (ends : List (Option (DoorEnd D)))
    (old new : T) (c d : X) where
  -- the service is as it was, and the clock was not asked
  pub as_it_was : (served : List (Entry Asked Dated)) × OneRun did tick (length doors) old new c d served
      × AreDoorsServed remaining contents gave spent doors ends served → list_any is_some ends ≡ false → (new ≡ old) × (d ≡ c)
  as_it_was ran none =
      let nothing = none_served remaining contents gave spent doors ends ran.0 ran.2 ran.1.each none in
      let h = subst (λ es. OneRun did tick (length doors) old new c d es) nothing ran.1 in
      (sym h.runs, sym h.days)

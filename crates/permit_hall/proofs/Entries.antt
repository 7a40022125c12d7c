-- A run, and the requests and replies of a session, one entry later.
use Rattle.std.proofs.Common.{◌≡◌, ◌≢◌, ℕ, Bool, List, [], ◌∷◌, ◌++◌, map, sym, refl, ap, ◌∙◌, eqb, subst}
use Rattle.std.specs.Prelude.{if◌then◌else◌, filter}
use Rattle.std.proofs.lemmas.Bool.{eq-eqb}
use Rattle.std.proofs.lemmas.List.{append-nil, map-append}
use Rattle.std.proofs.lemmas.List.Elements.{filter-append}
use Rattle.permit_hall.proofs.Cases.{not_eqb}
use Rattle.permit_hall.specs.Runs.{Entry, Runs, Gives, requests_of, replies_of}

module _ {S A Y : Type 0} (step : S → A → ℕ → Y → S → Type 0) where
  pub runs_more : (s t u : S) (es : List (Entry A Y)) (e : Entry A Y) → Runs step s es t → step t e.request e.day e.reply u → Runs step s (es ++ e ∷ []) u
  runs_more s t u [] e r go = (u, subst (λ x. step x e.request e.day e.reply u) (sym r) go, refl)
  runs_more s t u (x ∷ xs) e r go = (r.0, r.1, runs_more r.0 t u xs e r.2 go)

module _ {C : Type 0} (tick : C → ℕ → C → Type 0) where
  pub gives_more : (c u d : C) (days : List ℕ) (day : ℕ) → Gives tick c days u → tick u day d → Gives tick c (days ++ day ∷ []) d
  gives_more c u d [] day g go = (d, subst (λ x. tick x day d) (sym g) go, refl)
  gives_more c u d (x ∷ xs) day g go = (g.0, g.1, gives_more g.0 u d xs day g.2 go)

module _ {A Y : Type 0} where
  module _ (p : ℕ) (es : List (Entry A Y)) (e : Entry A Y) where
    here : e.from ≡ p → filter (λ (x : Entry A Y). eqb x.from p) (es ++ e ∷ []) ≡ filter (λ (x : Entry A Y). eqb x.from p) es ++ e ∷ []
    here is = filter-append (λ (x : Entry A Y). eqb x.from p) es (e ∷ [])
        ∙ ap (λ (b : Bool). filter (λ (x : Entry A Y). eqb x.from p) es ++ (if b then e ∷ [] else [])) (eq-eqb e.from p is)

    away : e.from ≢ p → filter (λ (x : Entry A Y). eqb x.from p) (es ++ e ∷ []) ≡ filter (λ (x : Entry A Y). eqb x.from p) es
    away n = filter-append (λ (x : Entry A Y). eqb x.from p) es (e ∷ [])
        ∙ ap (λ (b : Bool). filter (λ (x : Entry A Y). eqb x.from p) es ++ (if b then e ∷ [] else [])) (not_eqb e.from p n)
        ∙ append-nil (filter (λ (x : Entry A Y). eqb x.from p) es)

    pub requests_here : e.from ≡ p → requests_of p (es ++ e ∷ []) ≡ requests_of p es ++ e.request ∷ []
    requests_here is = ap (λ l. map (λ x. x.request) l) (here is) ∙ map-append (λ x. x.request) (filter (λ (x : Entry A Y). eqb x.from p) es) (e ∷ [])

    pub requests_away : e.from ≢ p → requests_of p (es ++ e ∷ []) ≡ requests_of p es
    requests_away n = ap (λ l. map (λ x. x.request) l) (away n)

    pub replies_here : e.from ≡ p → replies_of p (es ++ e ∷ []) ≡ replies_of p es ++ e.reply ∷ []
    replies_here is = ap (λ l. map (λ x. x.reply) l) (here is) ∙ map-append (λ x. x.reply) (filter (λ (x : Entry A Y). eqb x.from p) es) (e ∷ [])

    pub replies_away : e.from ≢ p → replies_of p (es ++ e ∷ []) ≡ replies_of p es
    replies_away n = ap (λ l. map (λ x. x.reply) l) (away n)

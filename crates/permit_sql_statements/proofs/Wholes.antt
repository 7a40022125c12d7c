-- What a query of a whole table shows.
use Rattle.std.proofs.Common.{ℕ, List, [], ◌∷◌, map, drop, refl, sym, ap, subst, ◌≡◌, ◌∙◌, IsPermutation}
use Rattle.std.specs.List.{flat_map}
use Rattle.std.proofs.lemmas.List.Sorted.{IsPermutation-map, IsPermutation-trans}
use Rattle.sqlite_keyed.proofs.ListLemmas.{map-map, map_same}
use Rattle.sqlite_value.specs.Order.{Row}
use Rattle.sqlite_value.specs.declared.keys.Key.{Key}
use Rattle.sqlite_sql.specs.Term.{Term, eval_all}
use Rattle.sqlite_sql.specs.Query.{Query, inner, end, IsAnswer, Output, output, matches}
use Rattle.sqlite_trees.specs.Tree.{Trees}
use Rattle.permit_model.specs.Parcels.{Interest}
use Rattle.permit_sql_rows.specs.Rows.{shown_interest}
use Rattle.permit_sql_rows.specs.Typed.{firsts}
use Rattle.permit_sql_statements.proofs.Lookups.{plain_query, answers}
use Rattle.permit_sql_statements.proofs.Selecting.{unmapped}

module _ (tree : ℕ) (project : List Term) (order : List (Term × Key)) where
  abbrev whole : Query
  whole = plain_query (inner tree end) [] project order

  each_out : (rows : List Row) → map (λ (o : Output). o.1) (map (output whole) (flat_map (λ r. ([] ∷ r ∷ []) ∷ []) rows))
      ≡ map (λ r. eval_all project ([] ∷ r ∷ [])) rows
  each_out [] = refl
  each_out (r ∷ rows) = ap (λ l. eval_all project ([] ∷ r ∷ []) ∷ l) (each_out rows)

  -- each row of the tree, in an order that is left open
  pub whole_shown : (db : Trees) (rows : List Row) → IsAnswer whole db [] rows → IsPermutation (map (λ r. eval_all project ([] ∷ r ∷ [])) (db tree)) rows
  whole_shown db rows a =
      let got = answers (inner tree end) [] project order db [] rows a in
      let seen = IsPermutation-map (λ (o : Output). o.1) _ _ got.1 in
      subst (λ l. IsPermutation l rows) (each_out (db tree)) (subst (IsPermutation
      (map (λ (o : Output). o.1) (map (output whole) (matches db [] (inner tree end) ([] ∷ []))))) (sym got.3) seen)

-- what is shown of each interest in the tree is that of the interests, in an order that is left open
pub interests_among : (interests : List Interest) (tree rows : List Row) → IsPermutation (map shown_interest interests) (map (drop 1) tree) →
    IsPermutation (map (λ r. firsts 2 1 r) tree) rows → (given : List Interest) × (rows ≡ map shown_interest given) × IsPermutation interests given
interests_among interests tree rows kept seen =
    let moved = IsPermutation-map (firsts 2 0) _ _ kept in
    let here : map (firsts 2 0) (map (drop 1) tree) ≡ map (λ r. firsts 2 1 r) tree = map-map (firsts 2 0) (drop 1) _ ∙ map_same _ _ cut _ in
    let same = IsPermutation-trans _ _ _ moved (subst (λ l. IsPermutation l rows) (sym here) seen) in
    let plain : map (firsts 2 0) (map shown_interest interests) ≡ map shown_interest interests = map-map (firsts 2 0) shown_interest _
    ∙ map_same _ _ (λ i. refl) _ in
    let it = unmapped shown_interest interests rows (subst (λ l. IsPermutation l rows) plain same) in
    (it.0, it.2, it.1)
  where
    cut : (r : Row) → firsts 2 0 (drop 1 r) ≡ firsts 2 1 r
    cut [] = refl
    cut (x ∷ r) = refl

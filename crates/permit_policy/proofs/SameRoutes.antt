-- A listing's selections have the routes of the listing, in another order: as many of both pass any test.
use Rattle.std.proofs.Common.{◌≡◌, refl, ap, sym, ◌∙◌, Bool, true, false, if◌then◌else◌, ◌&&◌, ℕ, ◌+◌, List, [], ◌∷◌, map, filter, arith}
use Rattle.std.specs.List.{flat_map, list_all}
use Rattle.permit_base.specs.declared.request.Filter.{Filter}
use Rattle.permit_base.specs.declared.route.By.{By}
use Rattle.permit_base.specs.declared.route.Route.{Route}
use Rattle.permit_base.specs.declared.route.Route.TheVariants as route
use Rattle.permit_model.specs.Opened.{Cell, Allowed}
use Rattle.permit_model.specs.Routes.{kept_cells, cell_on_day, cell_meets, route_by, routes_in, routes_of, is_open_to_all, is_all}
use Rattle.permit_model.specs.Search.{how_many}
use Rattle.permit_model.proofs.Selecting.{bit, how_many-cons, how_many-map, how_many-append, how_many-filter, filter_twice, filter_mapped}
use Rattle.permit_policy.specs.Selections.{all_bys, opens, is_opened, selection, has_routes, selections_of}
use Rattle.permit_policy.proofs.CellRoutes.{cell_routes}

-- ---- sums

abbrev pub total : {A : Type 0} → (A → ℕ) → List A → ℕ
total f [] = 0
total f (x ∷ xs) = f x + total f xs

pub total_same : {A : Type 0} (f g : A → ℕ) → ((x : A) → f x ≡ g x) → (xs : List A) → total f xs ≡ total g xs
total_same f g same [] = refl
total_same f g same (x ∷ xs) = omega (arith, same x, total_same f g same xs)

total_none : {A : Type 0} (xs : List A) → total (λ x. 0) xs ≡ 0
total_none [] = refl
total_none (x ∷ xs) = omega (arith, total_none xs)

total_both : {A : Type 0} (f g : A → ℕ) (xs : List A) → total (λ x. f x + g x) xs ≡ total f xs + total g xs
total_both f g [] = refl
total_both f g (x ∷ xs) = omega (arith, total_both f g xs)

total_bits : {A : Type 0} (p : A → Bool) (xs : List A) → total (λ x. bit (p x)) xs ≡ how_many p xs
total_bits p [] = refl
total_bits p (x ∷ xs) = omega (arith, how_many-cons p x xs, total_bits p xs)

-- a table of tests by its rows and by its columns
swapped : {A B : Type 0} (p : A → B → Bool) (xs : List A) (ys : List B) → total (λ x. how_many (p x) ys) xs ≡ total (λ y. how_many (λ x. p x y) xs) ys
swapped p [] ys = sym (total_none ys)
swapped p (x ∷ xs) ys =
    let apart : total (λ y. how_many (λ z. p z y) (x ∷ xs)) ys ≡ total (λ y. bit (p x y) + how_many (λ z. p z y) xs) ys =
    total_same (λ y. how_many (λ z. p z y) (x ∷ xs)) (λ y. bit (p x y) + how_many (λ z. p z y) xs) (λ y. how_many-cons (λ z. p z y) x xs) ys in
    let both = total_both (λ y. bit (p x y)) (λ y. how_many (λ z. p z y) xs) ys in
    omega (arith, apart, both, total_bits (p x) ys, swapped p xs ys)

pub flat_total : {A B : Type 0} (f : B → Bool) (g : A → List B) (xs : List A) → how_many f (flat_map g xs) ≡ total (λ x. how_many f (g x)) xs
flat_total f g [] = refl
flat_total f g (x ∷ xs) = omega (arith, how_many-append f (g x) (flat_map g xs), flat_total f g xs)

-- ---- the routes

-- empty selections have no routes
kept_by : (f : Route → Bool) (s : List Route) (rest : List (List Route)) (n : ℕ) → how_many f (flat_map (λ rs. rs) (filter has_routes rest)) ≡ n →
    how_many f (flat_map (λ rs. rs) (filter has_routes (s ∷ rest))) ≡ how_many f s + n
kept_by f [] rest n ih = omega (arith, ih)
kept_by f (r ∷ s) rest n ih = omega (arith, how_many-append f (r ∷ s) (flat_map (λ rs. rs) (filter has_routes rest)), ih)

-- the selections that have routes, of these ways
abbrev pub selected : (By → List Route) → List By → List (List Route)
selected each bys = map each (filter (λ asked. has_routes (each asked)) bys)

kept_total : (f : Route → Bool) (each : By → List Route) (bys : List By) →
    how_many f (flat_map (λ rs. rs) (filter has_routes (map each bys))) ≡ total (λ asked. how_many f (each asked)) bys
kept_total f each [] = refl
kept_total f each (asked ∷ bys) = kept_by f (each asked) (map each bys) (total (λ b. how_many f (each b)) bys) (kept_total f each bys)

selected_total : (f : Route → Bool) (each : By → List Route) (bys : List By) →
    how_many f (flat_map (λ rs. rs) (selected each bys)) ≡ total (λ asked. how_many f (each asked)) bys
selected_total f each bys = ap (λ ss. how_many f (flat_map (λ rs. rs) ss)) (sym (filter_mapped each has_routes bys)) ∙ kept_total f each bys

module _ (f : Route → Bool) (allowed : Allowed) (wanted : Filter) where
  -- whether the route is there and passes
  abbrev counts : Cell → By → Bool
  counts cell asked = opens (allowed (cell_on_day cell)) asked && f (route_by cell asked)

  by_cell : (cell : Cell) → how_many f (routes_in allowed cell) ≡ how_many (counts cell) all_bys
  by_cell cell =
      let opened : By → Bool = opens (allowed (cell_on_day cell)) in
      ap (how_many f) (cell_routes allowed cell)
      ∙ how_many-map (route_by cell) f (filter opened all_bys)
      ∙ how_many-filter opened (λ asked. f (route_by cell asked)) all_bys

  by_way : (asked : By) → how_many f (selection allowed wanted asked) ≡ how_many (λ cell. counts cell asked) (filter (cell_meets wanted) kept_cells)
  by_way asked =
      let opened : Cell → Bool = λ cell. opens (allowed (cell_on_day cell)) asked in
      let met : List Cell = filter (cell_meets wanted) kept_cells in
      how_many-map (λ cell. route_by cell asked) f (filter (is_opened allowed wanted asked) kept_cells)
      ∙ ap (how_many (λ cell. f (route_by cell asked))) (sym (filter_twice (cell_meets wanted) opened kept_cells))
      ∙ how_many-filter opened (λ cell. f (route_by cell asked)) met

  in_cells : how_many f (flat_map (λ rs. rs) (selected (selection allowed wanted) all_bys)) ≡ how_many f (flat_map (routes_in allowed) (filter (cell_meets wanted) kept_cells))
  in_cells =
      let met : List Cell = filter (cell_meets wanted) kept_cells in
      selected_total f (selection allowed wanted) all_bys
      ∙ total_same (λ asked. how_many f (selection allowed wanted asked)) (λ asked. how_many (λ cell. counts cell asked) met) by_way all_bys
      ∙ sym (swapped counts met all_bys)
      ∙ total_same (λ cell. how_many (counts cell) all_bys) (λ cell. how_many f (routes_in allowed cell)) (λ cell. sym (by_cell cell)) met
      ∙ sym (flat_total f (routes_in allowed) met)

  by_openness : (b : Bool) → how_many f (flat_map (λ rs. rs) (if b then (route.Every ∷ []) ∷ [] else selected (selection allowed wanted) all_bys))
      ≡ how_many f (if b then route.Every ∷ [] else flat_map (routes_in allowed) (filter (cell_meets wanted) kept_cells))
  by_openness true = refl
  by_openness false = in_cells

  pub same_counts : how_many f (flat_map (λ rs. rs) (selections_of allowed wanted)) ≡ how_many f (routes_of allowed wanted)
  same_counts = by_openness (is_all wanted && list_all (is_open_to_all allowed) kept_cells)

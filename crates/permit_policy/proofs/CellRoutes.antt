-- The routes of one kept cell, by the word of its cell on the day.
use Rattle.std.proofs.Common.{◌≡◌, refl, ap, sym, ◌∙◌, Bool, true, false, cond, if◌then◌else◌, not, ◌&&◌, ℕ, List, [], ◌∷◌, ◌++◌, map, filter, get_or}
use Rattle.std.specs.List.{list_all}
use Rattle.std.proofs.lemmas.List.Elements.{filter-append, filter_agree}
use Rattle.permit_base.specs.declared.words.Relations.{Relations}
use Rattle.permit_base.specs.declared.request.Filter.{Filter}
use Rattle.permit_base.specs.declared.route.By.{By}
use Rattle.permit_base.specs.declared.route.By.TheVariants as by
use Rattle.permit_base.specs.declared.route.Route.{Route}
use Rattle.permit_base.specs.declared.route.Route.TheVariants as route
use Rattle.permit_base.specs.Words.{all_relations}
use Rattle.permit_model.specs.Facts.{no_relations}
use Rattle.permit_model.specs.Opened.{Cell, Allowed, Pair, only, all_pairs, allowed_as_two}
use Rattle.permit_model.specs.Routes.{kept_cells, cell_on_day, cell_meets, route_by, routes_in, routes_of, is_open_to_all, is_all}
use Rattle.permit_model.proofs.Selecting.{filter_mapped, mapped_both}
use Rattle.permit_policy.specs.Masks.{cell_number, has_set, may}
use Rattle.permit_policy.specs.Selections.{all_bys, opens}
use Rattle.permit_policy.proofs.Selecting.{gives}
use Rattle.permit_policy.proofs.KeptCells.{each_gives}

pub is_open : (masks : List ℕ) (cell here : Cell) (none : Relations) (b : Bool) → here ≡ cell_on_day cell → none ≡ no_relations → b ≡ may masks here none
    → is_open_to_all (may masks) cell ≡ b
is_open masks cell here none b p q e = sym (e ∙ ap (λ set. may masks here set) q ∙ ap (λ at. may masks at no_relations) p)

-- `opens`, once it is known whether the cell is open to all
abbrev opens_by : Bool → (Relations → Bool) → By → Bool
opens_by b may by.Whole = b
opens_by b may (by.One r) = not b && may (only r)
opens_by b may (by.Two p q) = not b && allowed_as_two may (p, q)

same_test : (may : Relations → Bool) (asked : By) → opens may asked ≡ opens_by (may no_relations) may asked
same_test may by.Whole = refl
same_test may (by.One r) = refl
same_test may (by.Two p q) = refl

abbrev two_of : Pair → By
two_of pair = by.Two pair.0 pair.1

in_parts : (may : Relations → Bool) (cell : Cell) →
    map (λ r. route_by cell (by.One r)) (filter (λ r. may (only r)) all_relations)
    ++ map (λ (pair : Pair). route_by cell (by.Two pair.0 pair.1)) (filter (allowed_as_two may) all_pairs)
    ≡ map (route_by cell) (filter (opens_by false may) (map by.One all_relations ++ map two_of all_pairs))
in_parts may cell =
    let p = opens_by false may in
    let ones = map_map (route_by cell) by.One (filter (λ r. may (only r)) all_relations) in
    let twos = map_map (route_by cell) two_of (filter (allowed_as_two may) all_pairs) in
    ap (λ rs. rs ++ map (λ (pair : Pair). route_by cell (two_of pair)) (filter (allowed_as_two may) all_pairs)) ones
    ∙ ap (λ rs. map (route_by cell) (map by.One (filter (λ r. may (only r)) all_relations)) ++ rs) twos
    ∙ sym (mapped_both (route_by cell) (map by.One (filter (λ r. may (only r)) all_relations)) (map two_of (filter (allowed_as_two may) all_pairs)))
    ∙ ap (map (route_by cell)) (ap (λ bs. bs ++ map two_of (filter (allowed_as_two may) all_pairs)) (sym (filter_mapped by.One p all_relations))
    ∙ ap (λ bs. filter p (map by.One all_relations) ++ bs) (sym (filter_mapped two_of p all_pairs))
    ∙ sym (filter-append p (map by.One all_relations) (map two_of all_pairs)))
  where
    map_map : {A B C : Type 0} (f : B → C) (g : A → B) (xs : List A) → map (λ x. f (g x)) xs ≡ map f (map g xs)
    map_map f g [] = refl
    map_map f g (x ∷ xs) = ap (λ ys. f (g x) ∷ ys) (map_map f g xs)

by_openness : (may : Relations → Bool) (cell : Cell) (b : Bool) →
    (if b then route_by cell by.Whole ∷ []
    else map (λ r. route_by cell (by.One r)) (filter (λ r. may (only r)) all_relations)
    ++ map (λ (pair : Pair). route_by cell (by.Two pair.0 pair.1)) (filter (allowed_as_two may) all_pairs))
    ≡ map (route_by cell) (filter (opens_by b may) all_bys)
by_openness may cell true = refl
by_openness may cell false = in_parts may cell

-- the routes of a kept cell are the ways in which it is opened
pub cell_routes : (allowed : Allowed) (cell : Cell) → routes_in allowed cell ≡ map (route_by cell) (filter (opens (allowed (cell_on_day cell))) all_bys)
cell_routes allowed cell =
    let may = allowed (cell_on_day cell) in
    by_openness may cell (may no_relations)
    ∙ ap (map (route_by cell)) (filter_agree (opens_by (may no_relations) may) (opens may) (λ asked. sym (same_test may asked)) all_bys)

-- the same by the word that was read
pub routes_by_word : (masks : List ℕ) (cell here : Cell) (mask : ℕ) → here ≡ cell_on_day cell → mask ≡ get_or masks (cell_number here) 0 →
    gives (route_by cell) (opens (has_set mask)) all_bys ≡ routes_in (may masks) cell
routes_by_word masks cell here mask day word =
    ap (λ m. gives (route_by cell) (opens (has_set m)) all_bys) (word ∙ ap (λ at. get_or masks (cell_number at) 0) day)
    ∙ sym (cell_routes (may masks) cell)

pub all_routes : (allowed : Allowed) (wanted : Filter) (made : List Route) → (is_all wanted && list_all (is_open_to_all allowed) kept_cells) ≡ false
    → made ≡ each_gives (routes_in allowed) (cell_meets wanted) kept_cells → made ≡ routes_of allowed wanted
all_routes allowed wanted made t e = e ∙ ap (λ b. cond b (route.Every ∷ []) (each_gives (routes_in allowed) (cell_meets wanted) kept_cells)) (sym t)

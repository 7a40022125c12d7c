-- A pass over the ways in which cells are opened, that keeps the selections with routes.
use Rattle.std.proofs.Common.{◌≡◌, refl, ap, sym, ◌∙◌, true, false, cond, ◌&&◌, ℕ, ◌+◌, ◌<◌, ◌≤◌, ◌==◌, List, [], ◌∷◌, ◌++◌, length, drop, map, get_or, arith}
use Rattle.std.proofs.lemmas.Bool.{eqb-true}
use Rattle.std.specs.Prelude.{Vec, IfOk, Result, Ok, Err}
use Rattle.std.specs.List.{list_all}
use Rattle.std.specs.Global.{Global}
use Rattle.permit_base.specs.declared.request.Filter.{Filter}
use Rattle.permit_base.specs.declared.route.By.{By}
use Rattle.permit_base.specs.declared.route.Route.{Route}
use Rattle.permit_base.specs.declared.route.Route.TheVariants as route
use Rattle.permit_model.specs.Opened.{Allowed}
use Rattle.permit_model.specs.Routes.{kept_cells, is_open_to_all, is_all}
use Rattle.permit_model.proofs.Selecting.{mapped_both}
use Rattle.permit_policy.specs.Selections.{all_bys, selections_by_cells, selections_of, has_routes, items_of}
use Rattle.permit_policy.proofs.Selecting.{gives, item_kept, item_left, items_end}

full : (routes : List Route) → (length routes == 0) ≡ false → has_routes routes ≡ true
full [] e = sym e
full (r ∷ rs) e = refl

none : (routes : List Route) → (length routes == 0) ≡ true → has_routes routes ≡ false
none [] e = refl
none (r ∷ rs) e = absurd (omega (arith, eqb-true (length (r ∷ rs)) 0 e))

module _ (each : By → List Route) where
  -- the selections of these ways that have routes
  abbrev pub rest : List By → List (List Route)
  rest bys = gives each (λ asked. has_routes (each asked)) bys

  in_range : (items : List By) (i : ℕ) → items ≡ all_bys → i < length items → i < length all_bys
  in_range items i e h = let n : length items ≡ length all_bys = ap length e in rw (← n) h

  pub way_kept : (items : List By) (i : ℕ) (d : By) (made more : List (Vec Route Global)) (s : Vec Route Global) (whole : List (List Route)) →
      items ≡ all_bys → i < length items → s.items ≡ each (get_or items i d) → (length s.items == 0) ≡ false → more ≡ made ++ s ∷ [] →
      map items_of made ++ rest (drop i all_bys) ≡ whole → map items_of more ++ rest (drop (i + 1) all_bys) ≡ whole
  way_kept items i d made more s whole e h is there add k =
      item_kept each (λ asked. has_routes (each asked)) all_bys i d (get_or items i d) (map items_of made) (map items_of more) whole (in_range items i e h)
      (ap (λ bs. get_or bs i d) e) (ap has_routes (sym is) ∙ full s.items there)
      (ap (map items_of) add ∙ mapped_both items_of made (s ∷ []) ∙ ap (λ rs. map items_of made ++ rs ∷ []) is) k

  pub way_left : (items : List By) (i : ℕ) (d : By) (made : List (Vec Route Global)) (s : Vec Route Global) (whole : List (List Route)) →
      items ≡ all_bys → i < length items → s.items ≡ each (get_or items i d) → (length s.items == 0) ≡ true →
      map items_of made ++ rest (drop i all_bys) ≡ whole → map items_of made ++ rest (drop (i + 1) all_bys) ≡ whole
  way_left items i d made s whole e h is there k =
      item_left each (λ asked. has_routes (each asked)) all_bys i d (get_or items i d) (map items_of made) whole (in_range items i e h)
      (ap (λ bs. get_or bs i d) e) (ap has_routes (sym is) ∙ none s.items there) k

  pub ways_end : (items : List By) (i : ℕ) (made : List (Vec Route Global)) (whole : List (List Route)) → items ≡ all_bys → length items ≤ i →
      map items_of made ++ rest (drop i all_bys) ≡ whole → map items_of made ≡ whole
  ways_end items i made whole e h k =
      let n : length items ≡ length all_bys = ap length e in
      items_end each (λ asked. has_routes (each asked)) all_bys i (map items_of made) whole (rw n at h) k

-- some rows are
pub by_cells : {E : Type 0} (allowed : Allowed) (wanted : Filter) (r : Result (Vec (Vec Route Global) Global) E) →
    (is_all wanted && list_all (is_open_to_all allowed) kept_cells) ≡ false →
    IfOk r (λ all. map items_of all.items ≡ selections_by_cells allowed wanted) → IfOk r (λ all. map items_of all.items ≡ selections_of allowed wanted)
by_cells allowed wanted (Ok all) t e = e ∙ ap (λ b. cond b ((route.Every ∷ []) ∷ []) (selections_by_cells allowed wanted)) (sym t)
by_cells allowed wanted (Err x) t e = e

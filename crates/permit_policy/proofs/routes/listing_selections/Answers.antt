-- What the masks allow is what the policy allows, and the rows that its routes find are a law of the model.
use Rattle.std.proofs.Common.{◌≡◌, refl, ℕ, List, [], ◌∷◌, ◌++◌, map, ap, sym, subst, ◌∙◌}
use Rattle.std.specs.Prelude.{IsPermutation, IfOk, Vec, Result, Ok, Err}
use Rattle.std.specs.Global.{Global}
use Rattle.std.specs.List.{flat_map}
use Rattle.std.proofs.Math.Path.{fun_ext}
use Rattle.std.proofs.lemmas.List.Sorted.{IsPermutation-trans, IsPermutation-map}
use Rattle.permit_base.specs.declared.request.Filter.{Filter}
use Rattle.permit_base.specs.declared.route.Route.{Route}
use Rattle.permit_base.specs.declared.words.Action.TheVariants as action
use Rattle.permit_base.specs.declared.words.Relations.{Relations}
use Rattle.permit_base.specs.declared.words.Role.{Role}
use Rattle.permit_model.specs.Caller.{Party}
use Rattle.permit_model.specs.History.{History}
use Rattle.permit_model.specs.Opened.{Cell, Allowed, allowed_by, opened}
use Rattle.permit_model.specs.Policy.{Policy}
use Rattle.permit_model.specs.Routes.{Found, found_row, is_found, found_by, routes_of}
use Rattle.permit_model.specs.Search.{how_many}
use Rattle.permit_model.specs.Tables.{FileRow, file_row, tables}
use Rattle.permit_model.proofs.ReadCount.{same_rows}
use Rattle.permit_model.proofs.Selecting.{everywhere, flat_mapped, same_selected}
use Rattle.permit_policy.specs.Masks.{may}
use Rattle.permit_policy.specs.Selections.{items_of, selections_of}
use Rattle.permit_policy.proofs.SameRoutes.{same_counts}
use Rattle.permit_policy.proofs.routes.listing_selections.Goals as goal

-- the selections by the masks are those by the policy
by_masks : (masks : List ℕ) (policy : Policy) (role : Role) (wanted : Filter) (made : List (List Route)) → made ≡ selections_of (may masks) wanted →
    ((cell : Cell) (set : Relations) → may masks cell set ≡ allowed_by policy role action.List cell set) →
    made ≡ selections_of (allowed_by policy role action.List) wanted
by_masks masks policy role wanted made e same =
    let allowed : may masks ≡ allowed_by policy role action.List = fun_ext (λ cell. fun_ext (λ set. same cell set)) in
    e ∙ ap (λ (allowed : Allowed). selections_of allowed wanted) allowed

joined : (all : List (Vec Route Global)) → flat_map items_of all ≡ flat_map (λ (rs : List Route). rs) (map items_of all)
joined [] = refl
joined (s ∷ all) = ap (λ rs. s.items ++ rs) (joined all)

module _ (policy : Policy) (wanted : Filter) (h : History) (day : ℕ) (caller : Party) where
  abbrev row_of : Found → FileRow
  row_of found = found.row

  abbrev found_with : Route → List Found
  found_with r = found_by r caller.id day (tables h)

  -- the rows that these routes find are those that the listing may open
  opens_with : (allowed : Allowed) → allowed ≡ allowed_by policy caller.role action.List →
      IsPermutation (flat_map (λ r. map row_of (found_with r)) (flat_map (λ (rs : List Route). rs) (selections_of allowed wanted)))
      (map file_row (opened policy h day caller wanted))
  opens_with allowed e =
      let own : Allowed = allowed_by policy caller.role action.List in
      let rows : List Found = map (found_row (tables h) caller.id) (tables h).files in
      let selected : List Route = flat_map (λ (rs : List Route). rs) (selections_of own wanted) in
      let found : IsPermutation (flat_map found_with selected) (flat_map found_with (routes_of own wanted)) =
      same_selected (λ (r : Route) (x : Found). is_found r caller.id day x) (λ (r : Route) (x : Found). is_found r caller.id day x) selected (routes_of own wanted) rows
      (everywhere (λ x. how_many (λ r. is_found r caller.id day x) selected ≡ how_many (λ r. is_found r caller.id day x) (routes_of own wanted))
      (λ x. same_counts (λ r. is_found r caller.id day x) own wanted) rows) in
      let mapped : IsPermutation (flat_map (λ r. map row_of (found_with r)) selected) (flat_map (λ r. map row_of (found_with r)) (routes_of own wanted)) =
      subst (λ (rs : List FileRow). IsPermutation rs (flat_map (λ r. map row_of (found_with r)) (routes_of own wanted))) (sym (flat_mapped row_of found_with selected))
      (subst (IsPermutation (map row_of (flat_map found_with selected))) (sym (flat_mapped row_of found_with (routes_of own wanted)))
      (IsPermutation-map row_of (flat_map found_with selected) (flat_map found_with (routes_of own wanted)) found)) in
      subst (λ (may : Allowed). IsPermutation (flat_map (λ r. map row_of (found_with r)) (flat_map (λ (rs : List Route). rs) (selections_of may wanted)))
      (map file_row (opened policy h day caller wanted))) (sym e)
      (IsPermutation-trans (flat_map (λ r. map row_of (found_with r)) selected) (flat_map (λ r. map row_of (found_with r)) (routes_of own wanted))
      (map file_row (opened policy h day caller wanted)) mapped (same_rows policy h day caller wanted))

  opens_all : (role : Role) (all : List (Vec Route Global)) → map items_of all ≡ selections_of (allowed_by policy role action.List) wanted → caller.role ≡ role →
      IsPermutation (flat_map (λ r. map row_of (found_with r)) (flat_map items_of all)) (map file_row (opened policy h day caller wanted))
  opens_all role all made same =
      subst (λ (rs : List Route). IsPermutation (flat_map (λ r. map row_of (found_with r)) rs) (map file_row (opened policy h day caller wanted)))
      (sym (joined all ∙ ap (flat_map (λ (rs : List Route). rs)) made))
      (opens_with (allowed_by policy role action.List) (ap (λ (r : Role). allowed_by policy r action.List) (sym same)))

exact_by : {E : Type 0} (r : Result (Vec (Vec Route Global) Global) E) (masks : List ℕ) (policy : Policy) (role : Role) (wanted : Filter) →
    ((cell : Cell) (set : Relations) → may masks cell set ≡ allowed_by policy role action.List cell set) →
    IfOk r (λ all. map items_of all.items ≡ selections_of (may masks) wanted) →
    IfOk r (λ all. map items_of all.items ≡ selections_of (allowed_by policy role action.List) wanted)
exact_by (Ok all) masks policy role wanted same made = by_masks masks policy role wanted (map items_of all.items) made same
exact_by (Err e) masks policy role wanted same made = made

opens_by : {E : Type 0} (r : Result (Vec (Vec Route Global) Global) E) (policy : Policy) (role : Role) (wanted : Filter) →
    IfOk r (λ all. map items_of all.items ≡ selections_of (allowed_by policy role action.List) wanted) →
    IfOk r (λ all. (h : History) (day : ℕ) (caller : Party) → caller.role ≡ role →
    IsPermutation (flat_map (λ r. map (λ (f : Found). f.row) (found_by r caller.id day (tables h))) (flat_map items_of all.items))
    (map file_row (opened policy h day caller wanted)))
opens_by (Ok all) policy role wanted made = λ h day caller same. opens_all policy wanted h day caller role all.items made same
opens_by (Err e) policy role wanted made = made

pub returns : goal.returns
returns c =
    let a = c.args in
    let exact = exact_by c.selections.result c.listing.result.now a.policy.now a.role a.wanted c.listing.ensures c.selections.ensures in
    record { exact = exact; opens = opens_by c.selections.result a.policy.now a.role a.wanted exact }

-- From the rows that a listing's selections find to its files.
use Rattle.std.proofs.Common.{◌≡◌, ◌<◌, ◌≤◌, ℕ, ◌+◌, ◌*◌, ◌%◌, ◌^◌, List, [], ◌∷◌, ◌++◌, length, refl, sym, ◌∙◌, ap, subst, ⊎_elim, map}
use Rattle.std.proofs.Common.{append_assoc, append-nil, length-append, arith}
use Rattle.std.specs.Prelude.{filter, Ok, Vec, IsPermutation}
use Rattle.std.specs.List.{flat_map, Contains, Any}
use Rattle.std.proofs.lemmas.List.{map-append}
use Rattle.std.proofs.lemmas.List.Elements.{filter-append, filter_agree}
use Rattle.std.proofs.lemmas.List.Sorted.{IsPermutation-refl, IsPermutation-sym, IsPermutation-trans, IsPermutation-append, IsPermutation-map}
use Rattle.std.proofs.lemmas.List.Sorted.{Contains-permutation, length_permutation}
use Rattle.permit_base.specs.Limits.{most_records}
use Rattle.permit_base.specs.declared.words.Action.TheVariants as action
use Rattle.permit_base.specs.declared.request.Filter.{Filter}
use Rattle.permit_base.specs.declared.route.Route.{Route}
use Rattle.permit_model.specs.History.{History}
use Rattle.permit_model.specs.Caller.{Party}
use Rattle.permit_model.specs.Policy.{Policy}
use Rattle.permit_model.specs.Listing.{listing}
use Rattle.permit_model.specs.Opened.{allowed_by, opened}
use Rattle.permit_model.specs.Tables.{FileRow, FileView, Tables, tables}
use Rattle.permit_model.specs.Routes.{Found, found_row, is_found, found_by, routes_of}
use Rattle.permit_model.specs.Machine.{IsHistory}
use Rattle.permit_model.proofs.Rising.{rows_rising, IsRising}
use Rattle.permit_model.proofs.Members.{IsMember, member_from, of_member, IsGiven, given_by, IsMadeOf, made_of, passed}
use Rattle.permit_model.proofs.ListingFromRoutes.{allowed_views, listing_from_routes}
use Rattle.permit_model.proofs.ReadCount.{same_count, few_opened}
use Rattle.permit_core.specs.Taking.{TookAll}
use Rattle.permit_store.specs.Frames.{StoreView}
use Rattle.permit_store.specs.Handing.{AreRising, is_found_by_any, found_by_any}
use Rattle.permit_store.proofs.Sifting.{pass_alike}
use Rattle.permit_office.specs.declared.listing.FileList.{FileList}
use Rattle.permit_office.specs.declared.showing.RowsEnd.TheVariants as ended
use Rattle.permit_office.specs.Reach.{HandedMore}
use Rattle.permit_office.specs.Listings.{view_found, may_list, views_found, Adds, Gathers, selections_for, AreRising as AreInOrder}
use Rattle.permit_policy.specs.Selections.{items_of, selections_of}
use Rattle.permit_base.specs.declared.words.Role.{Role}
use Rattle.std.specs.Global.{Global}
use Rattle.std.proofs.Math.Bool.{or-false}
use Rattle.permit_office.specs.Passing.{AreFoundBy, PassedOn}
use Rattle.permit_office.specs.Opening.{OpensRows}
use Rattle.permit_office.specs.declared.reply.Listing.{Listing}
use Rattle.permit_office.proofs.ListingSelections.{selections_find}

pub views_append : (policy : Policy) (caller : Party) (day : ℕ) (xs ys : List Found) →
    views_found policy caller day (xs ++ ys) ≡ views_found policy caller day xs ++ views_found policy caller day ys
views_append policy caller day xs ys =
    ap (map (view_found day)) (filter-append (may_list policy caller day) xs ys)
    ∙ map-append (view_found day) (filter (may_list policy caller day) xs) (filter (may_list policy caller day) ys)

-- ---- rows taken one after the other

counted : (b c n m : ℕ) → b ≡ n % 2 ^ 32 → c ≡ m % 2 ^ 32 → (b + c) % 2 ^ 32 ≡ (n + m) % 2 ^ 32
counted b c n m e f = omega arith

-- the files that were taken come after those of before
added : (views : List FileView) (before after : FileList) → TookAll Adds views before after → after.files.items ≡ before.files.items ++ views
added [] before after took = ap (λ (l : FileList). l.files.items) took ∙ sym (append-nil before.files.items)
added (view ∷ views) before after took =
    added views took.0 after took.2 ∙ ap (λ fs. fs ++ views) (took.1 refl) ∙ append_assoc before.files.items (view ∷ []) views

-- ---- one group after the other

pub rising_rows : (rows : List FileRow) → IsRising (λ (row : FileRow). row.id) rows → AreRising rows
rising_rows [] up = up
rising_rows (row ∷ rows) up = (up.0, rising_rows rows up.1)

flat_last : {A B : Type 0} (f : A → List B) (xs : List A) (x : A) → flat_map f (xs ++ x ∷ []) ≡ flat_map f xs ++ f x
flat_last f [] x = append-nil (f x)
flat_last f (y ∷ xs) x = ap (λ zs. f y ++ zs) (flat_last f xs x) ∙ sym (append_assoc (f y) (flat_map f xs) (f x))

handed_more : (old mid new n m : ℕ) → HandedMore n old mid → HandedMore m mid new → HandedMore (n + m) old new
handed_more old mid new n m e f = omega arith

-- rows that are found by routes, in any order
any_order : (routes : List Route) (caller day : ℕ) (t : Tables) (given rest : List Found) → rest ≡ [] → AreFoundBy routes caller day t (given ++ rest) →
    IsPermutation given (found_by_any routes caller day t)
any_order routes caller day t given rest none found =
    by_routes routes (subst (AreFoundBy routes caller day t) (ap (λ rs. given ++ rs) none ∙ append-nil given) found)
  where
    by_routes : (rs : List Route) → AreFoundBy rs caller day t given → IsPermutation given (found_by_any rs caller day t)
    by_routes [] moved = moved
    by_routes (r ∷ []) same =
        let alone : found_by_any (r ∷ []) caller day t ≡ found_by r caller day t =
        filter_agree (is_found_by_any (r ∷ []) caller day) (is_found r caller day) (λ x. or-false (is_found r caller day x))
        (map (found_row t caller) t.files) in
        subst (IsPermutation given) (sym (alone ∙ same)) (IsPermutation-refl given)
    by_routes (r ∷ (q ∷ rs)) moved = moved

-- one selection more
pub gathers_more : (policy : Policy) (caller : Party) (day : ℕ) (selections : List (List Route)) (selection : List Route) (old mid new : StoreView)
    (before after : FileList) (count more : ℕ) → Gathers policy caller day selections old mid before.files.items count →
    PassedOn Adds policy caller day selection mid new before after (Ok (ended.All more)) → mid.doubt ≤ new.doubt → ((t : Tables) → old.holds t → mid.holds t) →
    Gathers policy caller day (selections ++ selection ∷ []) old new after.files.items ((count + more) % 2 ^ 32)
gathers_more policy caller day selections selection old mid new before after count more all passed doubt kept =
    let given = passed.given in
    record {
      given = all.given ++ given;
      files = added (views_found policy caller day given) before after passed.taken.1
          ∙ ap (λ fs. fs ++ views_found policy caller day given) all.files
          ∙ sym (views_append policy caller day all.given given);
      read = counted count more (length all.given) (length given) all.read passed.taken.0 ∙ ap (λ n. n % 2 ^ 32) (sym (length-append all.given given));
      handed = subst (λ n. HandedMore n old.handed new.handed) (sym (length-append all.given given))
          (handed_more old.handed mid.handed new.handed (length all.given) (length given) all.handed passed.handed);
      found = λ sure h is held.
          let late : mid.doubt ≡ 0 = omega arith in
          let rows = passed.found sure h is (kept (tables h) held) in
          subst (IsPermutation (all.given ++ given)) (sym (flat_last (λ s. found_by_any s caller.id day (tables h)) selections selection))
          (IsPermutation-append all.given (flat_map (λ s. found_by_any s caller.id day (tables h)) selections) given
          (found_by_any selection caller.id day (tables h)) (all.found late h is held)
          (any_order selection caller.id day (tables h) given rows.0 rows.1 rows.2));
    }

-- no selection yet
pub gathers_none : (policy : Policy) (caller : Party) (day : ℕ) (s : StoreView) (views : List FileView) → views ≡ [] → Gathers policy caller day [] s s views 0
gathers_none policy caller day s views e =
    record { given = []; files = e; read = refl; handed = omega arith; found = λ sure h is held. IsPermutation-refl [] }

-- the selections that were made are those of a listing for the caller
pub named : (policy : Policy) (caller : Party) (role : Role) (wanted : Filter) (made seen : List (Vec Route Global)) → role ≡ caller.role → seen ≡ made →
    map items_of made ≡ selections_of (allowed_by policy role action.List) wanted → map items_of seen ≡ selections_for policy caller wanted
named policy caller role wanted made seen same is e =
    ap (map items_of) is ∙ e ∙ ap (λ (r : Role). selections_of (allowed_by policy r action.List) wanted) same

-- the rows that a listing's selections find are those that its routes find
pub found_by_routes : (policy : Policy) (h : History) (day : ℕ) (caller : Party) (wanted : Filter) (given : List Found) (selections : List (List Route)) →
    selections ≡ selections_for policy caller wanted → IsPermutation given (flat_map (λ s. found_by_any s caller.id day (tables h)) selections) →
    IsPermutation given (flat_map (λ r. found_by r caller.id day (tables h)) (routes_of (allowed_by policy caller.role action.List) wanted))
found_by_routes policy h day caller wanted given selections e found =
    let allowed = allowed_by policy caller.role action.List in
    let own : IsPermutation given (flat_map (λ s. found_by_any s caller.id day (tables h)) (selections_of allowed wanted)) =
    subst (λ (ss : List (List Route)). IsPermutation given (flat_map (λ s. found_by_any s caller.id day (tables h)) ss)) e found in
    IsPermutation-trans given (flat_map (λ s. found_by_any s caller.id day (tables h)) (selections_of allowed wanted))
    (flat_map (λ r. found_by r caller.id day (tables h)) (routes_of allowed wanted)) own (selections_find allowed wanted caller.id day (tables h))

-- ---- the files in order

-- the files that the selections find, one selection after the other
views_flat : (policy : Policy) (caller : Party) (day : ℕ) (t : Tables) (routes : List Route) →
    flat_map (allowed_views policy day caller t) routes ≡ views_found policy caller day (flat_map (λ r. found_by r caller.id day t) routes)
views_flat policy caller day t [] = refl
views_flat policy caller day t (r ∷ routes) =
    ap (λ vs. allowed_views policy day caller t r ++ vs) (views_flat policy caller day t routes)
    ∙ sym (views_append policy caller day (found_by r caller.id day t) (flat_map (λ r. found_by r caller.id day t) routes))

rising_views : (views : List FileView) → AreInOrder views → IsRising (λ (v : FileView). v.row.id) views
rising_views [] up = up
rising_views (view ∷ views) up = (up.0, rising_views views up.1)

-- a row of the tables of which the view is made
abbrev IsOfRow : Tables → ℕ → ℕ → FileView → Type 0
IsOfRow t caller day view = (row : FileRow) × IsMember row t.files × (view_found day (found_row t caller row) ≡ view)

view_row : (policy : Policy) (caller : Party) (day : ℕ) (t : Tables) (routes : List Route) (view : FileView) →
    IsMember view (views_found policy caller day (flat_map (λ r. found_by r caller.id day t) routes)) → IsOfRow t caller.id day view
view_row policy caller day t routes view m =
    let all = flat_map (λ r. found_by r caller.id day t) routes in
    let made : IsMadeOf (view_found day) view (filter (may_list policy caller day) all) =
    made_of (view_found day) view (filter (may_list policy caller day) all) m in
    let there = passed (may_list policy caller day) made.0 all made.1 in
    let by : IsGiven (λ r. found_by r caller.id day t) made.0 routes = given_by (λ r. found_by r caller.id day t) made.0 routes there.0 in
    let hit = passed (is_found by.0 caller.id day) made.0 (map (found_row t caller.id) t.files) by.2 in
    let row : IsMadeOf (found_row t caller.id) made.0 t.files = made_of (found_row t caller.id) made.0 t.files hit.0 in
    (row.0, row.1, ap (view_found day) row.2 ∙ made.2)

same_number : (rows : List FileRow) → IsRising (λ (row : FileRow). row.id) rows → (a b : FileRow) → IsMember a rows → IsMember b rows → a.id ≡ b.id → a ≡ b
same_number [] up a b m n e = absurd m
same_number (row ∷ rows) up a b m n e =
    ⊎_elim
    (λ (p : row ≡ a). ⊎_elim (λ (q : row ≡ b). sym p ∙ q)
    (λ q. absurd (apart row b (of_member (λ later. row.id < later.id) b rows up.0 q) (ap (λ (r : FileRow). r.id) p ∙ e))) n)
    (λ p. ⊎_elim
    (λ (q : row ≡ b). absurd (apart row a (of_member (λ later. row.id < later.id) a rows up.0 p) (ap (λ (r : FileRow). r.id) q ∙ sym e)))
    (λ q. same_number rows up.1 a b p q e) n) m
  where
    apart : (x y : FileRow) → x.id < y.id → x.id ≡ y.id → ⊥
    apart x y less same = omega arith

-- views of one number are one
same_view : (policy : Policy) (caller : Party) (day : ℕ) (t : Tables) (routes : List Route) → IsRising (λ (row : FileRow). row.id) t.files →
    (views : List FileView) →
    views ≡ views_found policy caller day (flat_map (λ r. found_by r caller.id day t) routes) → (v w : FileView) → Contains views v → Contains views w →
    w.row.id ≡ v.row.id → w ≡ v
same_view policy caller day t routes up views e v w there here same =
    let a : IsOfRow t caller.id day v = view_row policy caller day t routes v (subst (IsMember v) e (member_from v views there)) in
    let b : IsOfRow t caller.id day w = view_row policy caller day t routes w (subst (IsMember w) e (member_from w views here)) in
    let one : b.0 ≡ a.0 = same_number t.files up b.0 a.0 b.1 a.1 (ap (λ (x : FileView). x.row.id) b.2 ∙ same ∙ ap (λ (x : FileView). x.row.id) (sym a.2)) in
    sym b.2 ∙ ap (λ row. view_found day (found_row t caller.id row)) one ∙ a.2

-- the files gathered over all selections, in rising number and each once, are the listing's
pub files_listed : (policy : Policy) (h : History) (day : ℕ) (caller : Party) (wanted : Filter) → IsHistory h → (views kept : List FileView) →
    views ≡ views_found policy caller day (flat_map (λ r. found_by r caller.id day (tables h)) (routes_of (allowed_by policy caller.role action.List) wanted)) →
    AreInOrder kept → ((v : FileView) → Contains kept v → Contains views v) → ((v : FileView) → Contains views v → Any (λ w. w.row.id ≡ v.row.id) kept) →
    kept ≡ listing policy h day caller wanted
files_listed policy h day caller wanted is views kept e up from all =
    let routes = routes_of (allowed_by policy caller.role action.List) wanted in
    listing_from_routes policy h day caller wanted is views kept
    (subst (IsPermutation (flat_map (allowed_views policy day caller (tables h)) routes)) (views_flat policy caller day (tables h) routes ∙ sym e)
    (IsPermutation-refl (flat_map (allowed_views policy day caller (tables h)) routes)))
    (rising_views kept up) from
    (λ v there.
    let near = all v there in
    let here : Contains kept near.1 = (near.0, near.2, near.3) in
    subst (Contains kept) (same_view policy caller day (tables h) routes (rows_rising h is) views e v near.1 there (from near.1 here) near.4) here)

-- the same of files that were gathered in another order
pub files_gathered : (policy : Policy) (h : History) (day : ℕ) (caller : Party) (wanted : Filter) → IsHistory h →
    (given : List Found) (views kept : List FileView) →
    views ≡ views_found policy caller day given → IsPermutation given (flat_map (λ r. found_by r caller.id day (tables h))
    (routes_of (allowed_by policy caller.role action.List) wanted)) →
    AreInOrder kept → ((v : FileView) → Contains kept v → Contains views v) → ((v : FileView) → Contains views v → Any (λ w. w.row.id ≡ v.row.id) kept) →
    kept ≡ listing policy h day caller wanted
files_gathered policy h day caller wanted is given views kept e moved up from all =
    let found = flat_map (λ r. found_by r caller.id day (tables h)) (routes_of (allowed_by policy caller.role action.List) wanted) in
    let whole = views_found policy caller day found in
    let same : IsPermutation views whole =
    subst (λ (vs : List FileView). IsPermutation vs whole) (sym e)
    (IsPermutation-map (view_found day) (filter (may_list policy caller day) given) (filter (may_list policy caller day) found)
    (pass_alike (may_list policy caller day) given found moved)) in
    files_listed policy h day caller wanted is whole kept refl up
    (λ v there. Contains-permutation views whole v same (from v there))
    (λ v there. all v (Contains-permutation whole views v (IsPermutation-sym views whole same) there))

-- ---- the rows read

pub few_read : (read n m : ℕ) → read ≡ n % 2 ^ 32 → n ≡ m → m ≤ 21 * most_records → read ≡ m
few_read read n m e f few = omega arith

-- the rows that all selections hand out are those opened, and their count is reported
pub rows_read : (policy : Policy) (h : History) (day : ℕ) (caller : Party) (wanted : Filter) → IsHistory h →
    (given : List Found) (listing : Listing) (old new : ℕ) →
    IsPermutation given (flat_map (λ r. found_by r caller.id day (tables h)) (routes_of (allowed_by policy caller.role action.List) wanted)) →
    listing.read ≡ length given % 2 ^ 32 → HandedMore (length given) old new → OpensRows (length (opened policy h day caller wanted)) listing old new
rows_read policy h day caller wanted is given listing old new moved read handed =
    let found = flat_map (λ r. found_by r caller.id day (tables h)) (routes_of (allowed_by policy caller.role action.List) wanted) in
    let count : length given ≡ length (opened policy h day caller wanted) = sym (length_permutation given found moved)
    ∙ same_count policy h day caller wanted in
    record {
      told = few_read listing.read (length given) (length (opened policy h day caller wanted)) read count (few_opened policy h day caller wanted is);
      handed = subst (λ n. HandedMore n old new) count handed;
    }

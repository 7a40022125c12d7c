-- What is found of one file.
use Rattle.std.proofs.Common.{◌≡◌, ◌==◌, ℕ, Bool, cond, List, [], ◌∷◌, map, filter, find, refl, ◌∙◌, ap}
use Rattle.std.specs.Prelude.{Option, Some, option_to_list}
use Rattle.permit_base.specs.declared.route.Route.{Route}
use Rattle.permit_model.specs.Routes.{Found, found_row, owner_in, has_interest_in}
use Rattle.permit_model.specs.Tables.{FileRow, Tables}
use Rattle.permit_store.specs.Handing.{is_found_by_any}
use Rattle.permit_mirror.specs.Search.{found_one}

same_row : (t : Tables) (caller : ℕ) (row : FileRow) (owner : Option ℕ) (conflict : Bool) → owner ≡ owner_in t row.state.parcel →
    conflict ≡ has_interest_in t row.state.parcel caller → found_row t caller row ≡ record { row = row; owner = owner; conflict = conflict }
same_row t caller row owner conflict eo ec = rw (eo, ec) refl

-- a file that is there, by whether its row is found
pub told : (routes : List Route) (caller day : ℕ) (t : Tables) (number : ℕ) (row : FileRow) (owner : Option ℕ) (conflict finds : Bool)
    → find (λ f. f.id == number) t.files ≡ Some row → owner ≡ owner_in t row.state.parcel → conflict ≡ has_interest_in t row.state.parcel caller
    → is_found_by_any routes caller day (record { row = row; owner = owner; conflict = conflict }) ≡ finds
    → found_one routes caller day t number ≡ cond finds (record { row = row; owner = owner; conflict = conflict } ∷ []) []
told routes caller day t number row owner conflict finds e eo ec ef =
    let found : Found = record { row = row; owner = owner; conflict = conflict } in
    ap (λ o. filter (is_found_by_any routes caller day) (map (found_row t caller) (option_to_list o))) e
    ∙ ap (λ (f : Found). filter (is_found_by_any routes caller day) (f ∷ [])) (same_row t caller row owner conflict eo ec)
    ∙ ap (λ b. cond b (found ∷ []) []) ef

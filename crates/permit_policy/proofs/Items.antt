-- The values of a table and the items of an array, as lists of data.
use Rattle.std.proofs.Common.{◌≡◌, refl, ap, sym, ◌∙◌, ◌&&◌, List, [], ◌∷◌, map, length, drop, get_or, ℕ, ◌+◌, ◌<◌, String, Global, string_bytes}
use Rattle.std.specs.List.{list_all}
use Rattle.std.specs.Map.{keys_of}
use Rattle.std.proofs.lemmas.List.{at_drop_more}
use Rattle.toml.specs.View.{view, items_view, members_view}
use Rattle.toml.specs.declared.value.Value.{Value}
use Rattle.permit_policy.specs.PolicyText.{items_list, keys_among, is_among}

pub items_list-view : (values : List Value) → items_list (items_view values) ≡ map view values
items_list-view [] = refl
items_list-view (v ∷ vs) = ap (λ ds. view v ∷ ds) (items_list-view vs)

pub keys_among-view : (keys : List (List ℕ)) (entries : List (String Global × Value)) →
    keys_among keys (members_view entries) ≡ list_all (λ k. is_among keys (string_bytes k)) (keys_of entries)
keys_among-view keys [] = refl
keys_among-view keys (e ∷ es) = ap (λ b. is_among keys (string_bytes e.0) && b) (keys_among-view keys es)

-- an item that was read, and those after it
pub map-view-drop : (values : List Value) (i : ℕ) (v : Value) → i < length values → v ≡ get_or values i v →
    map view (drop i values) ≡ view v ∷ map view (drop (i + 1) values)
map-view-drop values i v h e = at_drop_more (map view) values i v h ∙ ap (λ x. view x ∷ map view (drop (i + 1) values)) (sym e)

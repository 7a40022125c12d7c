-- The keys of a table as a list, and the first that isn't known.
use Rattle.std.proofs.Common.{◌≡◌, refl, ap, sym, ◌∙◌, Bool, true, false, not, ◌&&◌, cond, ℕ, List, [], ◌∷◌, map, length, slice_get, codes, Option, Some, None, option_map, String, Global, Bor, string_bytes}
use Rattle.std.specs.Prelude.{unwrap_or}
use Rattle.std.specs.List.{find}
use Rattle.std.specs.Map.{keys_of}
use Rattle.toml.specs.Data.{Data, Members, no_members, member, as_array, get_member}
use Rattle.std.specs.Slice.{IsItemAt}
use Rattle.std.proofs.lemmas.Option.{slice_get-map, slice_get_past, slice_get_read}
use Rattle.toml.specs.View.{members_view, view}
use Rattle.toml.specs.declared.value.Value.{Value}
use Rattle.permit_policy.specs.PolicyText.{is_among, items_list, keys_among, tables_in}
use Rattle.permit_reasons.specs.Shapes.{keys_in, unknown_key}

keys_in-view : (entries : List (String Global × Value)) → keys_in (members_view entries) ≡ map string_bytes (keys_of entries)
keys_in-view [] = refl
keys_in-view (e ∷ es) = ap (λ ks. string_bytes e.0 ∷ ks) (keys_in-view es)

cond-map : {A B : Type 0} (f : A → B) (b : Bool) (x : A) (o : Option A) → cond b (Some (f x)) (option_map f o) ≡ option_map f (cond b (Some x) o)
cond-map f true x o = refl
cond-map f false x o = refl

pub find-map : {A B : Type 0} (f : A → B) (test : B → Bool) (xs : List A) → find test (map f xs) ≡ option_map f (find (λ x. test (f x)) xs)
find-map f test [] = refl
find-map f test (x ∷ xs) = ap (λ o. cond (test (f x)) (Some (f x)) o) (find-map f test xs) ∙ cond-map f (test (f x)) x (find (λ y. test (f y)) xs)

pub unknown_key-view : (known : List (List ℕ)) (entries : List (String Global × Value)) →
    unknown_key known (members_view entries) ≡ option_map string_bytes (find (λ k. not (is_among known (string_bytes k))) (keys_of entries))
unknown_key-view known entries =
    ap (find (λ k. not (is_among known k))) (keys_in-view entries) ∙ find-map string_bytes (λ k. not (is_among known k)) (keys_of entries)

-- ---- the tables of a text whose keys are known, and of another

known_step : (b : Bool) (key : List ℕ) (o : Option (List ℕ)) (rest : Bool) → cond (not b) (Some key) o ≡ None → (o ≡ None → rest ≡ true) → (b && rest) ≡ true
known_step true key o rest e more = more e
known_step false key o rest e more = cc

keys_known : (known : List (List ℕ)) (members : Members) → unknown_key known members ≡ None → keys_among known members ≡ true
keys_known known no_members e = refl
keys_known known (member key value rest) e =
    known_step (is_among known key) key (unknown_key known rest) (keys_among known rest) e (keys_known known rest)

unknown_step : (b : Bool) (key wrong : List ℕ) (o : Option (List ℕ)) (rest : Bool) → cond (not b) (Some key) o ≡ Some wrong → (o ≡ Some wrong → rest ≡ false) →
    (b && rest) ≡ false
unknown_step true key wrong o rest e more = more e
unknown_step false key wrong o rest e more = refl

keys_unknown : (known : List (List ℕ)) (members : Members) (wrong : List ℕ) → unknown_key known members ≡ Some wrong → keys_among known members ≡ false
keys_unknown known no_members wrong e = cc
keys_unknown known (member key value rest) wrong e =
    unknown_step (is_among known key) key wrong (unknown_key known rest) (keys_among known rest) e (keys_unknown known rest wrong)

tables_known : (members : Members) → unknown_key (codes "rule" ∷ []) members ≡ None →
    tables_in members ≡ unwrap_or (option_map (λ value. option_map items_list (as_array value)) (get_member (codes "rule") members)) (Some [])
tables_known members e = rw (keys_known (codes "rule" ∷ []) members e) refl

pub tables_unknown : (members : Members) (wrong : List ℕ) → unknown_key (codes "rule" ∷ []) members ≡ Some wrong → tables_in members ≡ None
tables_unknown members wrong e = rw (keys_unknown (codes "rule" ∷ []) members wrong e) refl

pub tables_missing : (members : Members) → unknown_key (codes "rule" ∷ []) members ≡ None → get_member (codes "rule") members ≡ None → tables_in members ≡ Some []
tables_missing members known missing =
    tables_known members known
    ∙ ap (λ o. unwrap_or (option_map (λ value. option_map items_list (as_array value)) o) (Some [])) missing

pub tables_listed : (members : Members) (value : Data) → unknown_key (codes "rule" ∷ []) members ≡ None → get_member (codes "rule") members ≡ Some value →
    tables_in members ≡ option_map items_list (as_array value)
tables_listed members value known there =
    tables_known members known
    ∙ ap (λ o. unwrap_or (option_map (λ value. option_map items_list (as_array value)) o) (Some [])) there

-- the item at an index, as it is seen
pub item-view : (values : List Value) (i : ℕ) (item : Option (Bor Value)) → IsItemAt values i item →
    option_map (λ (v : Bor Value). view v.now) item ≡ slice_get (map view values) i
item-view values i None at = sym (slice_get-map view values i ∙ ap (option_map view) (slice_get_past values i at.3))
item-view values i (Some v) at =
    sym (slice_get-map view values i ∙ ap (option_map view) (slice_get_read values (length values) i v.now refl at.3.0 at.1))

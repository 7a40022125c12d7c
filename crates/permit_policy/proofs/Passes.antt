-- A pass over the tables: the place of the first fault, and the parts that were read.
use Rattle.std.proofs.Common.{arith, ◌≡◌, ap, sym, ◌∙◌, Bool, true, false, cond, ℕ, ◌+◌, ◌<◌, List, [], ◌∷◌, ◌++◌, append_assoc, map, length}
use Rattle.std.proofs.Common.{drop, get_or, Option, Some, None}
use Rattle.std.specs.List.{position_from}
use Rattle.std.proofs.lemmas.List.{length-map, get_or-map}
use Rattle.toml.specs.Data.{Data}
use Rattle.toml.specs.View.{view}
use Rattle.toml.specs.declared.value.Value.{Value}
use Rattle.permit_policy.specs.PolicyText.{is_new_name, first_bad_name, name_of}
use Rattle.permit_policy.specs.declared.fault.PolicyError.{PolicyError}
use Rattle.permit_policy.specs.declared.fault.PolicyFault.{PolicyFault}
use Rattle.permit_policy.specs.declared.fault.PolicyFault.TheVariants as fault
use Rattle.permit_policy.specs.Fault.{place_of}
use Rattle.permit_policy.specs.Reading.{IsRefusal, IsListFault}
use Rattle.permit_policy.proofs.Items.{map-view-drop}

-- the fault is here
pub place_here : (test : Data → Bool) (values : List Value) (i : ℕ) (v : Value) → i < length values → v ≡ get_or values i v
    → test (view v) ≡ true → position_from test (i + 1) (map view (drop i values)) ≡ Some (i + 1)
place_here test values i v h e t = grind (arith, map-view-drop)

-- the fault is further on, if there is one
pub place_next : (test : Data → Bool) (values : List Value) (i : ℕ) (v : Value) → i < length values → v ≡ get_or values i v
    → test (view v) ≡ false → position_from test (i + 1) (map view (drop i values)) ≡ position_from test (i + 1 + 1) (map view (drop (i + 1) values))
place_next test values i v h e t = grind (arith, map-view-drop)

-- the same of names, each with those before it
pub bad_name_here : (values : List Value) (i : ℕ) (v : Value) (used : List (List ℕ)) → i < length values → v ≡ get_or values i v
    → is_new_name used (name_of (view v)) ≡ false → first_bad_name (i + 1) used (map name_of (map view (drop i values))) ≡ Some (i + 1)
bad_name_here values i v used h e t = grind (arith, map-view-drop)

-- a part more is a part less that is missing
pub part_more : {A : Type 0} (f : Data → A) (values : List Value) (i : ℕ) (v : Value) (part : A) (parts more all : List A)
    → i < length values → v ≡ get_or values i v → part ≡ f (view v) → more ≡ parts ++ part ∷ []
    → parts ++ map f (map view (drop i values)) ≡ all → more ++ map f (map view (drop (i + 1) values)) ≡ all
part_more f values i v part parts more all h e p m k = grind (arith, append_assoc, map-view-drop)

pub none_only_if : {A : Type 0} (b : Bool) (x : A) → None ≡ cond b (Some x) None → b ≡ false
none_only_if b x e = grind arith

pub none_unless : {A : Type 0} (b : Bool) (x : A) → None ≡ cond b None (Some x) → b ≡ true
none_unless b x e = grind arith

-- the part of the table at a place
pub part_at : {A : Type 0} (f : Data → A) (values : List Value) (i : ℕ) (v : Value) (parts : List A) (d : A) → i < length values → v ≡ get_or values i v
    → parts ≡ map f (map view values) → get_or parts i d ≡ f (view v)
part_at f values i v parts d h e p =
    let within : i < length (map view values) = rw (length-map values view) h in
    ap (λ xs. get_or xs i d) p
    ∙ get_or-map f (map view values) i (view v) d within
    ∙ ap f (get_or-map view values i v (view v) h)
    ∙ ap (λ x. f (view x)) (sym e)

-- a fault in the list of a table is a refusal at its place
pub refusal_at : (bad : Bool) (place : Option ℕ) (k : ℕ) (code : PolicyFault) (error : PolicyError)
    → error ≡ record { code = code; rule = place_of code k } → IsListFault bad code → (bad ≡ true → place ≡ Some k) → IsRefusal fault.List place error
refusal_at bad place k code error e h p = grind arith

-- Lists of texts, and the words that they spell.
use Rattle.std.proofs.Common.{arith, append_assoc, ◌≡◌, refl, ap, Bool, false, ◌||◌, cond, ℕ, ◌+◌, ◌<◌, List, [], ◌∷◌, ◌++◌, map, length}
use Rattle.std.proofs.Common.{drop, take, get_or, ◌-◌, Option, Some, None, bytes_eq}
use Rattle.std.specs.List.{list_any, filter_map}
use Rattle.std.proofs.lemmas.List.{take_rest}
use Rattle.toml.specs.View.{view}
use Rattle.toml.specs.declared.value.Value.{Value}
use Rattle.permit_policy.specs.PolicyText.{text_of, is_among, are_words}
use Rattle.permit_policy.proofs.Items.{map-view-drop}

-- the texts of these values
abbrev pub texts : List Value → List (List ℕ)
texts values = map text_of (map view values)

pub is_among-texts : (values : List Value) (text : List ℕ) → is_among (texts values) text ≡ list_any (λ v. bytes_eq text (text_of (view v))) values
is_among-texts [] text = refl
is_among-texts (v ∷ vs) text = ap (λ b. bytes_eq text (text_of (view v)) || b) (is_among-texts vs text)

unless_some : {A : Type 0} (b : Bool) (o : Option A) (w : A) → Some w ≡ cond b None o → (b ≡ false) × (o ≡ Some w)
unless_some b o w e = grind arith

-- a text that spells a word and doesn't come again
pub are_words-some : {A : Type 0} (read : List ℕ → Option A) (text : List ℕ) (later : List (List ℕ)) (w : A)
    → Some w ≡ cond (is_among later text) None (read text) → are_words read (text ∷ later) ≡ are_words read later
are_words-some read text later w e = grind (arith, unless_some)

pub filter_map-some : {A : Type 0} (read : List ℕ → Option A) (text : List ℕ) (later : List (List ℕ)) (w : A)
    → Some w ≡ cond (is_among later text) None (read text) → filter_map read (text ∷ later) ≡ w ∷ filter_map read later
filter_map-some read text later w e = grind (arith, unless_some)

-- a word that was read at a place of the list
pub record ReadsWord {A : Type 0} (read : List ℕ → Option A) (values : List Value) (i : ℕ) (w : A) : Type 0 where
  pub checked : are_words read (texts (drop i values)) ≡ are_words read (texts (drop (i + 1) values))
  pub words : filter_map read (texts (drop i values)) ≡ w ∷ filter_map read (texts (drop (i + 1) values))

pub word_read : {A : Type 0} (read : List ℕ → Option A) (values : List Value) (i : ℕ) (v : Value) (text : List ℕ) (w : A)
    → i < length values → v ≡ get_or values i v → text ≡ text_of (view v)
    → Some w ≡ cond (is_among (texts (take (length values - (i + 1)) (drop (i + 1) values))) text) None (read text)
    → ReadsWord read values i w
word_read read values i v text w h e t r = grind (arith, map-view-drop, take_rest, are_words-some, filter_map-some)

-- a word more is a word less that is missing
pub missing_less : {A : Type 0} (read : List ℕ → Option A) (values : List Value) (i : ℕ) (w : A) (words more all : List A)
    → ReadsWord read values i w → more ≡ words ++ w ∷ [] → words ++ filter_map read (texts (drop i values)) ≡ all
    → more ++ filter_map read (texts (drop (i + 1) values)) ≡ all
missing_less read values i w words more all r e h = grind (arith, append_assoc)

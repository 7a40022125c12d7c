-- An object of texts, of whole numbers and of such objects, with its keys in order, is read back from its compact text.
use Rattle.std.proofs.Common.{◌≡◌, ℕ, zero, suc, ◌^◌, ◌<◌, ◌≤◌, List, [], Bool, true, false, Ordering, Some, option_and_then}
use Rattle.std.proofs.Common.{refl, sym, ap, ◌∙◌, arith, append-nil}
use Rattle.std.specs.Prelude.{⊤, IsTrue}
use Rattle.std.proofs.lemmas.Bool.{false≢true}
use Rattle.std.specs.Ordering.{nat_cmp, match_ordering}
use Rattle.std.specs.Cmp.Lexicographic.{slice_cmp}
use Rattle.json.specs.Lex.{tokens}
use Rattle.json.specs.Json as json
use Rattle.json.specs.Tree as tree
use Rattle.json.proofs.Printed.Decimals.{IsNumber-decimal}
use Rattle.json.proofs.Printed.Tokens.{tokens-print}
use Rattle.json.proofs.Printed.Trees.{value-json_tokens, ArePrintable-json_tokens}
use Rattle.serde_json.specs.Data.{Data, null, boolean, number, unsigned, negative, float, string, array, object, Members, no_members, member, put}
use Rattle.serde_json.specs.Read.{of_json, of_members, max_depth, read}
use Rattle.serde_json.specs.Written.{outline, members_outline, compact_text}
use Rattle.serde_json.proofs.Numbers.{number_of-decimal}
use Rattle.serde_json.proofs.Texts.{print-outline}

-- ---- members in order

-- the members of the first, and then those of the second
abbrev pub join : Members → Members → Members
join no_members later = later
join (member k d first) later = member k d (join first later)

-- the key is above all that were found
abbrev pub is_last : List ℕ → Members → Bool
is_last k no_members = true
is_last k (member l e found) = match_ordering (slice_cmp nat_cmp k l) false false (is_last k found)

abbrev mutual
  -- a text, a whole number of 64 bits, null, or an object of these with its keys in order, which nests no deeper than the number
  pub IsPlain : ℕ → Data → Type 0
  IsPlain depth null = ⊤
  IsPlain depth (boolean b) = ⊥
  IsPlain depth (number (unsigned n)) = n < 2 ^ 64
  IsPlain depth (number (negative z)) = ⊥
  IsPlain depth (number (float x)) = ⊥
  IsPlain depth (string s) = ⊤
  IsPlain depth (array ds) = ⊥
  IsPlain zero (object ms) = ⊥
  IsPlain (suc depth) (object ms) = ArePlain depth no_members ms

  -- the members may come after those that were found
  pub ArePlain : ℕ → Members → Members → Type 0
  ArePlain depth found no_members = ⊤
  ArePlain depth found (member k d ms) = IsTrue (is_last k found) × IsPlain depth d × ArePlain depth (join found (member k d no_members)) ms

join-no_members : (ms : Members) → join ms no_members ≡ ms
join-no_members no_members = refl
join-no_members (member k d ms) = ap (member k d) (join-no_members ms)

join-join : (a b c : Members) → join (join a b) c ≡ join a (join b c)
join-join no_members b c = refl
join-join (member k d a) b c = ap (member k d) (join-join a b c)

last_by : (o : Ordering) (k l : List ℕ) (d e : Data) (found : Members) → IsTrue (match_ordering o false false (is_last k found))
    → (IsTrue (is_last k found) → put k d found ≡ join found (member k d no_members))
    → match_ordering o (member k d (member l e found)) (member l d found) (member l e (put k d found)) ≡ member l e (join found (member k d no_members))
last_by o k l d e found h ih = grind (arith, false≢true)

-- a key above all that were found goes last
put_last : (k : List ℕ) (d : Data) (found : Members) → IsTrue (is_last k found) → put k d found ≡ join found (member k d no_members)
put_last k d no_members h = refl
put_last k d (member l e found) h = last_by (slice_cmp nat_cmp k l) k l d e found h (put_last k d found)

-- ---- the value of its outline

mutual
  of_json-outline : (depth : ℕ) (d : Data) → IsPlain depth d → of_json (outline d) ≡ Some d
  of_json-outline depth null h = refl
  of_json-outline depth (boolean b) h = absurd h
  of_json-outline depth (number (unsigned n)) h = rw (number_of-decimal n h) refl
  of_json-outline depth (number (negative z)) h = absurd h
  of_json-outline depth (number (float x)) h = absurd h
  of_json-outline depth (string s) h = refl
  of_json-outline depth (array ds) h = absurd h
  of_json-outline zero (object ms) h = absurd h
  of_json-outline (suc depth) (object ms) h = rw (of_members-outline depth no_members ms h) refl

  of_members-outline : (depth : ℕ) (found ms : Members) → ArePlain depth found ms → of_members (members_outline ms) found ≡ Some (join found ms)
  of_members-outline depth found no_members h = ap Some (sym (join-no_members found))
  of_members-outline depth found (member k d ms) h =
      ap (option_and_then (λ e. of_members (members_outline ms) (put k e found))) (of_json-outline depth d h.1)
      ∙ ap (of_members (members_outline ms)) (put_last k d found h.0)
      ∙ of_members-outline depth (join found (member k d no_members)) ms h.2
      ∙ ap Some (join-join found (member k d no_members) ms)

mutual
  has_numbers : (depth : ℕ) (d : Data) → IsPlain depth d → tree.HasNumbers (outline d)
  has_numbers depth null h = tt
  has_numbers depth (boolean b) h = absurd h
  has_numbers depth (number (unsigned n)) h = IsNumber-decimal n h
  has_numbers depth (number (negative z)) h = absurd h
  has_numbers depth (number (float x)) h = absurd h
  has_numbers depth (string s) h = tt
  has_numbers depth (array ds) h = absurd h
  has_numbers zero (object ms) h = absurd h
  has_numbers (suc depth) (object ms) h = have_numbers depth no_members ms h

  have_numbers : (depth : ℕ) (found ms : Members) → ArePlain depth found ms → tree.MembersHaveNumbers (members_outline ms)
  have_numbers depth found no_members h = tt
  have_numbers depth found (member k d ms) h = (has_numbers depth d h.1, have_numbers depth (join found (member k d no_members)) ms h.2)

mutual
  depth_within : (depth : ℕ) (d : Data) → IsPlain depth d → tree.depth (outline d) ≤ depth
  depth_within depth null h = omega arith
  depth_within depth (boolean b) h = absurd h
  depth_within depth (number (unsigned n)) h = omega arith
  depth_within depth (number (negative z)) h = absurd h
  depth_within depth (number (float x)) h = absurd h
  depth_within depth (string s) h = omega arith
  depth_within depth (array ds) h = absurd h
  depth_within zero (object ms) h = absurd h
  depth_within (suc depth) (object ms) h = omega (arith, depths_within depth no_members ms h)

  depths_within : (depth : ℕ) (found ms : Members) → ArePlain depth found ms → tree.members_depth (members_outline ms) ≤ depth
  depths_within depth found no_members h = omega arith
  depths_within depth found (member k d ms) h =
      omega (arith, depth_within depth d h.1, depths_within depth (join found (member k d no_members)) ms h.2)

-- ---- the text

pub read-compact_text : (depth : ℕ) (d : Data) → IsPlain depth d → depth ≤ 127 → read (compact_text d) ≡ Some d
read-compact_text depth d h shallow =
    let ts = tree.json_tokens (outline d) in
    let lexed : tokens (compact_text d) ≡ ts =
    ap tokens (sym (print-outline d)) ∙ tokens-print ts (ArePrintable-json_tokens (outline d) (has_numbers depth d h)) in
    ap (λ us. option_and_then of_json (option_and_then (λ p. json.if_last p.0 p.1) (json.value max_depth us))) (lexed ∙ sym (append-nil ts))
    ∙ ap (λ o. option_and_then of_json (option_and_then (λ p. json.if_last p.0 p.1) o))
    (value-json_tokens (outline d) max_depth [] (omega (arith, depth_within depth d h)))
    ∙ of_json-outline depth d h

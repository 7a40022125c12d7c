-- Masks of sets, relation by relation.
use Rattle.std.proofs.Common.{arith, ◌≡◌, ap, sym, ◌∙◌, Bool, ◌&&◌, ◌||◌, ℕ, ◌+◌, ◌<◌, ◌≤◌, bit_and, bit_or, List, length, drop, get_or}
use Rattle.std.specs.List.{list_any}
use Rattle.std.proofs.Math.Bool.{or-false}
use Rattle.std.proofs.lemmas.List.{at_drop_more, drop_all}
use Rattle.permit_base.specs.declared.words.Relation.{Relation}
use Rattle.permit_base.specs.declared.words.Relations.{Relations}
use Rattle.permit_model.specs.Facts.{holds}
use Rattle.permit_policy.specs.Masks.{has_set}
use Rattle.permit_policy.proofs.Bits.{set_in_and, set_in_or}

or_assoc : (a b c : Bool) → ((a || b) || c) ≡ (a || (b || c))
or_assoc a b c = grind arith

-- the sets of one relation more
pub one_more : (set : Relations) (words : List Relation) (i : ℕ) (d : Relation) (sets more : ℕ) → i < length words
    → has_set more set ≡ holds set (get_or words i d)
    → (has_set sets set || list_any (holds set) (drop i words)) ≡ list_any (holds set) words
    → (has_set (bit_or sets more) set || list_any (holds set) (drop (i + 1) words)) ≡ list_any (holds set) words
one_more set words i d sets more h e k =
    let rest = list_any (holds set) (drop (i + 1) words) in
    ap (λ b. b || rest) (set_in_or sets more set)
    ∙ or_assoc (has_set sets set) (has_set more set) rest
    ∙ ap (λ b. has_set sets set || (b || rest)) e
    ∙ ap (λ b. has_set sets set || b) (sym (at_drop_more (list_any (holds set)) words i d h))
    ∙ k

pub all_words : (set : Relations) (words : List Relation) (i sets : ℕ) → length words ≤ i
    → (has_set sets set || list_any (holds set) (drop i words)) ≡ list_any (holds set) words
    → has_set sets set ≡ list_any (holds set) words
all_words set words i sets h k = grind (arith, or-false, drop_all)

pub in_both : (set : Relations) (a b : ℕ) (p q : Bool) → has_set a set ≡ p → has_set b set ≡ q → has_set (bit_and a b) set ≡ (p && q)
in_both set a b p q e k = set_in_and a b set ∙ ap (λ x. x && has_set b set) e ∙ ap (λ x. p && x) k

-- Sets of relations that have what a pattern asks.
use Rattle.std.proofs.Common.{◌≡◌, ◌≢◌, ◌⊎◌, inl, inr, refl, ap, sym, ◌∙◌, arith, w64, Bool, true, false, not, ◌&&◌, ◌||◌, ◌==◌, ℕ, ◌+◌, ◌-◌, ◌<◌, ◌≤◌, ◌^◌, List, [], ◌∷◌, ◌++◌, bit_and}
use Rattle.std.specs.Int.{bit_not}
use Rattle.std.specs.List.{list_any}
use Rattle.std.proofs.lemmas.Bool.Decides.{eqb_tells}
use Rattle.std.proofs.lemmas.List.Folds.{list_any-append}
use Rattle.permit_base.specs.declared.words.Relation.{Relation}
use Rattle.permit_base.specs.declared.words.Relation.TheVariants.{Applicant, Contractor, Owner, AssignedReviewer, AssignedInspector, Conflict}
use Rattle.permit_base.specs.declared.words.Relations.{Relations}
use Rattle.permit_policy.specs.Masks.{has_bit, has_set, set_number}
use Rattle.permit_policy.specs.Patterns.{asks, exactly, fits, without}
use Rattle.permit_policy.specs.declared.patterns.Pattern.{Pattern}
use Rattle.permit_policy.proofs.Bits.{set_below, set_in_and, set_in_not, set_in_every, set_in_none}
use Rattle.permit_policy.proofs.Marking.{set_of_number}
use Rattle.permit_policy.proofs.RelationSets.{in_both}

pub asked_not : (with without : Bool) (sets : ℕ) (set : Relations) → with ≡ false → without ≡ true → sets < 2 ^ 64
    → has_set (bit_not w64 sets) set ≡ asks with without (has_set sets set)
asked_not with without sets set e f fits = rw (e, f) (set_in_not sets set fits)

pub asked_any : (with without : Bool) (sets : ℕ) (set : Relations) → with ≡ false → without ≡ false → has_set (2 ^ 64 - 1) set ≡ asks with without (has_set sets set)
asked_any with without sets set e f = rw (e, f) (set_in_every set)

pub six_in : (set : Relations) (a b c d e f : ℕ) (p q r s t u : Bool) → has_set a set ≡ p → has_set b set ≡ q → has_set c set ≡ r → has_set d set ≡ s → has_set e set ≡ t → has_set f set ≡ u
    → has_set (bit_and (bit_and (bit_and (bit_and (bit_and a b) c) d) e) f) set ≡ (p && q && r && s && t && u)
six_in set a b c d e f p q r s t u i j k l m n =
    in_both set _ f _ u (in_both set _ e _ t (in_both set _ d _ s (in_both set _ c _ r (in_both set a b p q i j) k) l) m) n

pub exactly_by : (set : Relations) (a b c d e f : Bool) → a ≡ set.applicant → b ≡ set.contractor → c ≡ set.owner → d ≡ set.assigned_reviewer → e ≡ set.assigned_inspector → f ≡ set.conflict
    → exactly (record { applicant = a; contractor = b; owner = c; assigned_reviewer = d; assigned_inspector = e; conflict = f }) ≡ exactly set
exactly_by set a b c d e f p q r s t u = rw (p, q, r, s, t, u) refl

-- a bit of the sets with a relation, by the set of that number
pub bit_of : (sets number : ℕ) (set : Relations) (bit held : Bool) → set_number set ≡ number → bit ≡ has_bit sets number → has_set sets set ≡ held → bit ≡ held
bit_of sets number set bit held e f g = f ∙ ap (has_bit sets) (sym e) ∙ g

-- ---- wider patterns

all_six : (a b c d e f : Bool) → (a && b && c && d && e && f) ≡ true → (a ≡ true) × (b ≡ true) × (c ≡ true) × (d ≡ true) × (e ≡ true) × (f ≡ true)
all_six a b c d e f h = grind arith

six_hold : (a b c d e f : Bool) → a ≡ true → b ≡ true → c ≡ true → d ≡ true → e ≡ true → f ≡ true → (a && b && c && d && e && f) ≡ true
six_hold a b c d e f p q r s t u = grind arith

-- what is asked, relation by relation
fits_in : (p : Pattern) (set : Relations) → fits p set ≡ true → (asks p.with.applicant p.without.applicant set.applicant ≡ true) × (asks p.with.contractor p.without.contractor set.contractor ≡ true) × (asks p.with.owner p.without.owner set.owner ≡ true) × (asks p.with.assigned_reviewer p.without.assigned_reviewer set.assigned_reviewer ≡ true) × (asks p.with.assigned_inspector p.without.assigned_inspector set.assigned_inspector ≡ true) × (asks p.with.conflict p.without.conflict set.conflict ≡ true)
fits_in p set e = all_six (asks p.with.applicant p.without.applicant set.applicant) (asks p.with.contractor p.without.contractor set.contractor) (asks p.with.owner p.without.owner set.owner) (asks p.with.assigned_reviewer p.without.assigned_reviewer set.assigned_reviewer) (asks p.with.assigned_inspector p.without.assigned_inspector set.assigned_inspector) (asks p.with.conflict p.without.conflict set.conflict) e

fits_by : (p : Pattern) (set : Relations) → asks p.with.applicant p.without.applicant set.applicant ≡ true → asks p.with.contractor p.without.contractor set.contractor ≡ true → asks p.with.owner p.without.owner set.owner ≡ true → asks p.with.assigned_reviewer p.without.assigned_reviewer set.assigned_reviewer ≡ true → asks p.with.assigned_inspector p.without.assigned_inspector set.assigned_inspector ≡ true → asks p.with.conflict p.without.conflict set.conflict ≡ true
    → fits p set ≡ true
fits_by p set = six_hold (asks p.with.applicant p.without.applicant set.applicant) (asks p.with.contractor p.without.contractor set.contractor) (asks p.with.owner p.without.owner set.owner) (asks p.with.assigned_reviewer p.without.assigned_reviewer set.assigned_reviewer) (asks p.with.assigned_inspector p.without.assigned_inspector set.assigned_inspector) (asks p.with.conflict p.without.conflict set.conflict)

-- a set that has what is asked has it too where nothing is asked of a relation
pub wider_fits : (p : Pattern) (relation : Relation) (set : Relations) → fits p set ≡ true
    → fits (record { with = without p.with relation; without = without p.without relation }) set ≡ true
wider_fits p Applicant set e = let h = fits_in p set e in fits_by (record { with = without p.with Applicant; without = without p.without Applicant }) set refl h.1 h.2 h.3 h.4 h.5
wider_fits p Contractor set e = let h = fits_in p set e in fits_by (record { with = without p.with Contractor; without = without p.without Contractor }) set h.0 refl h.2 h.3 h.4 h.5
wider_fits p Owner set e = let h = fits_in p set e in fits_by (record { with = without p.with Owner; without = without p.without Owner }) set h.0 h.1 refl h.3 h.4 h.5
wider_fits p AssignedReviewer set e = let h = fits_in p set e in fits_by (record { with = without p.with AssignedReviewer; without = without p.without AssignedReviewer }) set h.0 h.1 h.2 refl h.4 h.5
wider_fits p AssignedInspector set e = let h = fits_in p set e in fits_by (record { with = without p.with AssignedInspector; without = without p.without AssignedInspector }) set h.0 h.1 h.2 h.3 refl h.5
wider_fits p Conflict set e = let h = fits_in p set e in fits_by (record { with = without p.with Conflict; without = without p.without Conflict }) set h.0 h.1 h.2 h.3 h.4 refl

none_outside : (a b : Bool) → (a && not b) ≡ false → a ≡ true → b ≡ true
none_outside a b e f = grind arith

-- a mask that has all sets of another
pub within_mask : (sets mask : ℕ) (set : Relations) → mask < 2 ^ 64 → bit_and sets (bit_not w64 mask) ≡ 0 → has_set sets set ≡ true → has_set mask set ≡ true
within_mask sets mask set fits e h =
    none_outside (has_set sets set) (has_set mask set)
    (sym (set_in_and sets (bit_not w64 mask) set ∙ ap (λ b. has_set sets set && b) (set_in_not mask set fits)) ∙ ap (λ n. has_set n set) e ∙ set_in_none set) h

-- ---- one set alone

asks_itself : (b : Bool) → asks b (not b) b ≡ true
asks_itself b = grind arith

pub fits_itself : (set : Relations) → fits (exactly set) set ≡ true
fits_itself set = fits_by (exactly set) set (asks_itself set.applicant) (asks_itself set.contractor) (asks_itself set.owner) (asks_itself set.assigned_reviewer) (asks_itself set.assigned_inspector) (asks_itself set.conflict)

same_held : (a b : Bool) → asks a (not a) b ≡ true → b ≡ a
same_held a b e = grind arith

of_parts : (set : Relations) (a b c d e f : Bool) → a ≡ set.applicant → b ≡ set.contractor → c ≡ set.owner → d ≡ set.assigned_reviewer → e ≡ set.assigned_inspector → f ≡ set.conflict → (record { applicant = a; contractor = b; owner = c; assigned_reviewer = d; assigned_inspector = e; conflict = f }) ≡ set
of_parts set a b c d e f p q r s t u = rw (p, q, r, s, t, u) refl

same_relations : (a b : Relations) → a.applicant ≡ b.applicant → a.contractor ≡ b.contractor → a.owner ≡ b.owner → a.assigned_reviewer ≡ b.assigned_reviewer → a.assigned_inspector ≡ b.assigned_inspector → a.conflict ≡ b.conflict → a ≡ b
same_relations a b p q r s t u = of_parts b a.applicant a.contractor a.owner a.assigned_reviewer a.assigned_inspector a.conflict p q r s t u

pub fits_alone : (one set : Relations) → fits (exactly one) set ≡ true → set ≡ one
fits_alone one set e =
    let h = fits_in (exactly one) set e in
    same_relations set one (same_held one.applicant set.applicant h.0) (same_held one.contractor set.contractor h.1) (same_held one.owner set.owner h.2) (same_held one.assigned_reviewer set.assigned_reviewer h.3) (same_held one.assigned_inspector set.assigned_inspector h.4) (same_held one.conflict set.conflict h.5)

-- ---- pattern after pattern

-- what the patterns have and what is left is what the mask has, and nothing is left below the number
pub record Leaves (mask number left : ℕ) (patterns : List Pattern) : Type 0 where
  pub all : (set : Relations) → (list_any (λ p. fits p set) patterns || has_set left set) ≡ has_set mask set
  pub done : (set : Relations) → set_number set < number → has_set left set ≡ false

no_more : (a b m : Bool) → b ≡ false → (a || b) ≡ m → a ≡ m
no_more a b m e f = grind arith

pub leaves_all : (mask number left : ℕ) (patterns : List Pattern) → 64 ≤ number → Leaves mask number left patterns
    → (set : Relations) → list_any (λ p. fits p set) patterns ≡ has_set mask set
leaves_all mask number left patterns h l = λ set.
    let known = set_below set in
    no_more _ _ _ (l.done set (omega arith)) (l.all set)

at_number_by : (left number n : ℕ) → (((n == number) ≡ true) × (n ≡ number)) ⊎ (((n == number) ≡ false) × (n ≢ number)) → n < number + 1 → has_bit left number ≡ false
    → (n < number → has_bit left n ≡ false) → has_bit left n ≡ false
at_number_by left number n (inl h) lt none before = ap (has_bit left) h.1 ∙ none
at_number_by left number n (inr h) lt none before = before (omega arith)

at_number : (left number n : ℕ) → n < number + 1 → has_bit left number ≡ false → (n < number → has_bit left n ≡ false) → has_bit left n ≡ false
at_number left number n h none before = at_number_by left number n (eqb_tells n number) h none before

pub leaves_skip : (mask number left : ℕ) (patterns : List Pattern) → has_bit left number ≡ false → Leaves mask number left patterns → Leaves mask (number + 1) left patterns
leaves_skip mask number left patterns none l = record { all = l.all; done = λ set h. at_number left number (set_number set) h none (l.done set) }

one_pattern_more : (before more fit left rest mask : Bool) → more ≡ (before || (fit || false)) → rest ≡ (left && not fit) → (fit ≡ true → mask ≡ true) → (before || left) ≡ mask
    → (more || rest) ≡ mask
one_pattern_more before more fit left rest mask e f g h = grind arith

none_of : (left fit rest : Bool) → rest ≡ (left && not fit) → fit ≡ true → rest ≡ false
none_of left fit rest e f = grind arith

still_none : (left fit rest : Bool) → rest ≡ (left && not fit) → left ≡ false → rest ≡ false
still_none left fit rest e f = grind arith

taken_at : (n number : ℕ) (left fit rest : Bool) → (((n == number) ≡ true) × (n ≡ number)) ⊎ (((n == number) ≡ false) × (n ≢ number)) → n < number + 1 → rest ≡ (left && not fit)
    → (n ≡ number → fit ≡ true) → (n < number → left ≡ false) → rest ≡ false
taken_at n number left fit rest (inl h) lt e own before = none_of left fit rest e (own h.1)
taken_at n number left fit rest (inr h) lt e own before = still_none left fit rest e (before (omega arith))

-- one pattern more, which has the set of the number
pub leaves_next : (mask number left sets rest : ℕ) (pattern : Pattern) (patterns : List Pattern) → sets < 2 ^ 64 → rest ≡ bit_and left (bit_not w64 sets)
    → ((set : Relations) → has_set sets set ≡ fits pattern set)
    → ((set : Relations) → set_number set ≡ number → fits pattern set ≡ true)
    → ((set : Relations) → fits pattern set ≡ true → has_set mask set ≡ true)
    → Leaves mask number left patterns → Leaves mask (number + 1) rest (patterns ++ pattern ∷ [])
leaves_next mask number left sets rest pattern patterns fit e has own within l =
    let taken : (set : Relations) → has_set rest set ≡ (has_set left set && not (fits pattern set)) =
    λ set. ap (λ n. has_set n set) e ∙ set_in_and left (bit_not w64 sets) set ∙ ap (λ b. has_set left set && b) (set_in_not sets set fit ∙ ap not (has set)) in
    record {
      all = λ set. one_pattern_more _ _ _ _ _ _ (list_any-append _ patterns (pattern ∷ [])) (taken set) (within set) (l.all set);
      done = λ set h. taken_at (set_number set) number _ _ _ (eqb_tells (set_number set) number) h (taken set) (own set) (l.done set);
    }

in_mask : (any left mask : Bool) → (any || left) ≡ mask → left ≡ true → mask ≡ true
in_mask any left mask e f = grind arith

-- the pattern of the number's set alone has sets of the mask, if that set is left
pub alone_within : (mask number left : ℕ) (patterns : List Pattern) (pattern : Pattern) → number < 64 → has_bit left number ≡ true → Leaves mask number left patterns
    → ((set : Relations) → set_number set ≡ number → pattern ≡ exactly set) → (set : Relations) → fits pattern set ≡ true → has_set mask set ≡ true
alone_within mask number left patterns pattern lt bit l exact set e =
    let one = set_of_number number lt in
    let same : set ≡ one.0 = fits_alone one.0 set (sym (ap (λ p. fits p set) (exact one.0 one.1)) ∙ e) in
    in_mask _ (has_set left set) _ (l.all set) (ap (λ x. has_bit left (set_number x)) same ∙ ap (has_bit left) one.1 ∙ bit)

-- a pattern that has at least the number's set has it
pub number_fits : (number : ℕ) (alone wide : Pattern) → ((set : Relations) → set_number set ≡ number → alone ≡ exactly set)
    → ((set : Relations) → fits alone set ≡ true → fits wide set ≡ true) → (set : Relations) → set_number set ≡ number → fits wide set ≡ true
number_fits number alone wide exact wider set e = wider set (ap (λ p. fits p set) (exact set e) ∙ fits_itself set)

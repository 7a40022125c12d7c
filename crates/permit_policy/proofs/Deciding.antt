-- What the rules so far decide for a set of relations in a cell.
use Rattle.std.proofs.Common.{rules, ◌≡◌, refl, ap, sym, ◌∙◌, arith, w64, Bool, true, false, not, cond, ◌&&◌, ◌||◌, ℕ, ◌+◌, ◌<◌, ◌≤◌, ◌^◌, List, ◌∷◌, ◌++◌, [], length}
use Rattle.std.proofs.Common.{drop, get_or, bit_and, bit_or, length-append}
use Rattle.std.specs.Int.{bit_not}
use Rattle.std.proofs.Math.ListN.{get_or-append}
use Rattle.std.proofs.Math.Seq.{get_or-append_seam}
use Rattle.std.proofs.lemmas.List.{at_drop_more, get_or_default}
use Rattle.permit_base.specs.declared.words.Role.{Role}
use Rattle.permit_base.specs.declared.words.Action.{Action}
use Rattle.permit_base.specs.declared.words.Relations.{Relations}
use Rattle.permit_model.specs.Facts.{Facts}
use Rattle.permit_model.specs.Policy.{Rule, Policy, matches, matches_relations, is_allow, allows}
use Rattle.permit_model.specs.Opened.{Cell, cell_facts, allowed_by}
use Rattle.permit_policy.specs.Masks.{cell_number, has_set}
use Rattle.permit_policy.specs.Hits.{is_for, covers, IsHit, AreHits}
use Rattle.permit_policy.proofs.Bits.{set_in_and, set_in_or, set_in_not, set_in_none}

-- ---- masks, one more

pub one_mask_more : (P : ℕ → ℕ → Type 0) (masks more : List ℕ) (i mask : ℕ) → length masks ≡ i → P i mask → more ≡ masks ++ mask ∷ []
    → ((k : ℕ) → k < i → P k (get_or masks k 0)) → (k : ℕ) → k < i + 1 → P k (get_or more k 0)
one_mask_more P masks more i mask n p m each = grind (arith, get_or-append, get_or-append_seam)

pub count_more : (masks more : List ℕ) (i mask : ℕ) → length masks ≡ i → more ≡ masks ++ mask ∷ [] → length more ≡ i + 1
count_more masks more i mask n m = ap length m ∙ length-append masks (mask ∷ []) ∙ ap (λ k. k + 1) n

pub counted : (masks : List ℕ) (n whole : ℕ) → length masks ≡ n → whole ≤ n → n ≤ whole → length masks ≡ whole
counted masks n whole e h k = omega arith

-- what holds of a rule and its mask
abbrev pub OfRule : (Rule → ℕ → Type 0) → Policy → ℕ → ℕ → Type 0
OfRule P rules k mask = (rule : Rule) → rule ≡ get_or rules k rule → P rule mask

pub of_rule : (P : Rule → ℕ → Type 0) (rules : Policy) (i : ℕ) (r : Rule) (mask : ℕ) → i < length rules → r ≡ get_or rules i r → P r mask →
    OfRule P rules i mask
of_rule P rules i r mask h e p = λ rule q. let same : rule ≡ r = q ∙ get_or_default rules i rule r h ∙ sym e in rw same p

-- ---- the rules that are left

-- where no rule has decided, those from the place on do, else what was allowed is what the policy allows
pub record Follows (rules : Policy) (place : ℕ) (facts : Facts) (undecided allowed : Bool) : Type 0 where
  pub same : cond undecided (allows (drop place rules) facts) allowed ≡ allows rules facts
  pub fresh : undecided ≡ true → allowed ≡ false

pub follows_start : (rules : Policy) (facts : Facts) (undecided allowed : Bool) → undecided ≡ true → allowed ≡ false → Follows rules 0 facts undecided allowed
follows_start rules facts undecided allowed u a = record { same = rw u refl; fresh = λ h. a }

-- what is decided by a rule that matches or doesn't
record Steps (matched undecided allowed allow rest : Bool) (whole : Bool) : Type 0 where
  same : cond (undecided && not (matched && undecided)) rest (allowed || (allow && (matched && undecided))) ≡ whole
  fresh : (undecided && not (matched && undecided)) ≡ true → (allowed || (allow && (matched && undecided))) ≡ false

steps : (matched undecided allowed allow rest whole : Bool) → cond undecided (cond matched allow rest) allowed ≡ whole → (undecided ≡ true → allowed ≡ false)
    → Steps matched undecided allowed allow rest whole
steps matched undecided allowed allow rest whole e f = grind arith

allows_first : (rule : Rule) (rules : Policy) (facts : Facts) (b : Bool) → matches rule facts ≡ b
    → allows (rule ∷ rules) facts ≡ cond b (is_allow rule.effect) (allows rules facts)
allows_first rule rules facts b e = grind arith

-- a rule's conditions by the parts that are tested apart
in_parts : (a b c d e f : Bool) → (a && b && c && d && e && f) ≡ ((d && e && f) && ((a && c) && b))
in_parts a b c d e f = grind arith

pub matches_in : (rule : Rule) (role : Role) (action : Action) (cell : Cell) (set : Relations)
    → matches rule (cell_facts role action cell set) ≡ (covers rule cell && (is_for rule role action && matches_relations rule.relation set))
matches_in rule role action cell set = grind (arith, in_parts)

and_assoc : (a b c : Bool) → (a && b && c) ≡ (a && (b && c))
and_assoc a b c = grind arith

-- a rule more
pub follows_next : (rules : Policy) (i : ℕ) (rule : Rule) (role : Role) (action : Action) (cell : Cell) (set : Relations)
    (hits undecided allowed decided granted : ℕ) → i < length rules → rule ≡ get_or rules i rule → decided < 2 ^ 64
    → IsHit role action rule hits
    → has_set decided set ≡ (covers rule cell && has_set hits set && has_set undecided set)
    → has_set granted set ≡ (is_allow rule.effect && has_set decided set)
    → Follows rules i (cell_facts role action cell set) (has_set undecided set) (has_set allowed set)
    → Follows rules (i + 1) (cell_facts role action cell set) (has_set (bit_and undecided (bit_not w64 decided)) set) (has_set (bit_or allowed granted) set)
follows_next rules i rule role action cell set hits undecided allowed decided granted h e fits hit d g f =
    let facts = cell_facts role action cell set in
    let u = has_set undecided set in
    let m = covers rule cell && has_set hits set in
    let rest = allows (drop (i + 1) rules) facts in
    let matched : matches rule facts ≡ m = matches_in rule role action cell set ∙ ap (λ b. covers rule cell && b) (sym (hit set)) in
    let first : allows (drop i rules) facts ≡ cond m (is_allow rule.effect) rest =
    at_drop_more (λ rs. allows rs facts) rules i rule h ∙ ap (λ r. allows (r ∷ drop (i + 1) rules) facts) (sym e)
    ∙ allows_first rule (drop (i + 1) rules) facts m matched in
    let s : Steps m u (has_set allowed set) (is_allow rule.effect) rest (allows rules facts) =
    steps m u (has_set allowed set) (is_allow rule.effect) rest (allows rules facts) (ap (λ b. cond u b (has_set allowed set)) (sym first) ∙ f.same) f.fresh in
    let left : has_set (bit_and undecided (bit_not w64 decided)) set ≡ (u && not (m && u)) =
    set_in_and undecided (bit_not w64 decided) set ∙ ap (λ b. u && b) (set_in_not decided set fits ∙ ap not d) in
    let given : has_set (bit_or allowed granted) set ≡ (has_set allowed set || (is_allow rule.effect && (m && u))) =
    set_in_or allowed granted set ∙ ap (λ b. has_set allowed set || b) (g ∙ ap (λ b. is_allow rule.effect && b) d) in
    rw (left, given) (record { same = s.same; fresh = s.fresh })

-- ---- what a rule decides

pub decided_where : (hits undecided : ℕ) (covered : Bool) (set : Relations) → covered ≡ true
    → has_set (bit_and hits undecided) set ≡ (covered && has_set hits set && has_set undecided set)
decided_where hits undecided covered set e = rw e (set_in_and hits undecided set)

pub decided_nowhere : (hits undecided : ℕ) (covered : Bool) (set : Relations) → covered ≡ false
    → has_set 0 set ≡ (covered && has_set hits set && has_set undecided set)
decided_nowhere hits undecided covered set e = rw e (set_in_none set)

and_false : (b : Bool) → (b && false) ≡ false
and_false b = grind arith

pub none_decided : (hits undecided : ℕ) (covered : Bool) (set : Relations) → bit_and hits undecided ≡ 0
    → has_set 0 set ≡ (covered && has_set hits set && has_set undecided set)
none_decided hits undecided covered set e = grind (arith, set_in_and, set_in_none, and_assoc, and_false)

-- ---- the words of the cells

-- the word of a cell's number says what is allowed there
abbrev pub OfCell : Policy → Role → Action → ℕ → ℕ → Type 0
OfCell policy role action n word = (cell : Cell) → cell_number cell ≡ n → (set : Relations) → has_set word set ≡ allowed_by policy role action cell set

pub of_cell : (policy rules : Policy) (role : Role) (action : Action) (hits given : List ℕ) (n word : ℕ) (here : Cell) → rules ≡ policy → given ≡ hits
    → AreHits role action rules hits → ((cell : Cell) → cell_number cell ≡ n → here ≡ cell)
    → ((role : Role) (action : Action) → AreHits role action rules given → (set : Relations) → has_set word set ≡ allowed_by rules role action here set)
    → OfCell policy role action n word
of_cell policy rules role action hits given n word here p g known numbered allowed = grind arith

-- What the rules so far decide for the sets of relations of a cell, by shares.
use Rattle.std.proofs.Common.{◌≡◌, ap, sym, ◌∙◌, arith, w64, Bool, true, not, cond, ◌&&◌, ℕ, ◌+◌, ◌<◌, ◌≤◌, ◌^◌, ◌∷◌, length, drop, get_or, bit_and}
use Rattle.std.specs.Int.{bit_not}
use Rattle.std.proofs.lemmas.List.{at_drop_more, at_drop_all}
use Rattle.permit_base.specs.declared.words.Role.{Role}
use Rattle.permit_base.specs.declared.words.Action.{Action}
use Rattle.permit_base.specs.declared.words.Relations.{Relations}
use Rattle.permit_model.specs.Facts.{Facts}
use Rattle.permit_model.specs.Policy.{Rule, Policy, Decision, decision, default_denial, matches}
use Rattle.permit_model.specs.Opened.{Cell, cell_facts}
use Rattle.permit_policy.specs.Masks.{only_where, has_set}
use Rattle.permit_policy.specs.Hits.{covers}
use Rattle.permit_policy.specs.Shares.{decided_for}
use Rattle.permit_policy.proofs.Bits.{set_in_and, set_in_not}
use Rattle.permit_policy.proofs.Marking.{Decides, matched_by}

-- where no rule has decided, those from the place on do
abbrev pub LeavesRules : Policy → ℕ → Facts → Bool → Type 0
LeavesRules rules place facts undecided = undecided ≡ true → decision (drop place rules) facts ≡ decision rules facts

-- what the rule at the place decides
here_decides : (rules : Policy) (i : ℕ) (rule : Rule) (facts : Facts) (b : Bool) → i < length rules → rule ≡ get_or rules i rule → matches rule facts ≡ b
    → decision (drop i rules) facts ≡ cond b (record { effect = rule.effect; rule = rule.name }) (decision (drop (i + 1) rules) facts)
here_decides rules i rule facts b h e m =
    at_drop_more (λ rs. decision rs facts) rules i rule h
    ∙ ap (λ r. decision (r ∷ drop (i + 1) rules) facts) (sym e)
    ∙ ap (λ t. cond t (record { effect = rule.effect; rule = rule.name }) (decision (drop (i + 1) rules) facts)) m

left_by : (rest whole here : Decision) (matched undecided : Bool) (now : Decision) → now ≡ cond matched here rest → (undecided ≡ true → now ≡ whole)
    → (undecided && not (matched && undecided)) ≡ true → rest ≡ whole
left_by rest whole here matched undecided now e f h = grind arith

told_by : (rest whole here : Decision) (matched undecided : Bool) (now : Decision) → now ≡ cond matched here rest → (undecided ≡ true → now ≡ whole)
    → (matched && undecided) ≡ true → whole ≡ here
told_by rest whole here matched undecided now e f h = grind arith

undecided_left : (rules : Policy) (i : ℕ) (rule : Rule) (role : Role) (action : Action) (cell : Cell) (hits undecided decided : ℕ) (set : Relations)
    → Decides rules i rule role action cell hits undecided decided
    → has_set (bit_and undecided (bit_not w64 decided)) set ≡ (has_set undecided set && not (has_set decided set))
undecided_left rules i rule role action cell hits undecided decided set d =
    set_in_and undecided (bit_not w64 decided) set ∙ ap (λ b. has_set undecided set && b) (set_in_not decided set d.fits)

-- a rule less is left
pub leaves_next : (rules : Policy) (i : ℕ) (rule : Rule) (role : Role) (action : Action) (cell : Cell) (hits undecided decided : ℕ) (set : Relations)
    → Decides rules i rule role action cell hits undecided decided
    → LeavesRules rules i (cell_facts role action cell set) (has_set undecided set)
    → LeavesRules rules (i + 1) (cell_facts role action cell set) (has_set (bit_and undecided (bit_not w64 decided)) set)
leaves_next rules i rule role action cell hits undecided decided set d before = λ h.
    let facts = cell_facts role action cell set in
    let m = covers rule cell && has_set hits set in
    let u = has_set undecided set in
    let here = here_decides rules i rule facts m d.within d.here (matched_by rules i rule role action cell hits undecided decided set d) in
    let still : (u && not (m && u)) ≡ true = ap (λ b. u && not b) (sym (d.made set)) ∙ sym (undecided_left rules i rule role action cell hits undecided decided set d) ∙ h in
    left_by _ _ _ m u _ here before still

-- the share of the rule says what is decided
pub share_told : (rules : Policy) (i : ℕ) (rule : Rule) (role : Role) (action : Action) (cell : Cell) (hits undecided decided : ℕ) (set : Relations)
    → Decides rules i rule role action cell hits undecided decided
    → LeavesRules rules i (cell_facts role action cell set) (has_set undecided set)
    → has_set decided set ≡ true → decided_for rules role action cell set ≡ record { effect = rule.effect; rule = rule.name }
share_told rules i rule role action cell hits undecided decided set d before e =
    let facts = cell_facts role action cell set in
    let m = covers rule cell && has_set hits set in
    let u = has_set undecided set in
    let here = here_decides rules i rule facts m d.within d.here (matched_by rules i rule role action cell hits undecided decided set d) in
    told_by _ _ _ m u _ here before (sym (d.made set) ∙ e)

-- the sets that are left when no rule is
pub share_left : (rules : Policy) (i : ℕ) (facts : Facts) (undecided : Bool) → length rules ≤ i → LeavesRules rules i facts undecided
    → undecided ≡ true → decision rules facts ≡ default_denial
share_left rules i facts undecided h before e = sym (before e) ∙ at_drop_all (λ rs. decision rs facts) rules i h

split_by : (d u c h : Bool) → d ≡ (c && h && u) → only_where d 1 + only_where (u && not d) 1 ≡ only_where u 1
split_by d u c h e = grind arith

-- a set is in the rule's share, or still undecided
pub split_once : (undecided decided old new : ℕ) (set : Relations) (c h : Bool) → decided < 2 ^ 64 → has_set decided set ≡ (c && h && has_set undecided set)
    → new ≡ old + only_where (has_set decided set) 1 → old + only_where (has_set undecided set) 1 ≡ 1
    → new + only_where (has_set (bit_and undecided (bit_not w64 decided)) set) 1 ≡ 1
split_once undecided decided old new set c h fits made e f =
    let u = has_set undecided set in
    let d = has_set decided set in
    let left = ap (λ b. only_where b 1) (set_in_and undecided (bit_not w64 decided) set ∙ ap (λ b. u && b) (set_in_not decided set fits)) in
    let s = split_by d u c h made in omega arith

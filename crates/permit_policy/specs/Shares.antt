-- The sets of relations, those together that one rule of a policy decides for.
use Rattle.std.specs.Prelude.{◌≡◌, ◌+◌, ℕ, true, List, count_by, All}
use Rattle.permit_base.specs.declared.words.Role.{Role}
use Rattle.permit_base.specs.declared.words.Action.{Action}
use Rattle.permit_base.specs.declared.words.Relations.{Relations}
use Rattle.permit_model.specs.Opened.{Cell, cell_facts}
use Rattle.permit_model.specs.Policy.{Rule, Policy, Decision, decision}
use Rattle.permit_policy.specs.Masks.{only_where, has_set}
use Rattle.permit_policy.specs.declared.shares.Share.{Share}

-- what a policy decides for a role and an action
abbrev pub decided_for : Policy → Role → Action → Cell → Relations → Decision
decided_for policy role action cell set = decision policy (cell_facts role action cell set)

-- how many of the shares have the set
abbrev pub shared : List Share → Relations → ℕ
shared shares set = count_by (λ share. has_set share.sets set) shares

-- for each set of the share it is decided as the share says
abbrev pub TellsShare : (Relations → Decision) → Share → Type 0
TellsShare decide share = (set : Relations) → has_set share.sets set ≡ true → decide set ≡ share.decision

-- new has old and the sets that the rule decides
pub record SharesMore (rule : Rule) (sets : ℕ) (old new : List Share) : Type 0 where
  pub shared : (set : Relations) → shared new set ≡ shared old set + only_where (has_set sets set) 1
  pub told : (decide : Relations → Decision) → ((set : Relations) → has_set sets set ≡ true → decide set ≡ record { effect = rule.effect; rule = rule.name })
      → All (TellsShare decide) old → All (TellsShare decide) new

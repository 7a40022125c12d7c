use Rattle.std.proofs.Common.{refl}
use Rattle.toml.proofs.OnLiterals.{toml_on_literals}
use Rattle.permit_policy.proofs.examples.policy_sizes.Goals as goal

pub returns : goal.returns
unfolding toml_on_literals
returns c = record { no_text = refl; no_tables = refl; no_rules_deny = λ facts. refl; sixty_four = refl; sixty_five = refl }

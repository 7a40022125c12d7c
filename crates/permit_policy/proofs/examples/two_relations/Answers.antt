use Rattle.std.proofs.Common.{arith}
use Rattle.toml.proofs.OnLiterals.{toml_on_literals}
use Rattle.permit_policy.proofs.examples.two_relations.Goals as goal

pub returns : goal.returns
unfolding toml_on_literals
returns c = grind arith

use Rattle.std.proofs.Common.{refl}
use Rattle.toml.proofs.OnLiterals.{toml_on_literals}
use Rattle.permit_policy.proofs.examples.standard_text_means_standard_policy.Goals as goal

pub returns : goal.returns
unfolding toml_on_literals
returns c = refl

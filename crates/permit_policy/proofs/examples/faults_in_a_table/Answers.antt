use Rattle.std.proofs.Common.{refl}
use Rattle.toml.proofs.OnLiterals.{toml_on_literals}
use Rattle.permit_policy.proofs.examples.faults_in_a_table.Goals as goal

pub returns : goal.returns
unfolding toml_on_literals
returns c = record { missing_effect = refl; named_default = refl; used_before = refl; unknown_effect = refl; empty_list = refl; lowest_first = refl }

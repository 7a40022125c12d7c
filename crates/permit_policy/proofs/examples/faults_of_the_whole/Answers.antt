use Rattle.std.proofs.Common.{◌≡◌, ◌<◌, refl, ℕ, List, length}
use Rattle.std.proofs.lemmas.Bool.{lt-ltb}
use Rattle.toml.proofs.OnLiterals.{toml_on_literals}
use Rattle.permit_policy.specs.declared.fault.PolicyFault.TheVariants as fault
use Rattle.permit_policy.specs.PolicyText.{meaning, refused}
use Rattle.permit_policy.proofs.Memory.{never_memory}
use Rattle.permit_policy.proofs.examples.faults_of_the_whole.Goals as goal

too_long : (text : List ℕ) → 65536 < length text → meaning text ≡ refused fault.TooLong
too_long text h = rw (lt-ltb 65536 (length text) h) refl

pub returns : goal.returns
unfolding toml_on_literals
returns c = record { too_long = too_long; never_memory = never_memory; unreadable = refl; unknown_top = refl; no_array = refl }

use Rattle.std.proofs.Common.{refl}
use Rattle.std.specs.Fmt.{digits}
use Rattle.serde_json.proofs.OnLiterals.{serde_json_on_literals}
use Rattle.permit_base.proofs.DigestExamples.{founder_digest}
use Rattle.permit_history.proofs.examples.text_example.Goals as goal

pub returns : goal.returns
unfolding digits serde_json_on_literals
returns c = rw founder_digest refl

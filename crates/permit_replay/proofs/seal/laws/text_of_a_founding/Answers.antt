use Rattle.std.proofs.Common.{refl}
use Rattle.std.specs.Fmt.{digits}
use Rattle.permit_replay.proofs.seal.laws.text_of_a_founding.Goals as goal

pub returns : goal.returns
unfolding digits
returns c = refl

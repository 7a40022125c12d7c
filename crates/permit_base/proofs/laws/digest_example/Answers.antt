use Rattle.permit_base.proofs.DigestExamples.{founder_digest}
use Rattle.permit_base.proofs.laws.digest_example.Goals as goal

pub returns : goal.returns
returns c = founder_digest

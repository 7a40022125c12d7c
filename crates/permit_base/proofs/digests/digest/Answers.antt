use Rattle.permit_base.proofs.DigestLetters.{is_digest-digest_of}
use Rattle.permit_base.proofs.digests.digest.Goals as goal

pub of_letters-requires : goal.of_letters-requires
of_letters-requires c = rw (c.in-Ok.ensures.written, c.digest.ensures) (is_digest-digest_of _)

use Rattle.std.proofs.Common.{refl}
use Rattle.hex.specs.Hex.{encode_with}
use Rattle.sha2.specs.Sha256.{first_words, schedule, rounds, compress, hash_after, digest_bytes, sha256}
use Rattle.permit_history.proofs.examples.lines_example.Goals as goal

pub returns-clause-digest : goal.returns-clause-digest
unfolding sha256 digest_bytes hash_after compress rounds schedule first_words encode_with
returns-clause-digest c = refl

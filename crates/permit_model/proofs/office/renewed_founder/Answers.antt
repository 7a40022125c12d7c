-- SHA-256 and the spelling of a digest are opened, so that the founder has the digest of the token.
use Rattle.std.proofs.Common.{refl}
use Rattle.hex.specs.Hex.{encode_with}
use Rattle.sha2.specs.Sha256.{first_words, schedule, rounds, compress, hash_after, digest_bytes, sha256}
use Rattle.permit_model.proofs.office.renewed_founder.Goals as goal

pub returns : goal.returns
unfolding sha256 digest_bytes hash_after compress rounds schedule first_words encode_with
returns c = record { founder = refl }

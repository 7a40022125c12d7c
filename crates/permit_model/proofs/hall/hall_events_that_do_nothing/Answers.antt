-- SHA-256 and the spelling of a digest are opened, so that the callers are found by their tokens.
use Rattle.std.proofs.Common.{refl}
use Rattle.hex.specs.Hex.{encode_with}
use Rattle.sha2.specs.Sha256.{first_words, schedule, rounds, compress, hash_after, digest_bytes, sha256}
use Rattle.permit_model.proofs.hall.hall_events_that_do_nothing.Goals as goal

pub returns : goal.returns
unfolding sha256 digest_bytes hash_after compress rounds schedule first_words encode_with
returns c = record { served = refl; answers = refl; history = refl }

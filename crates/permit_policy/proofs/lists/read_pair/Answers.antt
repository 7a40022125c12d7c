use Rattle.std.proofs.Common.{arith}
use Rattle.permit_policy.proofs.Pairs.{pair_missing}
use Rattle.permit_policy.proofs.lists.read_pair.Goals as goal

pub returns-in-None-two_words-clause-err : goal.returns-in-None-two_words-clause-err
returns-in-None-two_words-clause-err g c = grind (arith, pair_missing)

use Rattle.std.proofs.Common.{arith}
use Rattle.std.proofs.lemmas.Result.{on_ok_weaker}
use Rattle.permit_history.proofs.Sending.{before, nothing_left}
use Rattle.permit_history.proofs.write.send_members_after_body.Goals as goal

pub returns : goal.returns
returns g c = grind (arith, on_ok_weaker, before, nothing_left)

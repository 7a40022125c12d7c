use Rattle.std.proofs.Common.{[], arith}
use Rattle.permit_mirror.proofs.None.{none_handed, none_among}
use Rattle.permit_mirror.proofs.mirrored.MirroredStore.each_of_any.Goals as goal

pub returns-in_err-settle-clause-handed : goal.returns-in_err-settle-clause-handed
returns-in_err-settle-clause-handed g c = (
  [],
  none_handed g.T.Taker.took _ _ _ _ _ c.from_residual.ensures.0 (omega arith) c.in_err-settle.ensures.read,
  λ _ t h. none_among _ _ c.from_residual.ensures.0,
)

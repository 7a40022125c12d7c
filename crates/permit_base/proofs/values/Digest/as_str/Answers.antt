use Rattle.permit_base.proofs.Letters.{IsUtf8-digest}
use Rattle.permit_base.proofs.values.Digest.as_str.Goals as goal

pub unreachable-requires : goal.unreachable-requires
unreachable-requires c = c.in-Err.ensures.cases.0 (IsUtf8-digest _ c.self.invariant)

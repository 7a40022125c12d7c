use Rattle.permit_base.proofs.Letters.{IsUtf8-rule_name}
use Rattle.permit_base.proofs.values.RuleName.as_str.Goals as goal

pub unreachable-requires : goal.unreachable-requires
unreachable-requires c = c.in-Err.ensures.cases.0 (IsUtf8-rule_name _ c.self.invariant.name)

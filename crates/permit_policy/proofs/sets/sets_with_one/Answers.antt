use Rattle.std.proofs.Common.{arith, ap, ◌||◌}
use Rattle.std.specs.List.{list_any}
use Rattle.permit_model.specs.Facts.{holds}
use Rattle.permit_policy.proofs.Bits.{set_in_none}
use Rattle.permit_policy.proofs.RelationSets.{one_more, all_words}
use Rattle.permit_policy.proofs.sets.sets_with_one.Goals as goal

pub loop-relation-init : goal.loop-relation-init
loop-relation-init c = λ set. ap (λ b. b || list_any (holds set) c.args.relations.now) (set_in_none set)

pub loop-relation-preserved : goal.loop-relation-preserved
loop-relation-preserved c = grind (arith, one_more)

pub returns : goal.returns
returns c = grind (arith, all_words)

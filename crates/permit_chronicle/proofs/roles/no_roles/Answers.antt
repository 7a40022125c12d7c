use Rattle.std.proofs.Common.{rules}
use Rattle.std.proofs.lemmas.Result.{IfOk-weaker}
use Rattle.permit_chronicle.specs.Telling.{no_roles}
use Rattle.permit_chronicle.proofs.roles.no_roles.Goals as goal

pub returns : goal.returns
unfolding no_roles
returns c = IfOk-weaker c.vec.result _ _ (λ roles same. same (λ y cloned. search rules)) c.vec.ensures.items_if_clones_equal

use Rattle.std.proofs.Common.{arith, sym}
use Rattle.std.proofs.lemmas.List.{set_past}
use Rattle.permit_chronicle.proofs.roles.set.Goals as goal

pub returns-else-place-roles : goal.returns-else-place-roles
returns-else-place-roles c = sym (set_past c.args.roles.now c.args.party _ (omega arith))

use Rattle.std.proofs.Common.{◌≡◌, arith}
use Rattle.permit_replay.proofs.Upgraded.{upgrade_taken}
use Rattle.permit_replay.proofs.replayed.upgrade.Goals as goal

pub returns-in-Ok : goal.returns-in-Ok
returns-in-Ok c = λ unsaid h e.
    let f = c.args.founder.now in
    let same : c.args.day ≡ f.day = omega arith in
    rw c.in-Upgrade.is (upgrade_taken _ unsaid h f.day c.args.day f.name f.digest e same c.create.ensures.history c.in-Ok.ensures.founded)

use Rattle.std.proofs.Common.{◌≡◌, ap, rules}
use Rattle.std.specs.Prelude.{codes, decimal}
use Rattle.permit_policy.specs.Fault.{fault_number}
use Rattle.permit_cli.proofs.Complaints.{place_said, place_unsaid}
use Rattle.permit_cli.proofs.complaining.say_place.Goals as goal

pub returns-in-Ok : goal.returns-in-Ok
returns-in-Ok g c =
    let code : c.from.result ≡ fault_number c.args.error.now.code = search rules in
    place_said c.args.front.now (decimal (fault_number c.args.error.now.code)) (decimal c.from.result) (codes " at rule ")
    (decimal c.args.error.now.rule) (codes "\n") _ _ _ _ (ap decimal code) c.in-Ok.ensures c.print_number-in-Ok.ensures

pub returns-in-Err : goal.returns-in-Err
returns-in-Err g c =
    let code : c.from.result ≡ fault_number c.args.error.now.code = search rules in
    place_unsaid c.args.front.now (decimal (fault_number c.args.error.now.code)) (decimal c.from.result) (codes " at rule ")
    (decimal c.args.error.now.rule) (codes "\n") _ _ _ (ap decimal code) c.in-Err.ensures

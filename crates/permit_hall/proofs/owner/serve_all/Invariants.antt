use Rattle.std.proofs.Common.{◌≡◌, List, [], length}
use Rattle.crossbeam_channel.specs.Claims.{view, IsSeatAt}
use Rattle.crossbeam_channel.specs.Ends.{receives_on}
use Rattle.permit_base.specs.declared.request.Asked.{Asked}
use Rattle.permit_wire.specs.declared.service.Dated.{Dated}
use Rattle.permit_hall.specs.Runs.{Entry}
use Rattle.permit_hall.specs.Intake.{owner}
use Rattle.permit_hall.specs.Owner.{Serves, Sent, SameLanes}
use Rattle.permit_hall.proofs.owner.serve_all.Given as goal

abbrev pub invariant-loop : goal.invariant-loop
invariant-loop g l =
    IsSeatAt (receives_on l.intake) l.pass × (view l.pass ≡ owner (view l.fn.pass).made (view l.pass).got [])
    × SameLanes l.fn.outlets.items l.outlets.items
    × ((served : List (Entry Asked Dated))
    × Serves g.M.Service.did (goal.C-step g) (length l.fn.outlets.items) (view l.pass).got l.fn.service l.service l.fn.clock l.clock served
    × Sent served l.outlets.items)
    × g.M.Service.ready l.service × goal.C-IsAlwaysCallable g l.clock

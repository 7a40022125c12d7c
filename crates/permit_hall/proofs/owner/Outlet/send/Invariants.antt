use Rattle.std.proofs.Common.{◌≡◌}
use Rattle.crossbeam_channel.specs.Claims.{view, IsSeatAt}
use Rattle.crossbeam_channel.specs.Ends.{sends_on}
use Rattle.permit_hall.proofs.owner.Outlet.send.Given as goal

abbrev pub invariant-loop : goal.invariant-loop
invariant-loop g l = IsSeatAt (sends_on l.self.lane) l.self.lane_pass × (view l.self.lane_pass ≡ view l.fn.self.lane_pass)
    × (sends_on l.self.lane ≡ sends_on l.fn.self.lane) × (l.reply ≡ l.fn.reply)

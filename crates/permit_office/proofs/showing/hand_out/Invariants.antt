use Rattle.std.proofs.Common.{◌≡◌, ◌++◌}
use Rattle.std.specs.Vec.Iter.{into_iter_items}
use Rattle.permit_core.specs.Taking.{TookAll}
use Rattle.permit_office.proofs.showing.hand_out.Given as goal

abbrev pub invariant-loop-view : goal.invariant-loop-view
invariant-loop-view g l =
    TookAll g.T.Taker.took l.yielded l.fn.taker l.taker × (l.yielded ++ into_iter_items l.view-iterator ≡ l.fn.files.items)

use Rattle.std.proofs.Common.{take}
use Rattle.permit_model.specs.Tables.{Tables}
use Rattle.permit_mirror.specs.Search.{found_at}
use Rattle.permit_mirror.proofs.Handed.{IsHanded}
use Rattle.permit_mirror.proofs.search.hand.Given as goal

abbrev pub invariant-loop-number : goal.invariant-loop-number
invariant-loop-number g l = record {
  handed : IsHanded g.T.Taker.took (g.M.Store.view l.fn.memory).holds (λ t. found_at l.routes l.caller l.day t (take l.number-index l.numbers)) l.fn.handed
      l.handed l.fn.taker l.taker;
  kept : (t : Tables) → (g.M.Store.view l.fn.memory).holds t → (g.M.Store.view l.memory).holds t;
}

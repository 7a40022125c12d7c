use Rattle.std.proofs.Common.{take}
use Rattle.permit_store.specs.Plain.{rows_found}
use Rattle.permit_store.proofs.Selecting.{IsHanded}
use Rattle.permit_store.proofs.plain.select.Selection.hand.Given as goal

abbrev pub invariant-loop-kept : goal.invariant-loop-kept
invariant-loop-kept g l = IsHanded g.T.Taker.took (rows_found l.self (take l.kept-index l.files)) l.fn.handed l.handed l.fn.taker l.taker

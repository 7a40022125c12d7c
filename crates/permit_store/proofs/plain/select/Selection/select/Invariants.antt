use Rattle.std.proofs.Common.{◌≡◌, take}
use Rattle.permit_store.specs.Plain.{rows_found}
use Rattle.permit_store.proofs.plain.select.Selection.select.Given as goal

abbrev pub invariant-loop-kept : goal.invariant-loop-kept
invariant-loop-kept l = l.rows.items ≡ rows_found l.self (take l.kept-index l.files)

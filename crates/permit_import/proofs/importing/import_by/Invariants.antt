use Rattle.std.proofs.Common.{◌≤◌}
use Rattle.permit_import.proofs.Progress.{Progress}
use Rattle.permit_import.proofs.importing.import_by.Given as goal

abbrev pub invariant-loop-number : goal.invariant-loop-number
invariant-loop-number g l = record {
  progress : Progress g.M.Service.did g.R.Read.remaining l.fn.token l.fn.day l.fn.why (g.R.Read.remaining l.fn.reader)
      (g.W.Write.contents l.fn.out) (g.E.Write.contents l.fn.causes) l.asked (g.W.Write.contents l.out) (g.E.Write.contents l.causes)
      l.fn.service l.service l.records l.number l.tally;
  ready : g.M.Service.ready l.service;
  few : l.number ≤ 1000000;
}

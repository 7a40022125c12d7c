use Rattle.std.proofs.Common.{◌≡◌, ◌≤◌, min, take, Some}
use Rattle.permit_history.specs.Evidence.{line_count, lines_of}
use Rattle.permit_history.proofs.evidence.lines_in.Given as goal

abbrev pub invariant-loop-i : goal.invariant-loop-i
invariant-loop-i l = record {
  count : l.lines ≡ min l.most (line_count (take l.i l.piece));
  lines : lines_of l.lines (take l.i l.piece) ≡ Some (take l.end l.piece);
  within : l.end ≤ l.i;
}

use Rattle.std.proofs.Common.{◌≡◌, ◌≤◌, ℕ, List, Some, drop, length}
use Rattle.permit_history.specs.declared.entry.Entry.{Entry}
use Rattle.permit_history.specs.Text.{GivesInTurn}
use Rattle.permit_replay.specs.Bringing.{GivesFrom}
use Rattle.permit_replay.proofs.opening.redoing.skip_lines.Given as goal

abbrev pub invariant-loop-line : goal.invariant-loop-line
invariant-loop-line g l = (bytes : List ℕ) (entries : List Entry) (left : List ℕ) → g.Q.Read.remaining l.fn.again ≡ Some bytes → GivesInTurn bytes entries left
    → l.fn.count ≤ length entries → GivesFrom (g.Q.Read.remaining l.again) (drop l._line entries) left

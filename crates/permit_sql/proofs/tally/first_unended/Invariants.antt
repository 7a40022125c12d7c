use Rattle.std.proofs.Common.{◌≡◌, ◌+◌, ◌<◌, ◌^◌, length}
use Rattle.permit_sql.specs.Named.{unended_from}
use Rattle.permit_sql.proofs.tally.first_unended.Given as goal

-- those that are left are numbered on, and the first of them that isn't ended is the first of all
abbrev pub invariant-tallies : goal.invariant-tallies
invariant-tallies l = length l.fn.tallies < 2 ^ 32 → (l.number + length l.tallies ≡ 1 + length l.fn.tallies)
    × (unended_from l.number l.tallies ≡ unended_from 1 l.fn.tallies)

abbrev pub decreases-tallies : goal.decreases-tallies
decreases-tallies l = length l.tallies

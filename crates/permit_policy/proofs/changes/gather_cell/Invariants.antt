use Rattle.std.proofs.Common.{take, All}
use Rattle.permit_policy.specs.Groups.{GathersIn}
use Rattle.permit_policy.specs.Shares.{TellsShare}
use Rattle.permit_policy.specs.Changes.{in_pairs}
use Rattle.permit_policy.proofs.changes.gather_cell.Given as goal

-- what was gathered with the shares so far
abbrev pub invariant-loop-share : goal.invariant-loop-share
invariant-loop-share l =
    GathersIn l.cell (in_pairs (take l.share-index l.by) l.was) (λ now before. All (TellsShare (now l.cell)) l.by × All (TellsShare (before l.cell)) l.was) l.fn.groups.items l.groups.items

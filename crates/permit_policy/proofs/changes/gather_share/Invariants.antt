use Rattle.std.proofs.Common.{take, All}
use Rattle.permit_policy.specs.Groups.{GathersIn}
use Rattle.permit_policy.specs.Shares.{TellsShare}
use Rattle.permit_policy.specs.Changes.{in_others}
use Rattle.permit_policy.proofs.changes.gather_share.Given as goal

-- what was gathered with the shares so far
abbrev pub invariant-loop-other : goal.invariant-loop-other
invariant-loop-other l =
    GathersIn l.cell (in_others l.by (take l.other-index l.was)) (λ now before. TellsShare (now l.cell) l.by × All (TellsShare (before l.cell)) l.was) l.fn.groups.items l.groups.items

use Rattle.std.proofs.Common.{sym}
use Rattle.permit_policy.proofs.Deciding.{decided_where, decided_nowhere, none_decided}
use Rattle.permit_policy.proofs.masks.decided_by.Goals as goal
use Rattle.permit_policy.proofs.masks.decided_by.Goals.{else-decided-ne0-via-then-decided-ne0+else-covers, else-decided-ne0-via-else-decided-ne0}

pub returns-then-covers : goal.returns-then-covers
returns-then-covers c = λ set. decided_where c.args.hits c.args.undecided _ set (sym c.if-covers.ensures)

pub returns-else-decided-ne0 : goal.returns-else-decided-ne0
returns-else-decided-ne0 c =
    elim c.else-decided-ne0.branch [
      | else-decided-ne0-via-then-decided-ne0+else-covers w ↦ λ set. decided_nowhere c.args.hits c.args.undecided _ set (sym w.if-covers.ensures)
      | else-decided-ne0-via-else-decided-ne0 w ↦ λ set. none_decided c.args.hits c.args.undecided _ set w.if-decided-ne0.false
    ]

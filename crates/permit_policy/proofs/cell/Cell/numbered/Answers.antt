use Rattle.permit_policy.proofs.CellNumbers.{cell_back}
use Rattle.permit_policy.proofs.cell.Cell.numbered.Goals as goal

pub returns : goal.returns
returns c = λ cell e. rw (c.all.ensures, c.all-2.ensures) (cell_back cell c.args.number e)

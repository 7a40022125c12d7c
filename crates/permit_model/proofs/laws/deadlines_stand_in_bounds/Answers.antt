-- The laws are lemmas by induction on what was done to a file.
use Rattle.permit_model.proofs.FileLaws.{deadline_exactly, deadline_least, deadline_most}
use Rattle.permit_model.proofs.laws.deadlines_stand_in_bounds.Goals as goal

pub returns-clause-stands : goal.returns-clause-stands
returns-clause-stands c = deadline_exactly

pub returns-clause-least : goal.returns-clause-least
returns-clause-least c = deadline_least

pub returns-clause-most : goal.returns-clause-most
returns-clause-most c = deadline_most

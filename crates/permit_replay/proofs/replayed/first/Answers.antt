use Rattle.permit_replay.proofs.replayed.first.Goals as goal

pub returns-in-Begin : goal.returns-in-Begin
returns-in-Begin c = λ unsaid is. rw c.in-Begin.is (c.begin.ensures unsaid is)

pub returns-in-Found : goal.returns-in-Found
returns-in-Found c = λ unsaid is. rw c.in-Found.is (c.found.ensures unsaid)

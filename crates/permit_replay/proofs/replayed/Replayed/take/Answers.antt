use Rattle.permit_replay.proofs.replayed.Replayed.take.Goals as goal

pub returns-in-Nothing : goal.returns-in-Nothing
returns-in-Nothing c = λ unsaid h holds have. let none = rw c.in-Nothing.is at holds in rw none.0 (c.first.ensures unsaid none.1)

pub returns-in-Founded : goal.returns-in-Founded
returns-in-Founded c = λ unsaid h holds have. c.upgrade.ensures unsaid h (rw c.in-Founded.is at holds)

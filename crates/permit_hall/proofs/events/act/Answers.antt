use Rattle.std.proofs.Common.{ap}
use Rattle.permit_hall.specs.Events.{event_of}
use Rattle.permit_hall.proofs.EventSteps.{as_event}
use Rattle.permit_hall.proofs.events.act.Goals as goal

pub returns-in-Put-clause-at : goal.returns-in-Put-clause-at
returns-in-Put-clause-at g c start h k = as_event _ _ _ _ _ _ h _ _ (ap event_of c.in-Put.is)
    (c.put.ensures.at start c.args.office.now h c.args.answers.now.items k)

pub returns-in-Take-clause-at : goal.returns-in-Take-clause-at
returns-in-Take-clause-at g c start h k = as_event _ _ _ _ _ _ h _ _ (ap event_of c.in-Take.is) (c.take_one.ensures.at start h c.args.answers.now.items k)

pub returns-in-Collect-clause-at : goal.returns-in-Collect-clause-at
returns-in-Collect-clause-at g c start h k = as_event _ _ _ _ _ _ h _ _ (ap event_of c.in-Collect.is) (c.collect.ensures.at start c.args.office.now h _ k)

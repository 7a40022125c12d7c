use Rattle.permit_store.specs.contracts.plain.PlainStoreStore.TheImpl as plain
use Rattle.permit_replay.specs.Holding.{IsBeginning}
use Rattle.permit_replay.proofs.Brought.{stands_more}
use Rattle.permit_replay.proofs.opening.redoing.follow_entry.Goals as goal

pub returns-in-Ok-clause-follows : goal.returns-in-Ok-clause-follows
returns-in-Ok-clause-follows g c = λ doubt beginning entries stands.
    stands_more (IsBeginning plain.view-value.it beginning) (g.D.Store.view c.args.store.now.store) (g.D.Store.view c.follow.new.store.store) entries c.args.entry.now stands
    (λ h holds unsaid have. (c.in-Ok.ensures.follows doubt h holds unsaid have).1)

use Rattle.std.proofs.Common.{◌++◌, ◌∷◌, [], subst, sym}
use Rattle.permit_store.specs.contracts.plain.PlainStoreStore.TheImpl as plain
use Rattle.permit_replay.specs.Holding.{IsBeginning}
use Rattle.permit_replay.specs.Bringing.{StandsBehind, in_both}
use Rattle.permit_replay.proofs.Brought.{waits}
use Rattle.permit_replay.proofs.opening.redoing.wait.Goals as goal

pub returns-then-len-lt-LINES_A_COMMIT-clause-behind : goal.returns-then-len-lt-LINES_A_COMMIT-clause-behind
returns-then-len-lt-LINES_A_COMMIT-clause-behind g c = λ beginning least entries behind.
    let begins = IsBeginning plain.view-value.it beginning in
    let batch = c.args.batch in
    let store = in_both (plain.view-value.it batch.there) (g.S.Store.view c.args.store.now) in
    subst (λ es. StandsBehind begins least (entries ++ c.args.entry ∷ []) es store) (sym c.in-Ok.ensures.items)
    (waits begins least entries batch.waiting.items c.args.entry store behind)

pub returns-clause-behind : goal.returns-clause-behind
returns-clause-behind g c = λ beginning least entries behind.
    let begins = IsBeginning plain.view-value.it beginning in
    let batch = c.args.batch in
    let store = in_both (plain.view-value.it batch.there) (g.S.Store.view c.args.store.now) in
    c.commit_waiting.ensures.behind beginning least (entries ++ c.args.entry ∷ [])
    (subst (λ es. StandsBehind begins least (entries ++ c.args.entry ∷ []) es store) (sym c.in-Ok.ensures.items)
    (waits begins least entries batch.waiting.items c.args.entry store behind))

use Rattle.std.proofs.Common.{subst, sym}
use Rattle.permit_store.specs.contracts.plain.PlainStoreStore.TheImpl as plain
use Rattle.permit_replay.specs.Holding.{IsBeginning}
use Rattle.permit_replay.specs.Bringing.{StandsBehind, in_both}
use Rattle.permit_replay.proofs.Brought.{all_done}
use Rattle.permit_replay.proofs.opening.redoing.commit_waiting.Goals as goal

pub returns-clause-behind : goal.returns-clause-behind
returns-clause-behind g c = λ beginning least entries behind.
    let begins = IsBeginning plain.view-value.it beginning in
    let batch = c.args.batch in
    let new = in_both (plain.view-value.it c.in_ok-there.there) (g.S.Store.view c.commit_entries.new.store) in
    subst (λ es. StandsBehind begins least entries es new) (sym c.new-waiting.ensures.items)
    (all_done begins least entries batch.waiting.items (in_both (plain.view-value.it batch.there) (g.S.Store.view c.args.store.now)) new
    (λ done stands. rw c.as_slice.ensures.value at c.in_ok-there.ensures.stands beginning done stands) behind)

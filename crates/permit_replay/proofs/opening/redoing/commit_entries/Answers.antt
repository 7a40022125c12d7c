use Rattle.std.proofs.Common.{refl, ◌++◌}
use Rattle.permit_store.specs.contracts.plain.PlainStoreStore.TheImpl as plain
use Rattle.permit_replay.specs.Holding.{IsBeginning}
use Rattle.permit_replay.specs.Bringing.{in_both}
use Rattle.permit_replay.proofs.Brought.{stands_wider}
use Rattle.permit_replay.proofs.opening.redoing.commit_entries.Goals as goal

pub returns-clause-stands : goal.returns-clause-stands
returns-clause-stands g c = λ beginning done stands.
    let begins = IsBeginning plain.view-value.it beginning in
    let begun = stands_wider begins (in_both (plain.view-value.it c.args.there) (g.S.Store.view c.args.store.now)).holds _ done
    (λ t held. c.new.ensures.held t held.0 (c.requires.began t held.1)) stands in
    let followed = c.in_ok-follow_all.ensures.follows refl beginning done begun in
    stands_wider begins _ (in_both (plain.view-value.it c.into_memory.result) (g.S.Store.view c.commit_to.new.store)).holds (done ++ c.args.entries.now)
    (λ t held. (c.into_memory.ensures.held t held, c.in_ok-commit_to.ensures.made t held (λ u began. c.requires.base u began))) followed

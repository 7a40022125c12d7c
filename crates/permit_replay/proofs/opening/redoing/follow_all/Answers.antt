use Rattle.std.proofs.Common.{subst, ◌++◌, take, arith}
use Rattle.std.proofs.lemmas.List.{take_all}
use Rattle.permit_replay.specs.Alike.{unordered}
use Rattle.permit_store.specs.contracts.plain.PlainStoreStore.TheImpl as plain
use Rattle.permit_replay.specs.Holding.{IsBeginning}
use Rattle.permit_replay.specs.Bringing.{Stands}
use Rattle.permit_replay.proofs.Brought.{one_further}
use Rattle.permit_replay.proofs.opening.redoing.follow_all.Goals as goal

pub loop-entry-preserved : goal.loop-entry-preserved
loop-entry-preserved g c = (
  omega (arith, c.loop-entry.invariant.0, c.follow_entry.ensures.doubt),
  λ clean beginning done stands.
      let entries = c.args.entries.now in
      let before = c.loop-entry.invariant.1 (omega (arith, c.follow_entry.ensures.doubt, clean)) beginning done stands in
      subst (λ es. Stands (IsBeginning plain.view-value.it beginning) (unordered (g.D.Store.view c.follow_entry.new.store.store)).holds es)
      (one_further done entries c.loop-entry.entry-index c.entry-item.result c.loop-entry-test.true c.entry-item.is)
      (c.in_ok-follow_entry.ensures.follows clean beginning (done ++ take c.loop-entry.entry-index entries) before),
)

pub returns : goal.returns
returns g c = record {
  follows = λ clean beginning done stands.
      subst (λ es. Stands (IsBeginning plain.view-value.it beginning) (unordered (g.D.Store.view c.loop-entry.store.store)).holds (done ++ es))
      (take_all c.loop-entry.entry-index c.args.entries.now c.loop-entry-test.false)
      (c.loop-entry.invariant.1 clean beginning done stands);
}

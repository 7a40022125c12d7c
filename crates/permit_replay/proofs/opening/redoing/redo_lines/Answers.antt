use Rattle.std.proofs.Common.{rules, refl, ◌++◌, length, arith}
use Rattle.permit_store.specs.contracts.plain.PlainStoreStore.TheImpl as plain
use Rattle.permit_replay.specs.Holding.{IsBeginning}
use Rattle.permit_replay.specs.Bringing.{in_both}
use Rattle.permit_replay.proofs.Brought.{midway_last, midway_more, midway_within, stands_all}
use Rattle.permit_replay.proofs.opening.redoing.redo_lines.Goals as goal

pub loop-line-preserved : goal.loop-line-preserved
loop-line-preserved g c = (
  omega (arith, c.loop-line.invariant.0, c.wait.ensures.doubt),
  λ beginning done later left given to_go stands.
      let midway = c.loop-line.invariant.1 beginning done later left given to_go stands in
      midway_more (IsBeginning plain.view-value.it beginning) (g.Q.Read.remaining c.loop-line.again) (g.Q.Read.remaining c.next_entry.new.source) done later
      c.loop-line.batch.waiting.items c.in_ok-batch.batch.waiting.items left c.loop-line._line _ c.args.last
      (in_both (plain.view-value.it c.loop-line.batch.there) (g.S.Store.view c.loop-line.store)) (in_both (plain.view-value.it c.in_ok-batch.batch.there) (g.S.Store.view c.wait.new.store))
      c.in-Ok-Some.entry midway c.loop-line-test.true refl (rw c.in-Ok-Some.field-0-is at c.in-Ok-Some.ensures.exact) (λ bytes e. c.in-Ok-Some.ensures.rest bytes e)
      (λ entries behind. c.in_ok-batch.ensures.behind beginning (length done) entries behind),
)

pub returns-in_default-clause-left : goal.returns-in_default-clause-left
returns-in_default-clause-left g c = λ beginning done later left given to_go stands.
    let store = g.S.Store.view c.loop-line.store in
    midway_within (IsBeginning plain.view-value.it beginning) _ done later _ left c.loop-line._line c.args.last (plain.view-value.it c.loop-line.batch.there)
    store store (c.loop-line.invariant.1 beginning done later left given to_go stands) (λ u held. held)

pub returns-in_err-batch-clause-left : goal.returns-in_err-batch-clause-left
returns-in_err-batch-clause-left g c = λ beginning done later left given to_go stands.
    let within = midway_within (IsBeginning plain.view-value.it beginning) (g.Q.Read.remaining c.loop-line.again) done later c.loop-line.batch.waiting.items left c.loop-line._line c.args.last
    (plain.view-value.it c.loop-line.batch.there) (g.S.Store.view c.loop-line.store) (g.S.Store.view c.wait.new.store)
    (c.loop-line.invariant.1 beginning done later left given to_go stands) (λ u held. c.in_err-batch.ensures.left u held) in
    search rules

pub returns-in_err-commit_waiting-clause-left : goal.returns-in_err-commit_waiting-clause-left
returns-in_err-commit_waiting-clause-left g c = λ beginning done later left given to_go stands.
    let within = midway_within (IsBeginning plain.view-value.it beginning) (g.Q.Read.remaining c.loop-line.again) done later c.loop-line.batch.waiting.items left c.loop-line._line c.args.last
    (plain.view-value.it c.loop-line.batch.there) (g.S.Store.view c.loop-line.store) (g.S.Store.view c.commit_waiting.new.store)
    (c.loop-line.invariant.1 beginning done later left given to_go stands) (λ u held. c.in_err-commit_waiting.ensures.left u held) in
    search rules

pub returns-clause-redone : goal.returns-clause-redone
returns-clause-redone g c = λ beginning done later left given to_go stands.
    let begins = IsBeginning plain.view-value.it beginning in
    let midway = c.loop-line.invariant.1 beginning done later left given to_go stands in
    let after = c.in_ok-commit_waiting.field-0 in
    stands_all begins (length done) (done ++ midway.first) (done ++ later) after.waiting.items (plain.view-value.it after.there) (g.S.Store.view c.commit_waiting.new.store)
    (c.in_ok-commit_waiting.ensures.behind beginning (length done) (done ++ midway.first) midway.behind) c.in_ok-commit_waiting.ensures.none
    (midway_last begins (g.Q.Read.remaining c.loop-line.again) done later c.loop-line.batch.waiting.items left c.loop-line._line c.args.last
    (in_both (plain.view-value.it c.loop-line.batch.there) (g.S.Store.view c.loop-line.store)) midway c.loop-line-test.false)

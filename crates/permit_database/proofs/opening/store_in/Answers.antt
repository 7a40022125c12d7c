use Rattle.std.proofs.Common.{ap, ◌∙◌}
use Rattle.permit_database.proofs.Opened.{is_over}
use Rattle.permit_database.proofs.opening.store_in.Goals as goal
use Rattle.permit_database.proofs.opening.store_in.Goals.{in-Some, in_default}

pub returns-after-shut-clause-opened : goal.returns-after-shut-clause-opened
returns-after-shut-clause-opened g c =
    let s = c.in-Ok.store in
    let t = c.match-shut.store in
    let opened = c.in-Ok.ensures.opens in
    elim c.match-shut.branch [
      | in-Some w ↦ is_over g.S.Store c.args.conn s.conn t.conn s.upgrade t.upgrade s.handed s.failed s.commits t.handed t.failed t.commits
          opened.held opened.sound opened.left opened.first opened.counts
          (ap (λ x. x.conn) w.store-is ∙ w.tell_when_shut.ensures.conn)
          (ap (λ x. x.upgrade) w.store-is ∙ w.tell_when_shut.ensures.upgrade) (
            ap (λ x. x.handed) w.store-is ∙ w.tell_when_shut.ensures.counts.0,
            ap (λ x. x.failed) w.store-is ∙ w.tell_when_shut.ensures.counts.1,
            ap (λ x. x.commits) w.store-is ∙ w.tell_when_shut.ensures.counts.2,
          )
      | in_default w ↦ is_over g.S.Store c.args.conn s.conn t.conn s.upgrade t.upgrade s.handed s.failed s.commits t.handed t.failed t.commits
          opened.held opened.sound opened.left opened.first opened.counts
          (ap (λ x. x.conn) w.store-is) (ap (λ x. x.upgrade) w.store-is)
          (ap (λ x. x.handed) w.store-is, ap (λ x. x.failed) w.store-is, ap (λ x. x.commits) w.store-is)
    ]

use Rattle.std.proofs.Common.{sym, [], ap}
use Rattle.crossbeam_channel.specs.Claims.{view}
use Rattle.permit_hall.proofs.IntakeMoves.{takes, nothing}
use Rattle.permit_hall.proofs.Owning.{serves_as, starts, takes_keeps, serves_none, lanes_same, lanes_then}
use Rattle.permit_hall.proofs.owner.serve_all.Goals as goal

pub loop-init : goal.loop-init
loop-init g c = let is = c.requires.pass.1 in (
  c.requires.pass.0,
  starts (view c.args.pass.now) _ is,
  lanes_same _,
  ([], serves_as _ _ _ [] _ _ _ _ _ [] (sym (ap (λ v. v.got) is)) (serves_none _ _ _ _ _), c.requires.sent),
  c.requires.ready,
  c.requires.clock,
)

pub recv_as-requires-clause-rule : goal.recv_as-requires-clause-rule
recv_as-requires-clause-rule g c = (takes _ _ (ap (λ v. v.gets) c.loop.invariant.1), nothing _ _)

pub loop-preserved-in-Ok : goal.loop-preserved-in-Ok
loop-preserved-in-Ok g c =
    let h = c.loop.invariant in let k = takes_keeps (view c.loop.pass) (view c.recv_as.new.pass) _ c.in-Ok.envelope h.1 c.in-Ok.ensures.rule in
    let r = c.take_one-ended.ensures.served _ (view c.loop.pass).got _ _ h.3.0 (sym h.2.0) h.3.1 h.3.2 in (
      c.recv_as.ensures.channel.0,
      k.0,
      lanes_then _ _ _ h.2 c.take_one-ended.ensures.lanes,
      (r.0, serves_as _ _ _ _ _ _ _ _ _ r.0 (sym k.1) r.1, r.2),
      c.take_one-ended.ensures.ready,
      c.take_one-ended.ensures.clock,
    )

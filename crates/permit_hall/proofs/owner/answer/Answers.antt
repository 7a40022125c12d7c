use Rattle.permit_hall.proofs.Owning.{sent_more}
use Rattle.permit_hall.proofs.owner.answer.Goals as goal

pub returns-clause-served : goal.returns-clause-served
returns-clause-served g c served h = (
  c.clock-day.result,
  c.serve-reply.result,
  c.clock-day.ensures,
  c.serve-reply.ensures.did,
  sent_more c.args.outlets.now.items c.send.new.self c.index_mut.result.now served _ c.requires.from c.index_mut.ensures.value h c.send.ensures.sent,
)

use Rattle.std.proofs.Common.{inr, refl}
use Rattle.permit_http.specs.declared.fault.Fault.TheVariants.{Memory}
use Rattle.permit_answer.specs.AnswerText.{answer_data, Faulted}
use Rattle.permit_subcommands.proofs.Shown.{shows_itself}
use Rattle.permit_subcommands.proofs.answering.show.Goals as goal

pub returns-in-Ok : goal.returns-in-Ok
returns-in-Ok g c =
    shows_itself (answer_data c.args.answer.now) c.as_slice.result.now _ c.refusal_of.result (g.O.Write.contents c.args.out.now)
    (g.O.Write.contents c.tell.new.out) c.tell.result c.as_slice.ensures c.in-Ok.ensures.text c.refusal_of.ensures c.tell.ensures

pub returns-in-Err : goal.returns-in-Err
returns-in-Err g c = (Faulted Memory, inr (c.in-Err.ensures.memory, refl), c.tell-in-Err.ensures)

use Rattle.std.proofs.Common.{◌∙◌, sym}
use Rattle.permit_replay.specs.Histories.{new_token}
use Rattle.permit_replay.proofs.Accepted.{follows}
use Rattle.permit_replay.proofs.Counted.{counted}
use Rattle.permit_replay.proofs.Leaving.{left_by}
use Rattle.permit_replay.proofs.following.follow_command.Goals as goal

pub returns-clause-follows : goal.returns-clause-follows
returns-clause-follows g c = λ doubt h has unsaid token.
    let a = c.args.act.now in
    let attempt = c.accept-answer.ensures.model doubt h has.history has.held (new_token unsaid.token_of a) (c.recorded.ensures.token unsaid.token_of token) in
    let answered = rw c.requires at c.judge.ensures.answered in
    follows (g.S.Store.view c.accept-answer.new.store).holds unsaid h c.args.day c.args.caller a c.accept-answer.result c.judge.result
    has.history has.upgraded (rw (c.recorded.ensures.asks unsaid.token_of) at attempt) c.accept-answer.ensures.own answered c.judge.ensures.failed

pub returns-clause-kept : goal.returns-clause-kept
returns-clause-kept g c = λ t held.
    left_by c.args.number c.accept-answer.result c.judge.result _ c.judge.ensures.answered (c.accept-answer.ensures.attempt.kept t held)

pub returns-clause-failed : goal.returns-clause-failed
returns-clause-failed g c = counted c.recorded.result c.accept-answer.result _ _ c.accept-answer.ensures.attempt.failed ∙ sym (c.judge.ensures.counted _)

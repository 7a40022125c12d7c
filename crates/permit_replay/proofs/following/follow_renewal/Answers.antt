use Rattle.permit_model.specs.Tables.{tables}
use Rattle.permit_replay.proofs.Renewed.{taken, refused_so}
use Rattle.permit_replay.proofs.following.follow_renewal.Goals as goal

pub returns-in-Ok-Ok-clause-follows : goal.returns-in-Ok-Ok-clause-follows
returns-in-Ok-Ok-clause-follows g c = λ doubt h has unsaid day token.
    let so = c.in-Ok-Ok.ensures.renewed doubt (tables h) has.held in
    taken (g.S.Store.view c.renew.new.self).holds unsaid h day c.args.party c.args.digest.now c.in-Ok-Ok.field-0-0 tt has.history has.upgraded
    token (rw c.in-Ok-Ok.field-0-is at so)

pub returns-in-Ok-Err-clause-follows : goal.returns-in-Ok-Err-clause-follows
returns-in-Ok-Err-clause-follows g c = λ doubt h has unsaid day token.
    let so = c.in-Ok-Err.ensures.renewed doubt (tables h) has.held in
    refused_so (g.S.Store.view c.renew.new.self).holds unsaid h day c.args.party c.args.digest.now c.in-Ok-Err.refusal
    (rw c.in-Ok-Err.field-0-is at so)

pub returns-in-Ok-Err-clause-kept : goal.returns-in-Ok-Err-clause-kept
returns-in-Ok-Err-clause-kept g c = λ doubt t held. (rw c.in-Ok-Err.field-0-is at (c.in-Ok-Err.ensures.renewed doubt t held)).1

pub returns-in-Err-clause-kept : goal.returns-in-Err-clause-kept
returns-in-Err-clause-kept g c = λ doubt t held. c.in-Err.ensures.renewed doubt t held

use Rattle.permit_replay.proofs.Accepted.{second_upgrade}
use Rattle.permit_replay.proofs.following.follow.Goals as goal

pub returns-in-Upgrade-clause-follows : goal.returns-in-Upgrade-clause-follows
returns-in-Upgrade-clause-follows g c = λ doubt h has unsaid have. rw c.in-Upgrade.is (second_upgrade h has.upgraded)

pub returns-in-RenewToken-clause-follows : goal.returns-in-RenewToken-clause-follows
returns-in-RenewToken-clause-follows g c = λ doubt h has unsaid have.
    let token = rw c.in-RenewToken.is at have in
    rw c.in-RenewToken.is (c.follow_renewal.ensures.follows doubt h has unsaid c.args.day token)

pub returns-in-Accepted-clause-follows : goal.returns-in-Accepted-clause-follows
returns-in-Accepted-clause-follows g c = λ doubt h has unsaid have.
    let token = rw c.in-Accepted.is at have in
    rw c.in-Accepted.is (c.follow_command.ensures.follows doubt h has unsaid token)

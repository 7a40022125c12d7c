-- Each arm answers the command's row of the table.
use Rattle.permit_core.proofs.state.FileState.reason_against.Goals as goal

pub returns-in-NameContractor : goal.returns-in-NameContractor
returns-in-NameContractor c = rw c.in-NameContractor.is (c.against_naming.ensures c.in-NameContractor.party)

pub returns-in-AskExtension : goal.returns-in-AskExtension
returns-in-AskExtension c = rw c.in-AskExtension.is (c.against_ask.ensures c.args.people.now c.in-AskExtension.text)

pub returns-in-GrantExtension : goal.returns-in-GrantExtension
returns-in-GrantExtension c = rw c.in-GrantExtension.is (c.against_grant.ensures c.args.people.now)

pub returns-in-RefuseExtension : goal.returns-in-RefuseExtension
returns-in-RefuseExtension c = rw c.in-RefuseExtension.is (c.against_refusal.ensures c.args.people.now c.in-RefuseExtension.text)

pub returns-in-RequestInspection : goal.returns-in-RequestInspection
returns-in-RequestInspection c = rw c.in-RequestInspection.is (c.against_request.ensures c.args.people.now)

pub returns-in-ApproveStep : goal.returns-in-ApproveStep
returns-in-ApproveStep c = rw c.in-ApproveStep.is (c.against_approval.ensures c.args.people.now)

pub returns-in-Notice : goal.returns-in-Notice
returns-in-Notice c = rw c.in-Notice.is (c.against_notice.ensures c.args.people.now c.in-Notice.text)

pub returns-in-ClearNotice : goal.returns-in-ClearNotice
returns-in-ClearNotice c = rw c.in-ClearNotice.is (c.against_clearing.ensures c.in-ClearNotice.paper)

pub returns-in-Stop : goal.returns-in-Stop
returns-in-Stop c = rw c.in-Stop.is (c.against_stop.ensures c.args.people.now c.in-Stop.text c.in-Stop.conditions)

pub returns-in-Lift : goal.returns-in-Lift
returns-in-Lift c = rw c.in-Lift.is (c.against_lift.ensures c.args.people.now)

pub returns-in-Temporary : goal.returns-in-Temporary
returns-in-Temporary c = rw c.in-Temporary.is (c.against_temporary.ensures c.args.people.now c.in-Temporary.text)

pub returns-in-Certify : goal.returns-in-Certify
returns-in-Certify c = rw c.in-Certify.is (c.against_certificate.ensures c.args.people.now)

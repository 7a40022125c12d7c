use Rattle.permit_database.proofs.Renewals.{refused_told}
use Rattle.permit_database.proofs.maintenance.renew_in.Goals as goal

pub returns-in-Err-clause-told : goal.returns-in-Err-clause-told
returns-in-Err-clause-told g c clean =
    let said = c.in-Err.ensures in
    refused_told c.args.party c.args.token.now _ c.in-Err.error c.of_renewing.result c.of_renewing.ensures said.refusal (said.refused clean)
    (said.refuses.damaged clean) (said.refuses.version clean)

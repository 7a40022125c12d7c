use Rattle.permit_subcommands.proofs.days.days_of_run.Goals as goal

pub returns-in_err-dated-in-Some-clause-every : goal.returns-in_err-dated-in-Some-clause-every
returns-in_err-dated-in-Some-clause-every c =
    rw c.in-Some.is (λ zoned day small is. let told = c.dated.ensures.every day small is in let failed = c.in_err-dated-in-Some.was in cc)

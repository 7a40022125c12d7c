use Rattle.permit_subcommands.proofs.days.dated.Goals as goal

pub returns-in-None-clause-every : goal.returns-in-None-clause-every
returns-in-None-clause-every c = λ day small is. let none = c.in-None.ensures.every day small is in cc

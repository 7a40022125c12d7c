use Rattle.permit_args.proofs.commands.Declaration.office.Goals as goal

pub returns : goal.returns
returns c = λ app is. c.why.ensures _ (c.days.ensures _ (c.token.ensures _ (c.policy.ensures _ (c.database.ensures _ is))))

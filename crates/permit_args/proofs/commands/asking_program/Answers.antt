use Rattle.permit_args.specs.Plans.{asking_app}
use Rattle.permit_args.proofs.commands.asking_program.Goals as goal

pub returns : goal.returns
unfolding asking_app
returns c = c.subcommand-5.ensures _ c.register.ensures _ (c.subcommand-4.ensures _ c.list.ensures _ (c.subcommand-3.ensures _ c.act.ensures _ (c.subcommand-2.ensures _ c.init.ensures _ (c.subcommand.ensures _ c.check_policy.ensures _ c.bare.ensures))))

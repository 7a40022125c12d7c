use Rattle.permit_args.specs.Plans.{program_app}
use Rattle.permit_args.proofs.commands.program.Goals as goal

pub returns : goal.returns
unfolding program_app
returns c = c.subcommand-4.ensures _ c.begin_history.ensures _ (c.subcommand-3.ensures _ c.replay.ensures _ (c.subcommand-2.ensures _ c.history.ensures _ (c.subcommand.ensures _ c.renew_token.ensures _ c.serving_program.ensures)))

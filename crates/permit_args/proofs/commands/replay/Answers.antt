use Rattle.permit_args.specs.Plans.{replay_app}
use Rattle.permit_args.proofs.commands.replay.Goals as goal

pub returns : goal.returns
unfolding replay_app
returns c = c.why.ensures _ (c.flag.ensures _ (c.copy.ensures _ (c.required_option.ensures _ (c.database.ensures _ c.new.ensures))))

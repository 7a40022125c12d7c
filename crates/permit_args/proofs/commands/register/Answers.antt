use Rattle.permit_args.specs.Plans.{register_app}
use Rattle.permit_args.proofs.commands.register.Goals as goal

pub returns : goal.returns
unfolding register_app
returns c = c.required_word.ensures _ (c.office.ensures _ c.new.ensures)

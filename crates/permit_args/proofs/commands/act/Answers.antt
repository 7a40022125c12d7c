use Rattle.permit_args.specs.Plans.{act_app}
use Rattle.permit_args.proofs.commands.act.Goals as goal

pub returns : goal.returns
unfolding act_app
returns c = c.word.ensures _ (c.required_word-2.ensures _ (c.required_word.ensures _ (c.keeping.ensures _ (c.office.ensures _ c.new.ensures))))

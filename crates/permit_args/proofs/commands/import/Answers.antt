use Rattle.permit_args.specs.Plans.{import_app}
use Rattle.permit_args.proofs.commands.import.Goals as goal

pub returns : goal.returns
unfolding import_app
returns c = c.required_word.ensures _ (c.keeping.ensures _ (c.office.ensures _ c.new.ensures))

use Rattle.permit_args.specs.Plans.{serve_app}
use Rattle.permit_args.proofs.commands.serve.Goals as goal

pub returns : goal.returns
unfolding serve_app
returns c = c.why.ensures _ (c.option-2.ensures _ (c.option.ensures _ (c.required_option.ensures _ (c.keeping.ensures _ (c.days.ensures _ (c.policy.ensures _ (c.database.ensures _ c.new.ensures)))))))

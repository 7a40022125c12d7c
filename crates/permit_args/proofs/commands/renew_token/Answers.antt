use Rattle.permit_args.specs.Plans.{renew_token_app}
use Rattle.permit_args.proofs.commands.renew_token.Goals as goal

pub returns : goal.returns
unfolding renew_token_app
returns c = c.why.ensures _ (c.keeping.ensures _ (c.token.ensures _ (c.required_option.ensures _ (c.database.ensures _ c.new.ensures))))

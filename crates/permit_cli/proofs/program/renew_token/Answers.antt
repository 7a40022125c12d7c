use Rattle.permit_args.specs.Keepings.{named_history}
use Rattle.permit_cli.proofs.Doings.{says_named}
use Rattle.permit_cli.proofs.Failings.{renews_fail}
use Rattle.permit_cli.proofs.program.renew_token.Goals as goal

pub returns-clause-fails : goal.returns-clause-fails
returns-clause-fails c =
    renews_fail c.args.words.now c.in_ok-history.history c.done_at.result c.in_ok-history.ensures.named.0 c.done_at.ensures.fails

pub returns-clause-says : goal.returns-clause-says
returns-clause-says c =
    says_named c.in_ok-history.history (named_history c.args.words.now.history) _ _ c.in_ok-history.ensures.named.0 c.done_at.ensures.says

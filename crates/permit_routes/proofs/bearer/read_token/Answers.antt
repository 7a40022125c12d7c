use Rattle.permit_routes.proofs.Tokens.{no_text_behind}
use Rattle.permit_routes.proofs.bearer.read_token.Goals as goal

pub returns-in_default-from_utf8 : goal.returns-in_default-from_utf8
returns-in_default-from_utf8 c =
    no_text_behind c.args.value.now c.in-Some.secret.now c.in-Some.ensures.cases.2 c.in_default-from_utf8.ensures.cases.0

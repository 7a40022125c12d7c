use Rattle.permit_routes.proofs.Ascii.{route_ascii}
use Rattle.permit_routes.proofs.routing.request_among.Goals as goal

pub request_with-requires-clause-text : goal.request_with-requires-clause-text
request_with-requires-clause-text c =
    route_ascii c.args.router.now c.args.path.now _ c.requires.rows c.in-Ok.ensures.found

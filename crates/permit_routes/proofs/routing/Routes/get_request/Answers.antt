use Rattle.permit_routes.specs.Routes.{get_rows}
use Rattle.permit_routes.proofs.Ascii.{get_rows_ascii}
use Rattle.permit_routes.proofs.Made.{kept_rows}
use Rattle.permit_routes.proofs.routing.Routes.get_request.Goals as goal

pub request_among-requires-clause-rows : goal.request_among-requires-clause-rows
request_among-requires-clause-rows c =
    let routes = c.args.self.now in
    rw (kept_rows get_rows routes.get c.in-Some.router routes.gets c.in-Some.is) get_rows_ascii

pub request_among-request-requires-clause-rows : goal.request_among-request-requires-clause-rows
request_among-request-requires-clause-rows c = rw c.in-Ok.ensures get_rows_ascii

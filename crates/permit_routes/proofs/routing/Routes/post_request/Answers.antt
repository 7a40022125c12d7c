use Rattle.permit_routes.specs.Routes.{post_rows}
use Rattle.permit_routes.proofs.Ascii.{post_rows_ascii}
use Rattle.permit_routes.proofs.Made.{kept_rows}
use Rattle.permit_routes.proofs.routing.Routes.post_request.Goals as goal

pub request_among-requires-clause-rows : goal.request_among-requires-clause-rows
request_among-requires-clause-rows c =
    let routes = c.args.self.now in
    rw (kept_rows post_rows routes.post c.in-Some.router routes.posts c.in-Some.is) post_rows_ascii

pub request_among-request-requires-clause-rows : goal.request_among-request-requires-clause-rows
request_among-request-requires-clause-rows c = rw c.in-Ok.ensures post_rows_ascii

-- What a method, a path and a body ask for.
use Rattle.std.specs.Prelude.{ℕ, List, Bool, nat_lt, Option, None, option_and_then, codes, bytes_eq, if◌then◌else◌}
use Rattle.std.specs.List.{list_all}
use Rattle.matchit.specs.Seek.{first}
use Rattle.matchit.specs.Params.{walk}
use Rattle.matchit.specs.Router.{RouteOf}
use Rattle.permit_base.specs.Limits.{only_if}
use Rattle.permit_base.specs.declared.request.Request.{Request}
use Rattle.permit_routes.specs.declared.requests.Endpoint.{Endpoint}
use Rattle.permit_routes.specs.Requests.{request_with}
use Rattle.permit_routes.specs.Routes.{Rows, post_rows, get_rows}

-- the request at a route that a path found
abbrev pub request_at : List ℕ → List ℕ → RouteOf Endpoint → Option (Option Request)
request_at path body route = request_with route.value (walk route.pattern route.text path route.names 0 0) body

-- the request of a path and a body among these routes
abbrev pub request_among : Rows → List ℕ → List ℕ → Option (Option Request)
request_among rows path body = option_and_then (request_at path body) (first rows path)

abbrev pub are_ascii : List ℕ → Bool
are_ascii bytes = list_all (λ b. nat_lt b 128) bytes

-- the patterns of all routes are ASCII
abbrev pub are_ascii_rows : Rows → Bool
are_ascii_rows rows = list_all (λ row. are_ascii row.1.text) rows

-- the request that a method has for an ASCII path
abbrev pub request_by : List ℕ → List ℕ → List ℕ → Option (Option Request)
request_by method body path =
    if bytes_eq method (codes "POST") then request_among post_rows path body
    else if bytes_eq method (codes "GET") then request_among get_rows path body
    else None

-- What a method, a path and a body mean: nothing where there is no route, else the request, or none where the body means
-- none. A path with a byte that is not ASCII has no route.
abbrev pub request_of : List ℕ → List ℕ → List ℕ → Option (Option Request)
request_of method path body = option_and_then (request_by method body) (only_if are_ascii path)

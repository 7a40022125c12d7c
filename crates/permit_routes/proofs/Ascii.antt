-- The ASCII test of a text, and the routes' patterns.
use Rattle.std.proofs.Common.{suc, ◌≡◌, ℕ, List, [], ◌∷◌, ◌&&◌, true, nat_lt, Some, refl, ap, ◌∙◌}
use Rattle.std.specs.Str.{IsAscii}
use Rattle.std.proofs.lemmas.Str.Ascii.{IsAscii-nil, IsAscii-cons}
use Rattle.std.proofs.lemmas.Bool.{and_parts, ltb-true, lt-ltb}
use Rattle.matchit.proofs.OnLiterals.{matchit_on_literals}
use Rattle.matchit.specs.Seek.{first}
use Rattle.matchit.specs.Router.{RouteOf}
use Rattle.permit_routes.specs.declared.requests.Endpoint.{Endpoint}
use Rattle.permit_routes.specs.Routes.{Rows, post_rows, get_rows}
use Rattle.permit_routes.specs.Routing.{are_ascii, are_ascii_rows}
use Rattle.permit_routes.proofs.Rows.{AllKeys, seek-all}

pub test-ascii : (bytes : List ℕ) → are_ascii bytes ≡ true → IsAscii bytes
test-ascii [] h = IsAscii-nil
test-ascii (b ∷ bytes) h =
    let parts = and_parts (nat_lt b 128) (are_ascii bytes) h in
    IsAscii-cons b bytes (ltb-true b 128 parts.0) (test-ascii bytes parts.1)

pub ascii-test : (bytes : List ℕ) → IsAscii bytes → are_ascii bytes ≡ true
ascii-test [] h = refl
ascii-test (b ∷ bytes) h =
    ap (λ t. t && are_ascii bytes) (lt-ltb b 128 (h 0)) ∙ ascii-test bytes (λ i. h (suc i))

HasAsciiText : RouteOf Endpoint → Type 0
HasAsciiText r = IsAscii r.text

rows_ascii : (rows : Rows) → are_ascii_rows rows ≡ true → AllKeys HasAsciiText rows
unfolding HasAsciiText
rows_ascii [] h = tt
rows_ascii ((t, r) ∷ rest) h =
    let parts = and_parts (are_ascii r.text) (are_ascii_rows rest) h in
    (test-ascii r.text parts.0, rows_ascii rest parts.1)

-- the route that a path finds is ASCII
pub route_ascii : (rows : Rows) (path : List ℕ) (r : RouteOf Endpoint) → are_ascii_rows rows ≡ true → first rows path ≡ Some r → IsAscii r.text
unfolding HasAsciiText
route_ascii rows path r h e = seek-all HasAsciiText 0 rows path r (rows_ascii rows h) e

pub post_rows_ascii : are_ascii_rows post_rows ≡ true
unfolding matchit_on_literals post_rows
post_rows_ascii = refl

pub get_rows_ascii : are_ascii_rows get_rows ≡ true
unfolding matchit_on_literals get_rows
get_rows_ascii = refl

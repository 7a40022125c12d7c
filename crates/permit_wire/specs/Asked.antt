-- What a message asks of the office: its route, then its caller, then its body.
use Rattle.std.specs.Prelude.{ℕ, List, Option, Some, None, Result, Ok, Err, option_and_then}
use Rattle.permit_base.specs.declared.request.Asked.{Asked}
use Rattle.permit_base.specs.declared.request.Request.{Request}
use Rattle.permit_http.specs.Message.{MessageData}
use Rattle.permit_routes.specs.Bearer.{token_of}
use Rattle.permit_routes.specs.Routing.{request_of}
use Rattle.permit_http.specs.declared.fault.Fault.{Fault}
use Rattle.permit_http.specs.declared.fault.Fault.TheVariants.{Route, Caller, Body}

-- no token, two, or one that is not of its form is refused, and then a body that means no request of its route
abbrev pub with_token : Option Request → Option (List ℕ) → Result Asked Fault
with_token request None = Err Caller
with_token None (Some token) = Err Body
with_token (Some request) (Some token) = Ok (record { token = token; request = request })

-- before both, a method and a path without a route are refused
abbrev pub with_route : Option (Option Request) → Option (List ℕ) → Result Asked Fault
with_route None token = Err Route
with_route (Some request) token = with_token request token

-- the request that a whole message asks, or its first fault after the head
abbrev pub asked_in : MessageData → Result Asked Fault
asked_in m = with_route (request_of m.method m.path m.body) (option_and_then token_of m.authorization)

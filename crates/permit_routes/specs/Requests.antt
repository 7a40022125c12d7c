-- The request that an endpoint, its parameters and a body make.
use Rattle.std.specs.Prelude.{ℕ, ◌==◌, List, length, Option, Some, None, option_map, codes, if◌then◌else◌}
use Rattle.permit_base.specs.Limits.{only_if, is_object_number, is_cents}
use Rattle.permit_base.specs.Texts.{is_printable, is_lot, is_token}
use Rattle.permit_base.specs.Words.{role_word, all_roles, kind_word, all_kinds}
use Rattle.permit_base.specs.declared.words.Action.{Action}
use Rattle.permit_base.specs.declared.words.Action.TheVariants as action
use Rattle.permit_base.specs.declared.request.Filter.TheVariants.{All, InStage}
use Rattle.permit_base.specs.declared.request.Request.{Request}
use Rattle.permit_base.specs.declared.request.Request.TheVariants as request
use Rattle.permit_routes.specs.declared.requests.Endpoint.{Endpoint}
use Rattle.permit_routes.specs.declared.requests.Endpoint.TheVariants as endpoint
use Rattle.permit_routes.specs.Commands.{command_of}
use Rattle.permit_routes.specs.Bodies.{◌>>=◌, object_of, number_at, text_at, word_at}
use Rattle.permit_routes.specs.Parts.{Parts, id_of, action_of, stage_of, register_of, is_command}

-- a new party: name, role, token
abbrev pub party_in : List ℕ → Option Request
party_in body =
    object_of 3 body >>= λ d.
    (text_at is_printable (codes "name") d >>= λ name.
    (word_at role_word all_roles (codes "role") d >>= λ role.
    (text_at is_token (codes "token") d >>= λ token.
    Some (request.AddParty name role token))))

-- a new parcel: lot, address, owner
abbrev pub parcel_in : List ℕ → Option Request
parcel_in body =
    object_of 3 body >>= λ d.
    (text_at is_lot (codes "lot") d >>= λ lot.
    (text_at is_printable (codes "address") d >>= λ address.
    (number_at is_object_number (codes "owner") d >>= λ owner.
    Some (request.AddParcel lot address owner))))

-- a filing: parcel, kind, valuation, description
abbrev pub filing_in : List ℕ → Option Request
filing_in body =
    object_of 4 body >>= λ d.
    (number_at is_object_number (codes "parcel") d >>= λ parcel.
    (word_at kind_word all_kinds (codes "kind") d >>= λ kind.
    (number_at is_cents (codes "valuation") d >>= λ valuation.
    (text_at is_printable (codes "description") d >>= λ description.
    Some (request.File parcel kind valuation description)))))

-- a transfer: to
abbrev pub transfer_in : ℕ → List ℕ → Option Request
transfer_in parcel body =
    object_of 1 body >>= λ d. (number_at is_object_number (codes "to") d >>= λ to. Some (request.Transfer parcel to))

-- a request that needs no more said: an object without keys, or nothing
abbrev pub without_keys : Request → List ℕ → Option Request
without_keys request body = object_of 0 body >>= λ d. Some request

-- a request that reads has no body
abbrev pub without_body : Request → List ℕ → Option Request
without_body request body = if length body == 0 then Some request else None

-- a parcel is transferred, and an interest in it declared
abbrev pub on_parcel : ℕ → Action → List ℕ → Option (Option Request)
on_parcel parcel action.Transfer body = Some (transfer_in parcel body)
on_parcel parcel action.Declare body = Some (without_keys (request.Declare parcel) body)
on_parcel parcel _ body = None

-- a command on a file
abbrev pub on_file : ℕ → Action → List ℕ → Option (Option Request)
on_file file action body = option_map (λ command. option_map (request.OnFile file) (command_of command body)) (only_if is_command action)

-- What an endpoint, its parameters and a body mean. An id or a word that is none has no route.
abbrev pub request_with : Endpoint → Parts → List ℕ → Option (Option Request)
request_with endpoint.Parties parts body = Some (party_in body)
request_with endpoint.Parcels parts body = Some (parcel_in body)
request_with endpoint.ParcelAction parts body = id_of parts >>= λ parcel. (action_of parts >>= λ action. on_parcel parcel action body)
request_with endpoint.Parcel parts body = id_of parts >>= λ parcel. Some (without_body (request.ReadParcel parcel) body)
request_with endpoint.Files parts body = Some (filing_in body)
request_with endpoint.FileAction parts body = id_of parts >>= λ file. (action_of parts >>= λ action. on_file file action body)
request_with endpoint.File parts body = id_of parts >>= λ file. Some (without_body (request.ReadFile file) body)
request_with endpoint.Listing parts body = Some (without_body (request.ListFiles All) body)
request_with endpoint.StageListing parts body = stage_of parts >>= λ stage. Some (without_body (request.ListFiles (InStage stage)) body)
request_with endpoint.Register parts body = register_of parts >>= λ kind. Some (without_body (request.Register kind) body)

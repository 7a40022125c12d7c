-- The records of a parcel list, and the requests that they make.
use Rattle.std.specs.Prelude.{ℕ, List, [], ◌∷◌, codes, Option, None, option_map}
use Rattle.std.specs.List.{filter_map}
use Rattle.permit_base.specs.Limits.{only_if}
use Rattle.permit_base.specs.Texts.{is_lot, is_printable}
use Rattle.permit_base.specs.declared.request.Asked.{Asked}
use Rattle.permit_base.specs.declared.request.Request.{Request}
use Rattle.permit_base.specs.declared.request.Request.TheVariants.{AddParcel}
use Rattle.permit_routes.specs.Bodies.{◌>>=◌, is_utf8}
use Rattle.permit_routes.specs.Ids.{id_in}

-- a record by its fields
abbrev pub Fields : Type 0
Fields = List (List ℕ)

-- the first record of each parcel list
abbrev pub header : Fields
header = codes "lot" ∷ codes "address" ∷ codes "owner" ∷ []

-- the text of a field, where it is UTF-8
abbrev pub text_in : List ℕ → Option (List ℕ)
text_in field = only_if is_utf8 field

-- the request for a parcel of these texts, where they are within their limits; the owner is written as an id in a path
abbrev pub parcel_of : List ℕ → List ℕ → List ℕ → Option Request
parcel_of lot address owner =
    only_if is_lot lot >>= λ lot.
    (only_if is_printable address >>= λ address.
    option_map (AddParcel lot address) (id_in owner))

-- the request for the parcel of a record: three fields of text
abbrev pub request_of_record : Fields → Option Request
request_of_record (lot ∷ address ∷ owner ∷ []) =
    text_in lot >>= λ lot.
    (text_in address >>= λ address.
    (text_in owner >>= parcel_of lot address))
request_of_record _ = None

-- the same with the caller's token
abbrev pub asked_by : List ℕ → Request → Asked
asked_by token request = record { token = token; request = request }

-- the requests of a list's records, of one caller on one day
abbrev pub requests_of : List ℕ → ℕ → List Fields → List (Asked × ℕ)
requests_of token day rows = filter_map (λ row. option_map (λ request. (asked_by token request, day)) (request_of_record row)) rows

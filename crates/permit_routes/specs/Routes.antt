-- The routes: the patterns that `matchit` reads, and the place that each leads to.
use Rattle.std.specs.Prelude.{ℕ, List, [], ◌∷◌, Result, Ok, Err, codes}
use Rattle.matchit.specs.Rows.{RowsOf}
use Rattle.matchit.specs.Order.{placed}
use Rattle.matchit.specs.Route.{Scan, parse_route}
use Rattle.matchit.specs.Router.{RouteOf, route_from}
use Rattle.matchit.specs.declared.error.InsertError.{InsertError}
use Rattle.permit_routes.specs.declared.requests.Endpoint.{Endpoint}
use Rattle.permit_routes.specs.declared.requests.Endpoint.TheVariants.{Parties, Parcels, ParcelAction, Files, FileAction, Parcel, Listing}
use Rattle.permit_routes.specs.declared.requests.Endpoint.TheVariants.{StageListing, File, Register}

-- a pattern, and what it leads to
abbrev pub Entry : Type 0
Entry = List ℕ × Endpoint

abbrev pub Rows : Type 0
Rows = RowsOf (RouteOf Endpoint)

-- the rows with one more pattern, where it can be read
abbrev pub with_route : Result Scan InsertError → Endpoint → Rows → Rows
with_route (Ok s) endpoint rows = placed (s.pattern, route_from s endpoint) rows
with_route (Err e) endpoint rows = rows

-- the rows of a router that takes these patterns in turn
abbrev pub routed : List Entry → Rows → Rows
routed [] rows = rows
routed (e ∷ rest) rows = routed rest (with_route (parse_route e.0) e.1 rows)

abbrev pub post_table : List Entry
post_table =
    (codes "/parties", Parties)
    ∷ (codes "/parcels", Parcels)
    ∷ (codes "/parcels/{id}/{action}", ParcelAction)
    ∷ (codes "/files", Files)
    ∷ (codes "/files/{id}/{action}", FileAction)
    ∷ []

abbrev pub get_table : List Entry
get_table =
    (codes "/parcels/{id}", Parcel)
    ∷ (codes "/files", Listing)
    ∷ (codes "/files/stage/{stage}", StageListing)
    ∷ (codes "/files/{id}", File)
    ∷ (codes "/registers/{name}", Register)
    ∷ []

unfoldable pub post_rows : Rows
post_rows = routed post_table []

unfoldable pub get_rows : Rows
get_rows = routed get_table []

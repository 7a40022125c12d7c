use Rattle.std.proofs.Common.{◌≡◌, refl, sym}
use Rattle.std.specs.Prelude.{◌&&◌}
use Rattle.std.specs.List.{list_any}
use Rattle.permit_model.specs.Routes.{relations_found}
use Rattle.permit_store.specs.Finding.{lies_in, is_wanted}
use Rattle.permit_store.specs.Plain.{row_seen}
use Rattle.permit_store.proofs.Selecting.{found_outside, found_unwanted, found_wanted}
use Rattle.permit_store.proofs.plain.select.Selection.find.Goals as goal

pub returns-then-not-is_in_any_cell : goal.returns-then-not-is_in_any_cell
returns-then-not-is_in_any_cell c =
    let s = c.args.self.now in
    let row = c.args.row.now in
    let lies : c.is_in_any_cell.result ≡ list_any (λ r. lies_in r s.day row.state) s.routes.now = rw (sym c.row.view_is) c.is_in_any_cell.ensures in
    found_outside s row c.is_in_any_cell.result lies c.if-not-is_in_any_cell.true

pub returns-then-not-any_asks_for : goal.returns-then-not-any_asks_for
returns-then-not-any_asks_for c =
    let s = c.args.self.now in
    let row = c.args.row.now in
    let set : c.relations-set.result ≡ relations_found s.caller (row_seen s row) =
    rw (c.relations-set.ensures.row, c.owner-owner.ensures, c.has-conflict.ensures, c.parcel.ensures, c.parcel-2.ensures, sym c.row.view_is) refl in
    let wanted : c.any_asks_for.result ≡ list_any (λ r. lies_in r s.day row.state && is_wanted r c.relations-set.result) s.routes.now =
    rw (sym c.row.view_is) c.any_asks_for.ensures in
    found_unwanted s row c.relations-set.result c.any_asks_for.result set wanted c.if-not-any_asks_for.true

pub returns : goal.returns
returns c =
    let s = c.args.self.now in
    let row = c.args.row.now in
    let set : c.relations-set.result ≡ relations_found s.caller (row_seen s row) =
    rw (c.relations-set.ensures.row, c.owner-owner.ensures, c.has-conflict.ensures, c.parcel.ensures, c.parcel-2.ensures, sym c.row.view_is) refl in
    let wanted : c.any_asks_for.result ≡ list_any (λ r. lies_in r s.day row.state && is_wanted r c.relations-set.result) s.routes.now =
    rw (sym c.row.view_is) c.any_asks_for.ensures in
    let found : c.in_ok-copy_found.field-0 ≡ row_seen s row = rw (
      c.in_ok-copy_found.ensures,
      c.owner-owner.ensures,
      c.has-conflict.ensures,
      c.parcel.ensures,
      c.parcel-2.ensures,
      sym c.row.view_is,
    ) refl in
    found_wanted s row c.relations-set.result c.any_asks_for.result c.in_ok-copy_found.field-0 set wanted c.if-not-any_asks_for.false found

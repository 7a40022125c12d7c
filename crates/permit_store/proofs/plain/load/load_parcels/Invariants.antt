use Rattle.std.proofs.Common.{◌≡◌, ◌≤◌, length, take}
use Rattle.permit_model.specs.Parcels.{Parcel}
use Rattle.permit_model.specs.Numbering.{IsNumbered}
use Rattle.permit_model.specs.Tables.{Tables}
use Rattle.permit_store.proofs.plain.load.load_parcels.Given as goal

abbrev pub invariant-loop-place : goal.invariant-loop-place
invariant-loop-place g l = record {
  kept : (t : Tables) → (g.S.Store.view l.fn.store).holds t → (g.S.Store.view l.store).holds t;
  doubt : (g.S.Store.view l.fn.store).doubt ≤ (g.S.Store.view l.store).doubt;
  commits : (g.S.Store.view l.store).commits ≡ (g.S.Store.view l.fn.store).commits;
  counted : length l.parcels.rows.items ≡ l.place;
  held : (g.S.Store.view l.store).doubt ≡ 0 → (t : Tables) → (g.S.Store.view l.fn.store).holds t → IsNumbered (λ (p : Parcel). p.id) t.parcels →
      length t.parcels ≡ l.count → l.parcels.rows.items ≡ take l.place t.parcels;
}

use Rattle.std.proofs.Common.{◌≡◌, ◌≤◌, map, take}
use Rattle.permit_model.specs.Tables.{Tables}
use Rattle.permit_policy.specs.Selections.{items_of}
use Rattle.permit_store.specs.Frames.{HasOneDesk}
use Rattle.permit_office.specs.Listings.{Gathers}
use Rattle.permit_office.proofs.listing.gather.Given as goal

abbrev pub invariant-loop-selection : goal.invariant-loop-selection
invariant-loop-selection g l = record {
  kept : (t : Tables) → (g.S.Store.view l.fn.store).holds t → (g.S.Store.view l.store).holds t;
  one : (g.S.Store.view l.store).doubt ≡ 0 → HasOneDesk (g.S.Store.view l.fn.store) → HasOneDesk (g.S.Store.view l.store);
  doubt : (g.S.Store.view l.fn.store).doubt ≤ (g.S.Store.view l.store).doubt;
  failed : (g.S.Store.view l.store).failed ≡ (g.S.Store.view l.fn.store).failed;
  commits : (g.S.Store.view l.store).commits ≡ (g.S.Store.view l.fn.store).commits;
  gathers : Gathers l.fn.policy l.fn.caller l.fn.day (map items_of (take l.selection-index l.selections)) (g.S.Store.view l.fn.store)
      (g.S.Store.view l.store) l.list.files.items l.read;
}

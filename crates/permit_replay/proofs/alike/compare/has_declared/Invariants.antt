use Rattle.std.proofs.Common.{◌≡◌, true, take}
use Rattle.std.specs.List.{list_all}
use Rattle.permit_model.specs.Tables.{Tables}
use Rattle.permit_store.specs.Interests.{is_declared}
use Rattle.permit_replay.specs.Comparing.{Looks, NoneFailed}
use Rattle.permit_replay.proofs.alike.compare.has_declared.Given as goal

abbrev pub invariant-loop-interest : goal.invariant-loop-interest
invariant-loop-interest g l = record {
  looks : Looks (g.S.Store.view l.fn.store) (g.S.Store.view l.store);
  failed : NoneFailed (g.S.Store.view l.fn.store) (g.S.Store.view l.store);
  all : (g.S.Store.view l.store).doubt ≡ 0 → (t : Tables) → (g.S.Store.view l.fn.store).holds t
      → list_all (λ i. is_declared i.parcel i.party t.interests) (take l.interest-index l.interests) ≡ true;
}

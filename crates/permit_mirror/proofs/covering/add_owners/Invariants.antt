use Rattle.std.proofs.Common.{◌≡◌, ◌<◌, ◌≤◌, ℕ}
use Rattle.std.specs.Prelude.{IsTrue, Some}
use Rattle.permit_model.specs.Routes.{owner_in}
use Rattle.permit_model.specs.Tables.{Tables}
use Rattle.permit_mirror.specs.Index.{Widens}
use Rattle.permit_mirror.specs.Pairs.{has}
use Rattle.permit_mirror.proofs.covering.add_owners.Given as goal

abbrev pub invariant-loop-place : goal.invariant-loop-place
invariant-loop-place g l = record {
  kept : (t : Tables) → (g.M.Store.view l.fn.memory).holds t → (g.M.Store.view l.memory).holds t;
  widened : Widens l.fn.index l.index;
  owners : (t : Tables) → (g.M.Store.view l.fn.memory).holds t → (parcel p : ℕ) → 0 < parcel → parcel ≤ l.place → owner_in t parcel ≡ Some p →
      IsTrue (has l.index.people_at parcel p);
}

use Rattle.std.proofs.Common.{ℕ, take}
use Rattle.std.specs.Prelude.{IsTrue}
use Rattle.permit_store.specs.Interests.{is_declared}
use Rattle.permit_mirror.specs.Index.{Widens}
use Rattle.permit_mirror.specs.Pairs.{has}
use Rattle.permit_mirror.proofs.covering.add_interests.Given as goal

abbrev pub invariant-loop-interest : goal.invariant-loop-interest
invariant-loop-interest g l = record {
  widened : Widens l.fn.index l.index;
  declared : (parcel p : ℕ) → IsTrue (is_declared parcel p (take l.interest-index l.interest-items)) → IsTrue (has l.index.people_at parcel p);
}

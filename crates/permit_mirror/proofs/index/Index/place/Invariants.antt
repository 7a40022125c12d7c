use Rattle.std.proofs.Common.{◌≡◌, ℕ, ◌==◌, take}
use Rattle.std.specs.Prelude.{IsTrue}
use Rattle.std.specs.List.{list_any}
use Rattle.permit_mirror.specs.Pairs.{has, Grows}
use Rattle.permit_mirror.proofs.index.Index.place.Given as goal

abbrev pub invariant-loop-party : goal.invariant-loop-party
invariant-loop-party l = record {
  grown : Grows l.fn.self.files_of l.self.files_of;
  on : l.self.files_on ≡ l.fn.self.files_on;
  at : l.self.people_at ≡ l.fn.self.people_at;
  parcels : l.self.parcels ≡ l.fn.self.parcels;
  files : l.self.files ≡ l.fn.self.files;
  given : (n : ℕ) → IsTrue (list_any (λ m. m == n) (take l.party-index l.party-items)) → IsTrue (has l.self.files_of n l.file);
}

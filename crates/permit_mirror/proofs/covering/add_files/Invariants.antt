use Rattle.std.proofs.Common.{◌≡◌, ◌<◌, ◌≤◌, ◌==◌, ℕ, find}
use Rattle.std.specs.Prelude.{Some}
use Rattle.permit_model.specs.Tables.{FileRow, Tables}
use Rattle.permit_mirror.specs.Index.{IsThere, Widens}
use Rattle.permit_mirror.proofs.covering.add_files.Given as goal

abbrev pub invariant-loop-place : goal.invariant-loop-place
invariant-loop-place g l = record {
  kept : (t : Tables) → (g.M.Store.view l.fn.memory).holds t → (g.M.Store.view l.memory).holds t;
  widened : Widens l.fn.index l.index;
  there : (t : Tables) → (g.M.Store.view l.fn.memory).holds t → (n : ℕ) (row : FileRow) → 0 < n → n ≤ l.place → find (λ (f : FileRow). f.id == n) t.files ≡ Some row →
      IsThere l.index n row.state;
}

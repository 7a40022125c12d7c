-- Calls that only read.
use Rattle.std.proofs.Common.{◌≡◌, ◌∙◌, refl, ℕ, arith}
use Rattle.permit_store.specs.Frames.{StoreView}
use Rattle.permit_replay.specs.Comparing.{Looks}

pub looks_on : {old mid new : StoreView} → Looks old mid → Looks mid new → Looks old new
looks_on a b = record {
  kept = λ t h. b.kept t (a.kept t h);
  doubt = omega (arith, a.doubt, b.doubt);
  commits = b.commits ∙ a.commits;
}

pub looks_still : (s : StoreView) → Looks s s
looks_still s = record { kept = λ t h. h; doubt = omega arith; commits = refl }

pub clean_before : {old new : StoreView} → Looks old new → new.doubt ≡ 0 → old.doubt ≡ 0
clean_before looks clean = omega (arith, looks.doubt, clean)

-- What an office that was asked once, or not at all, is.
use Rattle.std.proofs.Common.{◌≡◌, ◌≤◌, ℕ, Bool, true, false, inl, inr, ap, arith}
use Rattle.permit_store.specs.Frames.{StoreView}
use Rattle.permit_office.specs.Office.{OfficeView}
use Rattle.permit_office.specs.declared.log.Log.{Ghosts}
use Rattle.permit_wire.specs.Serving.{AsksOnce, Moves, StepsOn}

module _ {S L : Type 0} (view : S → StoreView) (log : Ghosts L) (day : ℕ) (office office' : OfficeView S L) where
  pub moves : (asked : Bool) → AsksOnce (λ o a reply o'. StepsOn view log o a day reply o') office office' asked → Moves view log day office office'
  moves true h = inr (h.0, h.1.reply, h.2.0)
  moves false same = inl same

  pub policy : Moves view log day office office' → office'.policy ≡ office.policy
  policy (inl same) = ap (λ (o : OfficeView S L). o.policy) same
  policy (inr h) = h.2.step.policy

  pub doubt : Moves view log day office office' → (view office.store).doubt ≤ (view office'.store).doubt
  doubt (inl same) = let e = ap (λ (o : OfficeView S L). (view o.store).doubt) same in omega arith
  doubt (inr h) = h.2.step.doubt

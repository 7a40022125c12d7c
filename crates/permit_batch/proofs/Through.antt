-- Steps written down after those that lead somewhere.
use Rattle.std.proofs.Common.{List, [], ◌∷◌, ◌++◌, refl, subst, sym}
use Rattle.permit_model.specs.Tables.{Tables}
use Rattle.permit_batch.specs.Leading.{LeadThrough}

-- one more step
pub lead_more : {Step : Type 0} (leads : Step → Tables → Tables → Type 0) (steps : List Step) (step : Step) (t u v : Tables) → LeadThrough leads steps t u
    → leads step u v → LeadThrough leads (steps ++ step ∷ []) t v
lead_more leads [] step t u v same h = (v, subst (λ x. leads step x v) (sym same) h, refl)
lead_more leads (first ∷ more) step t u v all h = (all.0, all.1, lead_more leads more step all.0 u v all.2 h)

-- Steps that lead from tables to tables.
use Rattle.std.specs.Prelude.{◌≡◌, List, [], ◌∷◌}
use Rattle.permit_model.specs.Tables.{Tables}

-- They lead from the first tables to the last, each from where the one before it leads.
abbrev pub LeadThrough : {Step : Type 0} → (Step → Tables → Tables → Type 0) → List Step → Tables → Tables → Type 0
LeadThrough leads [] t u = t ≡ u
LeadThrough leads (step ∷ more) t u = (between : Tables) × leads step t between × LeadThrough leads more between u

-- Steps that lead from tables to tables, as the statements of one transaction.
use Rattle.std.proofs.Common.{List, [], ◌∷◌, sym, subst}
use Rattle.std.specs.List.{flat_map}
use Rattle.std.proofs.lemmas.List.Concat.{flat_map-cons}
use Rattle.sqlite_trees.specs.declared.store.Store.{Ghosts}
use Rattle.permit_model.specs.Tables.{Tables}
use Rattle.permit_batch.specs.Leading.{LeadThrough}
use Rattle.permit_sql_statements.specs.Changing.{Lead}
use Rattle.permit_sql_statements.specs.Written.{written_in}
use Rattle.permit_sql_statements.specs.declared.step.Step.{Step}
use Rattle.permit_sql_statements.proofs.Leading.{lead_none, lead_both}

pub lead_through : {S : Type 0} (g : Ghosts S) (steps : List Step) (t u : Tables) → LeadThrough (λ step a b. Lead g (written_in step) a b) steps t u
    → Lead g (flat_map written_in steps) t u
lead_through g [] t u same = subst (Lead g (flat_map written_in []) t) same (lead_none g t)
lead_through g (step ∷ more) t u all =
    subst (λ l. Lead g l t u) (sym (flat_map-cons written_in step more))
    (lead_both g (written_in step) (flat_map written_in more) t all.0 u all.1 (lead_through g more all.0 u all.2))

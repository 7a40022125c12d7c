use Rattle.std.proofs.Common.{◌∙◌, ◌∷◌, List, ap₂, refl, subst}
use Rattle.sqlite.specs.Values.{bound}
use Rattle.permit_sql_statements.specs.Frames.{RunsAll}
use Rattle.permit_sql_statements.specs.Statements.{Statement}
use Rattle.permit_sql_statements.proofs.create.upgraded.Goals as goal

pub returns : goal.returns
returns g c =
    subst (λ (l : List Statement). RunsAll g.S.Store l c.args.conn.now c.run_all.new.conn c.run_all.result)
    (ap₂ ◌∷◌ (ap₂ (λ a b. (a, bound b)) c.statement.ensures.0 (c.statement.ensures.1 ∙ c.requires.bare))
    (ap₂ ◌∷◌ (ap₂ (λ a b. (a, bound b)) c.statement-2.ensures.0 (c.statement-2.ensures.1))
    (ap₂ ◌∷◌ (ap₂ (λ a b. (a, bound b)) c.statement-3.ensures.0 (c.statement-3.ensures.1 ∙ c.requires.bare))
    (refl))))
    c.run_all.ensures

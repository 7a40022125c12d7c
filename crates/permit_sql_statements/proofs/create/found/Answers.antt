use Rattle.std.proofs.Common.{◌∙◌, ◌∷◌, List, ap₂, refl, subst}
use Rattle.sqlite.specs.Values.{bound}
use Rattle.permit_sql_statements.specs.Frames.{RunsAll}
use Rattle.permit_sql_statements.specs.Statements.{Statement}
use Rattle.permit_sql_statements.proofs.create.found.Goals as goal

pub returns : goal.returns
returns g c =
    subst (λ (l : List Statement). RunsAll g.S.Store l c.args.conn.now c.run_all.new.conn c.run_all.result)
    (ap₂ ◌∷◌ (ap₂ (λ a b. (a, bound b)) c.statement.ensures.0 (c.statement.ensures.1 ∙ c.requires.bare))
    (ap₂ ◌∷◌ (ap₂ (λ a b. (a, bound b)) c.statement-2.ensures.0 (c.statement-2.ensures.1 ∙ c.requires.bare))
    (ap₂ ◌∷◌ (ap₂ (λ a b. (a, bound b)) c.statement-3.ensures.0 (c.statement-3.ensures.1 ∙ c.requires.bare))
    (ap₂ ◌∷◌ (ap₂ (λ a b. (a, bound b)) c.statement-4.ensures.0 (c.statement-4.ensures.1 ∙ c.requires.bare))
    (ap₂ ◌∷◌ (ap₂ (λ a b. (a, bound b)) c.statement-5.ensures.0 (c.statement-5.ensures.1 ∙ c.requires.bare))
    (ap₂ ◌∷◌ (ap₂ (λ a b. (a, bound b)) c.statement-6.ensures.0 (c.statement-6.ensures.1 ∙ c.requires.bare))
    (ap₂ ◌∷◌ (ap₂ (λ a b. (a, bound b)) c.statement-7.ensures.0 (c.statement-7.ensures.1 ∙ c.requires.bare))
    (ap₂ ◌∷◌ (ap₂ (λ a b. (a, bound b)) c.statement-8.ensures.0 (c.statement-8.ensures.1 ∙ c.requires.bare))
    (ap₂ ◌∷◌ (ap₂ (λ a b. (a, bound b)) c.statement-9.ensures.0 (c.statement-9.ensures.1 ∙ c.requires.bare))
    (ap₂ ◌∷◌ (ap₂ (λ a b. (a, bound b)) c.statement-10.ensures.0 (c.statement-10.ensures.1 ∙ c.requires.bare))
    (ap₂ ◌∷◌ (ap₂ (λ a b. (a, bound b)) c.statement-11.ensures.0 (c.statement-11.ensures.1 ∙ c.requires.bare))
    (ap₂ ◌∷◌ (ap₂ (λ a b. (a, bound b)) c.statement-12.ensures.0 (c.statement-12.ensures.1 ∙ c.requires.bare))
    (ap₂ ◌∷◌ (ap₂ (λ a b. (a, bound b)) c.statement-13.ensures.0 (c.statement-13.ensures.1 ∙ c.requires.bare))
    (ap₂ ◌∷◌ (ap₂ (λ a b. (a, bound b)) c.statement-14.ensures.0 (c.statement-14.ensures.1 ∙ c.requires.bare))
    (ap₂ ◌∷◌ (ap₂ (λ a b. (a, bound b)) c.statement-15.ensures.0 (c.statement-15.ensures.1 ∙ c.requires.bare))
    (ap₂ ◌∷◌ (ap₂ (λ a b. (a, bound b)) c.statement-16.ensures.0 (c.statement-16.ensures.1))
    (ap₂ ◌∷◌ (ap₂ (λ a b. (a, bound b)) c.statement-17.ensures.0 (c.statement-17.ensures.1))
    (ap₂ ◌∷◌ (ap₂ (λ a b. (a, bound b)) c.statement-18.ensures.0 (c.statement-18.ensures.1))
    (refl)))))))))))))))))))
    c.run_all.ensures

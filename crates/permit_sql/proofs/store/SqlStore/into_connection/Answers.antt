use Rattle.std.proofs.Common.{◌≡◌, IsTrue, not, ap, subst, sym, ◌∙◌}
use Rattle.sqlite.specs.Effect.{Database}
use Rattle.sqlite.specs.Held.{state}
use Rattle.permit_sql.specs.Seen.{Lasts}
use Rattle.permit_sql.proofs.store.SqlStore.into_connection.Goals as goal

pub returns-clause-lasts : goal.returns-clause-lasts
returns-clause-lasts g c = λ open_.
    let it = c.into_connection-conn.ensures in
    let held = c.into_connection-conn.result in
    let s = state g.S.Store held in
    let opened : IsTrue s.is_open = subst (λ h. IsTrue (state g.S.Store h).is_open) (sym it.same) open_ in
    let settled : s.now ≡ s.committed = c.is_autocommit-settled.ensures.settled (c.is_autocommit-settled.ensures.value ∙ ap not it.idle) opened in
    subst (λ h. Lasts (state g.S.Store h)) it.same
    (λ db left. g.met.S.Store.settled held.store db opened left ∙ ap (λ (d : Database). d.trees) (sym settled))

use Rattle.std.proofs.Common.{◌≡◌, ◌∙◌, ap, rules}
use Rattle.permit_model.specs.Tables.{Desk}
use Rattle.permit_database.proofs.Opened.{clean_of, shown_back}
use Rattle.permit_database.proofs.renewing.last_of.Goals as goal

pub returns-in-Ok-clause-last : goal.returns-in-Ok-clause-last
returns-in-Ok-clause-last g c =
    let same = c.into_connection-conn.ensures.conn in
    let last : c.desk.inside.last ≡ c.in-Ok.desk.last = search rules in
    λ clean t held. last ∙ ap (λ (d : Desk). d.last) (c.in-Ok.ensures.found (clean_of g.S.Store _ _ same clean) t held)

pub returns-in-Ok-clause-kept : goal.returns-in-Ok-clause-kept
returns-in-Ok-clause-kept g c = λ clean t held.
    shown_back g.S.Store _ c.into_connection-conn.result c.into_connection-conn.ensures.conn t (λ well. (c.in-Ok.ensures.read.kept t held well).1) clean

pub returns-in-Err-clause-kept : goal.returns-in-Err-clause-kept
returns-in-Err-clause-kept g c = λ clean t held.
    shown_back g.S.Store _ c.into_connection-conn.result c.into_connection-conn.ensures.conn t (λ well. (c.in-Err.ensures.read.kept t held well).1) clean

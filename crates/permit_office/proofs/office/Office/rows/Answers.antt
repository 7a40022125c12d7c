use Rattle.std.proofs.Common.{◌≡◌, sym, subst}
use Rattle.permit_base.specs.Digests.{digest_of}
use Rattle.permit_base.specs.declared.request.Request.TheVariants as request
use Rattle.permit_model.specs.Tables.{tables}
use Rattle.permit_office.specs.Office.{OfficeView}
use Rattle.permit_office.specs.Opening.{rows_opened}
use Rattle.permit_office.specs.Showing.{OpensAt}
use Rattle.permit_office.specs.Stops.{StopsAt}
use Rattle.permit_office.proofs.office.Office.rows.Goals as goal

pub returns-in-Ok-clause-opened : goal.returns-in-Ok-clause-opened
returns-in-Ok-clause-opened g c = λ doubt h is held.
    let a = c.args in
    let s = g.S.Store.view in
    let d : c.in-Ok.digest ≡ digest_of a.token.now = cc c.in-Ok.ensures in
    let kept = subst (λ (o : OfficeView g.row.S.Denot g.row.L.Denot). (s o.store).holds (tables h)) (sym c.self.view_is) held in
    subst (λ (o : OfficeView g.row.S.Denot g.row.L.Denot). OpensAt (rows_opened o.policy h (digest_of a.token.now) (request.ListFiles a.wanted) a.day) c.show.result
    (s o.store).handed (s c.show.new.store).handed) c.self.view_is
    (rw d at (c.show.ensures.opened doubt h is kept))

pub returns-in-Ok-clause-stopped : goal.returns-in-Ok-clause-stopped
returns-in-Ok-clause-stopped g c = λ doubt h is held.
    let a = c.args in
    let s = g.S.Store.view in
    let d : c.in-Ok.digest ≡ digest_of a.token.now = cc c.in-Ok.ensures in
    let kept = subst (λ (o : OfficeView g.row.S.Denot g.row.L.Denot). (s o.store).holds (tables h)) (sym c.self.view_is) held in
    subst (λ (o : OfficeView g.row.S.Denot g.row.L.Denot). StopsAt g.T.Taker.took o.policy h (digest_of a.token.now) a.day a.wanted c.show.result a.taker.now c.show.new.taker
    (s o.store).handed (s c.show.new.store).handed) c.self.view_is
    (rw d at (c.show.ensures.stopped doubt h is kept))

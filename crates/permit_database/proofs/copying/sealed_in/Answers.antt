use Rattle.std.proofs.Common.{subst}
use Rattle.sqlite.specs.State.{HasCleanDisk}
use Rattle.sqlite.specs.Held.{Held, state}
use Rattle.permit_database.proofs.Opened.{looked, refused_back}
use Rattle.permit_database.proofs.copying.sealed_in.Goals as goal

pub returns-in-Ok-sealed-clause-sealed : goal.returns-in-Ok-sealed-clause-sealed
returns-in-Ok-sealed-clause-sealed g c = λ clean t shows sound.
    c.in-Ok-sealed.ensures.sealed (subst (λ (h : Held _). HasCleanDisk (state g.S.Store h)) c.into_connection-conn.ensures.conn clean) t
    (c.in-Ok.ensures.opened.held t shows) sound

pub returns-in-Ok-sealed-clause-back : goal.returns-in-Ok-sealed-clause-back
returns-in-Ok-sealed-clause-back g c =
    let store = c.sealed_of-sealed.new.store in
    looked g.S.Store c.args.conn c.in-Ok.store.conn store.conn c.into_connection-conn.result store.upgrade store.handed store.failed store.commits _
    c.in-Ok.ensures.opened c.sealed_of-sealed.ensures.looks c.into_connection-conn.ensures.conn

pub returns-in-Err-sealed-clause-back : goal.returns-in-Err-sealed-clause-back
returns-in-Err-sealed-clause-back g c =
    let store = c.sealed_of-sealed.new.store in
    looked g.S.Store c.args.conn c.in-Ok.store.conn store.conn c.into_connection-conn.result store.upgrade store.handed store.failed store.commits _
    c.in-Ok.ensures.opened c.sealed_of-sealed.ensures.looks c.into_connection-conn.ensures.conn

pub returns-in-Err-clause-back : goal.returns-in-Err-clause-back
returns-in-Err-clause-back g c = refused_back g.S.Store c.args.conn c.in-Err.conn _ c.in-Err.ensures.refused

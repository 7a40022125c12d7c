use Rattle.std.proofs.Common.{subst}
use Rattle.sqlite.specs.State.{HasCleanDisk}
use Rattle.sqlite.specs.Held.{Held, state}
use Rattle.permit_database.proofs.Opened.{looked, refused_back}
use Rattle.permit_database.proofs.copying.copied_in.Goals as goal

pub returns-in-Ok-copied-clause-copied : goal.returns-in-Ok-copied-clause-copied
returns-in-Ok-copied-clause-copied g c = λ clean t shows sound.
    c.in-Ok-copied.ensures.copied (subst (λ (h : Held _). HasCleanDisk (state g.S.Store h)) c.into_connection-conn.ensures.conn clean) t
    (c.in-Ok.ensures.opened.held t shows) sound

pub returns-in-Ok-copied-clause-back : goal.returns-in-Ok-copied-clause-back
returns-in-Ok-copied-clause-back g c =
    let store = c.copied_of-copied.new.store in
    looked g.S.Store c.args.conn c.in-Ok.store.conn store.conn c.into_connection-conn.result store.upgrade store.handed store.failed store.commits _
    c.in-Ok.ensures.opened c.copied_of-copied.ensures.looks c.into_connection-conn.ensures.conn

pub returns-in-Err-copied-clause-back : goal.returns-in-Err-copied-clause-back
returns-in-Err-copied-clause-back g c =
    let store = c.copied_of-copied.new.store in
    looked g.S.Store c.args.conn c.in-Ok.store.conn store.conn c.into_connection-conn.result store.upgrade store.handed store.failed store.commits _
    c.in-Ok.ensures.opened c.copied_of-copied.ensures.looks c.into_connection-conn.ensures.conn

pub returns-in-Err-clause-back : goal.returns-in-Err-clause-back
returns-in-Err-clause-back g c = refused_back g.S.Store c.args.conn c.in-Err.conn _ c.in-Err.ensures.refused

use Rattle.permit_database.proofs.Failures.{comparing_told}
use Rattle.permit_database.proofs.Opened.{clean_of, looked, refused_back}
use Rattle.permit_database.proofs.comparing.difference_in.Goals as goal

pub returns-in-Ok-found-clause-none : goal.returns-in-Ok-found-clause-none
returns-in-Ok-found-clause-none g c = λ bytes reading clean t shows sound.
    c.in-Ok-found.ensures.none bytes reading (clean_of g.S.Store _ c.into_connection-conn.result c.into_connection-conn.ensures.conn clean) t
    (c.in-Ok.ensures.opened.held t shows) sound

pub returns-in-Ok-found-clause-named : goal.returns-in-Ok-found-clause-named
returns-in-Ok-found-clause-named g c = λ bytes reading clean t shows.
    c.in-Ok-found.ensures.named bytes reading (clean_of g.S.Store _ c.into_connection-conn.result c.into_connection-conn.ensures.conn clean) t
    (c.in-Ok.ensures.opened.held t shows)

pub returns-in-Ok-found-clause-back : goal.returns-in-Ok-found-clause-back
returns-in-Ok-found-clause-back g c =
    let store = c.difference-found.new.store in
    looked g.S.Store c.args.conn c.in-Ok.store.conn store.conn c.into_connection-conn.result store.upgrade store.handed store.failed store.commits _
    c.in-Ok.ensures.opened c.difference-found.ensures.looks c.into_connection-conn.ensures.conn

pub returns-in-Ok-clause-back : goal.returns-in-Ok-clause-back
returns-in-Ok-clause-back g c =
    let store = c.difference-found.new.store in
    looked g.S.Store c.args.conn c.in-Ok.store.conn store.conn c.into_connection-conn.result store.upgrade store.handed store.failed store.commits _
    c.in-Ok.ensures.opened c.difference-found.ensures.looks c.into_connection-conn.ensures.conn

pub returns-in-Ok-clause-fails : goal.returns-in-Ok-clause-fails
returns-in-Ok-clause-fails g c = comparing_told c.in-Err-found.fault _ c.of_comparing.ensures

pub returns-clause-back : goal.returns-clause-back
returns-clause-back g c = refused_back g.S.Store c.args.conn c.in-Err.conn c.in-Err.why c.in-Err.ensures.refused

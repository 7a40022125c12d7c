use Rattle.permit_database.proofs.Failures.{comparing_told}
use Rattle.permit_database.proofs.Opened.{looked, place_shown, refused_back}
use Rattle.permit_database.proofs.Placed.{are_placed, nowhere, placed_so, unplaced}
use Rattle.permit_database.proofs.comparing.compare_in.Goals as goal

pub returns-in-Ok-place-clause-stands : goal.returns-in-Ok-place-clause-stands
returns-in-Ok-place-clause-stands g c = λ bytes reading.
    let store = c.find_place-place.new.store in
    placed_so c.only_placed.result c.in-Ok-place.place _ c.only_placed.ensures.placed
    (place_shown g.S.Store _ bytes _ c.args.conn c.in-Ok.store.conn store.conn c.into_connection-conn.result store.upgrade store.handed store.failed store.commits _
    c.in-Ok.ensures.opened (c.in-Ok-place.ensures.placed bytes reading) c.into_connection-conn.ensures.conn)

pub returns-in-Ok-place-clause-placed : goal.returns-in-Ok-place-clause-placed
returns-in-Ok-place-clause-placed g c = are_placed c.only_placed.result c.in-Ok-place.place c.only_placed.ensures.placed

pub returns-in-Ok-place-clause-differs : goal.returns-in-Ok-place-clause-differs
returns-in-Ok-place-clause-differs g c = λ bytes reading clean t shows sound told.
    let store = c.find_place-place.new.store in
    let there = place_shown g.S.Store _ bytes c.in-Ok-place.place c.args.conn c.in-Ok.store.conn store.conn c.into_connection-conn.result store.upgrade store.handed
    store.failed store.commits _ c.in-Ok.ensures.opened (c.in-Ok-place.ensures.placed bytes reading) c.into_connection-conn.ensures.conn in (
      there.entries,
      there.left,
      there.text,
      nowhere _ c.in-Ok-place.place.stood c.in-Ok-place.place.lines there.entries t (unplaced c.only_placed.result c.in-Ok-place.place c.only_placed.ensures.differs told)
          there.lines (there.stood clean t shows sound),
    )

pub returns-in-Ok-place-clause-back : goal.returns-in-Ok-place-clause-back
returns-in-Ok-place-clause-back g c =
    let store = c.find_place-place.new.store in
    looked g.S.Store c.args.conn c.in-Ok.store.conn store.conn c.into_connection-conn.result store.upgrade store.handed store.failed store.commits _
    c.in-Ok.ensures.opened c.find_place-place.ensures.looks c.into_connection-conn.ensures.conn

pub returns-in-Ok-clause-back : goal.returns-in-Ok-clause-back
returns-in-Ok-clause-back g c =
    let store = c.find_place-place.new.store in
    looked g.S.Store c.args.conn c.in-Ok.store.conn store.conn c.into_connection-conn.result store.upgrade store.handed store.failed store.commits _
    c.in-Ok.ensures.opened c.find_place-place.ensures.looks c.into_connection-conn.ensures.conn

pub returns-in-Ok-clause-fails : goal.returns-in-Ok-clause-fails
returns-in-Ok-clause-fails g c = comparing_told c.in-Err-place.fault _ c.of_comparing.ensures

pub returns-clause-back : goal.returns-clause-back
returns-clause-back g c = refused_back g.S.Store c.args.conn c.in-Err.conn c.in-Err.why c.in-Err.ensures.refused

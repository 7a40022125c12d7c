use Rattle.std.proofs.Common.{◌≡◌, subst, arith}
use Rattle.permit_store.specs.contracts.plain.PlainStoreStore.TheImpl as plain
use Rattle.permit_replay.specs.Holding.{IsBeginning}
use Rattle.permit_replay.specs.Placing.{IsWhere}
use Rattle.permit_replay.proofs.Brought.{brought_from, lines_of, on_the_way, stands_there, where_some}
use Rattle.permit_replay.proofs.opening.bringing.bring.Goals as goal

pub returns-in_default-clause-differs : goal.returns-in_default-clause-differs
returns-in_default-clause-differs g c = λ bytes e clean t held sound is.
    let found = c.in-Ok.ensures.placed bytes e in (
      (
        found.entries,
        found.left,
        found.text,
        subst (λ o. IsWhere (IsBeginning plain.view-value.it c.args.beginning) o found.entries t) c.in_default.is (found.stood clean t held sound),
      ),
      c.find_place.ensures.looks.kept t held,
    )

pub returns-then-lines-stood-clause-brought : goal.returns-then-lines-stood-clause-brought
returns-then-lines-stood-clause-brought g c = λ bytes e again clean t held sound.
    let begins = IsBeginning plain.view-value.it c.args.beginning in
    let store = g.S.Store.view c.find_place.new.store in
    let found = c.in-Ok.ensures.placed bytes e in
    let stood = where_some begins c.in-Ok.place.stood c.in-Some.stood found.entries t c.in-Some.is (found.stood clean t held sound) in
    brought_from begins bytes t (g.S.Store.view c.args.store.now.store) store store c.in-Ok.place c.in-Some.stood found stood
    (stands_there begins c.in-Some.stood found.entries t store stood (omega (arith, c.if-lines-stood.true, found.lines)) (c.find_place.ensures.looks.kept t held))

pub returns-then-lines-stood-clause-whole : goal.returns-then-lines-stood-clause-whole
returns-then-lines-stood-clause-whole g c = λ bytes e.
    lines_of (IsBeginning plain.view-value.it c.args.beginning) bytes (g.S.Store.view c.args.store.now.store) (g.S.Store.view c.find_place.new.store) c.in-Ok.place
    (c.in-Ok.ensures.placed bytes e)

pub returns-in-Ok-redo-clause-brought : goal.returns-in-Ok-redo-clause-brought
returns-in-Ok-redo-clause-brought g c = λ bytes e again clean t held sound.
    let begins = IsBeginning plain.view-value.it c.args.beginning in
    let store = g.S.Store.view c.find_place.new.store in
    let found = c.in-Ok.ensures.placed bytes e in
    let before : store.doubt ≡ 0 = omega (arith, c.redo.ensures.doubt, clean) in
    let stood = where_some begins c.in-Ok.place.stood c.in-Some.stood found.entries t c.in-Some.is (found.stood before t held sound) in
    brought_from begins bytes t (g.S.Store.view c.args.store.now.store) store (g.S.Store.view c.redo.new.store) c.in-Ok.place c.in-Some.stood found stood
    (c.in-Ok-redo.ensures.redone c.args.beginning bytes found.entries found.left again found.text.given found.lines clean t (c.find_place.ensures.looks.kept t held) sound stood)

pub returns-in-Ok-redo-clause-whole : goal.returns-in-Ok-redo-clause-whole
returns-in-Ok-redo-clause-whole g c = λ bytes e.
    lines_of (IsBeginning plain.view-value.it c.args.beginning) bytes (g.S.Store.view c.args.store.now.store) (g.S.Store.view c.find_place.new.store) c.in-Ok.place
    (c.in-Ok.ensures.placed bytes e)

pub returns-in-Err-redo-clause-left : goal.returns-in-Err-redo-clause-left
returns-in-Err-redo-clause-left g c = λ bytes e again clean t held sound.
    let begins = IsBeginning plain.view-value.it c.args.beginning in
    let store = g.S.Store.view c.find_place.new.store in
    let found = c.in-Ok.ensures.placed bytes e in
    let before : store.doubt ≡ 0 = omega (arith, c.redo.ensures.doubt, clean) in
    let stood = where_some begins c.in-Ok.place.stood c.in-Some.stood found.entries t c.in-Some.is (found.stood before t held sound) in
    on_the_way begins bytes c.in-Some.stood found.entries found.left t (g.S.Store.view c.redo.new.store) found.text stood
    (c.in-Err-redo.ensures.left c.args.beginning bytes found.entries found.left again found.text.given found.lines clean t (c.find_place.ensures.looks.kept t held) sound stood)

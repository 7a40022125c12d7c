use Rattle.std.proofs.Common.{rules, ◌≡◌, subst, length, take, drop, length-drop, arith}
use Rattle.std.specs.Prelude.{OnErr, OnOk}
use Rattle.std.proofs.lemmas.List.{length-take-le, take-append-drop}
use Rattle.permit_store.specs.contracts.plain.PlainStoreStore.TheImpl as plain
use Rattle.permit_replay.specs.Holding.{IsBeginning}
use Rattle.permit_replay.specs.Alike.{unordered}
use Rattle.permit_replay.specs.Bringing.{Stands, StandsWithin, in_both}
use Rattle.permit_replay.proofs.Brought.{stands_found, within_first}
use Rattle.permit_replay.proofs.opening.redoing.redo.Goals as goal

pub returns-in_err-there-clause-left : goal.returns-in_err-there-clause-left
returns-in_err-there-clause-left g c = λ beginning bytes entries left e given counted clean t held sound stands.
    let within = within_first (IsBeginning plain.view-value.it beginning) c.args.stood entries t (g.S.Store.view c.load.new.store) stands (c.load.ensures.kept t held) in
    search rules

pub returns-in_err-skip_lines-clause-left : goal.returns-in_err-skip_lines-clause-left
returns-in_err-skip_lines-clause-left g c = λ beginning bytes entries left e given counted clean t held sound stands.
    let within = within_first (IsBeginning plain.view-value.it beginning) c.args.stood entries t (g.S.Store.view c.load.new.store) stands (c.load.ensures.kept t held) in
    search rules

pub returns-clause-redone : goal.returns-clause-redone
returns-clause-redone g c = λ beginning bytes entries left e given counted clean t held sound stands.
    let begins = IsBeginning plain.view-value.it beginning in
    let stood = c.args.stood in
    let store = g.S.Store.view c.load.new.store in
    let before : store.doubt ≡ 0 = omega (arith, c.redo_lines.ensures.doubt, clean) in
    subst (λ es. OnOk c.redo_lines.result (Stands begins (unordered (g.S.Store.view c.redo_lines.new.store)).holds es)) (take-append-drop stood entries)
    (c.redo_lines.ensures.redone beginning (take stood entries) (drop stood entries) left (c.in_ok-skip_lines.ensures.skipped bytes entries left e given stands.few)
    (omega (arith, length-drop stood entries, stands.few, counted))
    (stands_found begins (take stood entries) t (in_both (plain.view-value.it c.in_ok-there.there) store) stands.tells stands.upgraded
    (c.in_ok-there.ensures.held before t held sound, c.load.ensures.kept t held)))

pub returns-clause-left : goal.returns-clause-left
returns-clause-left g c = λ beginning bytes entries left e given counted clean t held sound stands.
    let begins = IsBeginning plain.view-value.it beginning in
    let stood = c.args.stood in
    let store = g.S.Store.view c.load.new.store in
    let before : store.doubt ≡ 0 = omega (arith, c.redo_lines.ensures.doubt, clean) in
    subst (λ n. OnErr c.redo_lines.result (StandsWithin begins n (g.S.Store.view c.redo_lines.new.store) entries)) (length-take-le stood entries stands.few)
    (subst (λ es. OnErr c.redo_lines.result (StandsWithin begins (length (take stood entries)) (g.S.Store.view c.redo_lines.new.store) es)) (take-append-drop stood entries)
    (c.redo_lines.ensures.left beginning (take stood entries) (drop stood entries) left (c.in_ok-skip_lines.ensures.skipped bytes entries left e given stands.few)
    (omega (arith, length-drop stood entries, stands.few, counted))
    (stands_found begins (take stood entries) t (in_both (plain.view-value.it c.in_ok-there.there) store) stands.tells stands.upgraded
    (c.in_ok-there.ensures.held before t held sound, c.load.ensures.kept t held))))

use Rattle.std.proofs.Common.{◌≡◌, ◌∙◌, sym, ap, subst, refl, inl, inr, length, take, arith}
use Rattle.std.specs.Prelude.{IsTrue}
use Rattle.permit_journal.specs.Files.{Only}
use Rattle.permit_store.specs.contracts.plain.PlainStoreStore.TheImpl as plain
use Rattle.permit_replay.specs.Bringing.{HasLines, IsBrought, IsNowhere, IsOnTheWay, IsStopped}
use Rattle.permit_replay.specs.Holding.{IsBeginning}
use Rattle.permit_replay.proofs.Looking.{looks_still}
use Rattle.permit_recorded.specs.Resuming.{HasPart}
use Rattle.permit_recorded.proofs.Cutting.{on_err}
use Rattle.permit_recorded.proofs.Resumed.{crash_part, cut_so, looked, partly, redone_so, resumed, told_differs, told_looks, told_on, way_whole}
use Rattle.permit_recorded.proofs.resuming.cut.bring_to_text.Goals as goal

pub returns-in_err-text-clause-ahead : goal.returns-in_err-text-clause-ahead
returns-in_err-text-clause-ahead g c = λ clean.
    on_err c.from_residual.result (inl (looks_still _))

pub returns-in_err-text-clause-looks : goal.returns-in_err-text-clause-looks
returns-in_err-text-clause-looks g c =
    looked _ c.from_residual.result (looks_still _)

pub returns-in_err-sync-clause-looks : goal.returns-in_err-sync-clause-looks
returns-in_err-sync-clause-looks g c =
    looked _ c.from_residual-in_err-sync.result (looks_still _)

pub returns-in_err-sync-clause-ahead : goal.returns-in_err-sync-clause-ahead
returns-in_err-sync-clause-ahead g c = λ clean.
    on_err c.from_residual-in_err-sync.result (inl (looks_still _))

pub returns-in_err-brought-clause-differs : goal.returns-in_err-brought-clause-differs
returns-in_err-brought-clause-differs g c = λ doubt t held sound clean is'.
    let begins = IsBeginning plain.view-value.it c.args.beginning in
    let before = (g.H.HistoryFile.view c.args.file.now).text in
    let read = c.in_ok-text.ensures.text (subst IsTrue c.sync.ensures.clean clean) in
    let is : c.as_slice-whole.result.now ≡ before = c.as_slice-whole.ensures.value ∙ read in
    subst (λ bs. IsNowhere begins bs t × (g.S.Store.view c.bring.new.store.store).holds t) is
    (c.in_err-brought.ensures.differs c.as_slice-whole.result.now refl doubt t held sound
    (told_differs c.from_residual-in_err-brought.result c.in_err-brought.field-0.0 c.from_residual-in_err-brought.ensures.1 is'))

pub returns-in_err-brought-clause-left : goal.returns-in_err-brought-clause-left
returns-in_err-brought-clause-left g c = λ doubt t held sound clean.
    let begins = IsBeginning plain.view-value.it c.args.beginning in
    let before = (g.H.HistoryFile.view c.args.file.now).text in
    let read = c.in_ok-text.ensures.text (subst IsTrue c.sync.ensures.clean clean) in
    let is : c.as_slice-whole.result.now ≡ before = c.as_slice-whole.ensures.value ∙ read in
    subst (λ bs. IsOnTheWay begins bs t (g.S.Store.view c.bring.new.store.store)) is
    (c.in_err-brought.ensures.left c.as_slice-whole.result.now refl refl doubt t held sound)

pub returns-in_err-brought-clause-looks : goal.returns-in_err-brought-clause-looks
returns-in_err-brought-clause-looks g c =
    told_looks _ c.from_residual-in_err-brought.result c.in_err-brought.field-0.0 c.from_residual-in_err-brought.ensures.1 c.in_err-brought.ensures.looks

pub returns-in_err-brought-clause-stopped : goal.returns-in_err-brought-clause-stopped
returns-in_err-brought-clause-stopped g c = λ clean.
    let begins = IsBeginning plain.view-value.it c.args.beginning in
    let before = (g.H.HistoryFile.view c.args.file.now).text in
    let read = c.in_ok-text.ensures.text (subst IsTrue c.sync.ensures.clean clean) in
    let is : c.as_slice-whole.result.now ≡ before = c.as_slice-whole.ensures.value ∙ read in
    told_on plain.view-value.it begins before c.from_residual-in_err-brought.result c.in_err-brought.field-0.0 c.from_residual-in_err-brought.ensures.1
    (subst (λ bs. IsStopped plain.view-value.it begins bs c.in_err-brought.field-0.0) is c.in_err-brought.ensures.stopped)

pub returns-in_err-brought-clause-ahead : goal.returns-in_err-brought-clause-ahead
returns-in_err-brought-clause-ahead g c = λ clean.
    on_err c.from_residual-in_err-brought.result (inr (λ c' may. inl (c.in_ok-sync.ensures.durable c' may ∙ c.read_whole.ensures.kept)))

pub returns-in_err-cut_to-clause-left : goal.returns-in_err-cut_to-clause-left
returns-in_err-cut_to-clause-left g c = λ doubt t held sound clean.
    let begins = IsBeginning plain.view-value.it c.args.beginning in
    let before = (g.H.HistoryFile.view c.args.file.now).text in
    let read = c.in_ok-text.ensures.text (subst IsTrue c.sync.ensures.clean (subst IsTrue c.cut_to.ensures.clean clean)) in
    let is : c.as_slice-whole.result.now ≡ before = c.as_slice-whole.ensures.value ∙ read in
    subst (λ bs. IsOnTheWay begins bs t (g.S.Store.view c.bring.new.store.store)) is
    (way_whole begins c.as_slice-whole.result.now t (g.S.Store.view c.bring.new.store.store) c.in_ok-brought.brought (c.in_ok-brought.ensures.brought c.as_slice-whole.result.now refl refl doubt t held sound))

pub returns-in_err-cut_to-clause-part : goal.returns-in_err-cut_to-clause-part
returns-in_err-cut_to-clause-part g c = λ clean.
    let begins = IsBeginning plain.view-value.it c.args.beginning in
    let before = (g.H.HistoryFile.view c.args.file.now).text in
    let read = c.in_ok-text.ensures.text (subst IsTrue c.sync.ensures.clean (subst IsTrue c.cut_to.ensures.clean clean)) in
    let is : c.as_slice-whole.result.now ≡ before = c.as_slice-whole.ensures.value ∙ read in
    let kept : (g.H.HistoryFile.view c.sync.new.self).text ≡ before = c.sync.ensures.kept ∙ c.read_whole.ensures.kept in
    let sized = c.len.ensures ∙ c.in_ok-text.text.ok.0 ∙ ap length (read ∙ sym kept) in
    let brought = c.in_ok-brought.brought in
    let whole = subst (λ bs. HasLines begins bs brought.lines brought.length) is (c.in_ok-brought.ensures.whole c.as_slice-whole.result.now refl) in
    on_err c.from_residual-in_err-cut_to.result (partly begins g.H.HistoryFile.leaves before (g.H.HistoryFile.view c.cut_to.new.file).text brought.lines brought.length whole
    (subst (λ bs. HasPart g.H.HistoryFile.leaves bs brought.length (g.H.HistoryFile.view c.cut_to.new.file).text) kept (c.in_err-cut_to.ensures.part sized)))

pub returns-in_err-cut_to-clause-crash : goal.returns-in_err-cut_to-clause-crash
returns-in_err-cut_to-clause-crash g c = λ clean c' may.
    let begins = IsBeginning plain.view-value.it c.args.beginning in
    let before = (g.H.HistoryFile.view c.args.file.now).text in
    let read = c.in_ok-text.ensures.text (subst IsTrue c.sync.ensures.clean (subst IsTrue c.cut_to.ensures.clean clean)) in
    let is : c.as_slice-whole.result.now ≡ before = c.as_slice-whole.ensures.value ∙ read in
    let kept : (g.H.HistoryFile.view c.sync.new.self).text ≡ before = c.sync.ensures.kept ∙ c.read_whole.ensures.kept in
    let sized = c.len.ensures ∙ c.in_ok-text.text.ok.0 ∙ ap length (read ∙ sym kept) in
    let brought = c.in_ok-brought.brought in
    let whole = subst (λ bs. HasLines begins bs brought.lines brought.length) is (c.in_ok-brought.ensures.whole c.as_slice-whole.result.now refl) in
    let only : Only (g.H.HistoryFile.view c.sync.new.self).text (g.H.HistoryFile.view c.sync.new.self).may_leave = λ d may. c.in_ok-sync.ensures.durable d may ∙ sym c.sync.ensures.kept in
    inr (crash_part begins g.H.HistoryFile.leaves before (g.H.HistoryFile.view c.sync.new.self).text c' brought.lines brought.length kept whole (c.cut_to.ensures.crash sized only c' may))

pub returns-in_err-cut_to-clause-ahead : goal.returns-in_err-cut_to-clause-ahead
returns-in_err-cut_to-clause-ahead g c = λ clean.
    let begins = IsBeginning plain.view-value.it c.args.beginning in
    let before = (g.H.HistoryFile.view c.args.file.now).text in
    let read = c.in_ok-text.ensures.text (subst IsTrue c.sync.ensures.clean (subst IsTrue c.cut_to.ensures.clean clean)) in
    let is : c.as_slice-whole.result.now ≡ before = c.as_slice-whole.ensures.value ∙ read in
    let kept : (g.H.HistoryFile.view c.sync.new.self).text ≡ before = c.sync.ensures.kept ∙ c.read_whole.ensures.kept in
    let sized = c.len.ensures ∙ c.in_ok-text.text.ok.0 ∙ ap length (read ∙ sym kept) in
    let brought = c.in_ok-brought.brought in
    let whole = subst (λ bs. HasLines begins bs brought.lines brought.length) is (c.in_ok-brought.ensures.whole c.as_slice-whole.result.now refl) in
    let only : Only (g.H.HistoryFile.view c.sync.new.self).text (g.H.HistoryFile.view c.sync.new.self).may_leave = λ d may. c.in_ok-sync.ensures.durable d may ∙ sym c.sync.ensures.kept in
    on_err c.from_residual-in_err-cut_to.result (inr (λ c' may. crash_part begins g.H.HistoryFile.leaves before (g.H.HistoryFile.view c.sync.new.self).text c' brought.lines brought.length kept whole (c.cut_to.ensures.crash sized only c' may)))

pub returns-clause-resumed : goal.returns-clause-resumed
returns-clause-resumed g c = λ doubt t held sound clean.
    let begins = IsBeginning plain.view-value.it c.args.beginning in
    let before = (g.H.HistoryFile.view c.args.file.now).text in
    let read = c.in_ok-text.ensures.text (subst IsTrue c.sync.ensures.clean (subst IsTrue c.cut_to.ensures.clean clean)) in
    let is : c.as_slice-whole.result.now ≡ before = c.as_slice-whole.ensures.value ∙ read in
    let kept : (g.H.HistoryFile.view c.sync.new.self).text ≡ before = c.sync.ensures.kept ∙ c.read_whole.ensures.kept in
    let sized = c.len.ensures ∙ c.in_ok-text.text.ok.0 ∙ ap length (read ∙ sym kept) in
    let brought = c.in_ok-brought.brought in
    let whole = subst (λ bs. HasLines begins bs brought.lines brought.length) is (c.in_ok-brought.ensures.whole c.as_slice-whole.result.now refl) in
    resumed begins before (g.H.HistoryFile.view c.cut_to.new.file).text (g.S.Store.view c.bring.new.store.store) t brought
    (subst (λ bs. IsBrought begins bs t (g.S.Store.view c.bring.new.store.store) brought) is (c.in_ok-brought.ensures.brought c.as_slice-whole.result.now refl refl doubt t held sound))
    (c.in_ok-cut_to.ensures.cut sized ∙ ap (take brought.length) kept)

pub returns-clause-cut : goal.returns-clause-cut
returns-clause-cut g c = λ clean.
    let begins = IsBeginning plain.view-value.it c.args.beginning in
    let before = (g.H.HistoryFile.view c.args.file.now).text in
    let read = c.in_ok-text.ensures.text (subst IsTrue c.sync.ensures.clean (subst IsTrue c.cut_to.ensures.clean clean)) in
    let is : c.as_slice-whole.result.now ≡ before = c.as_slice-whole.ensures.value ∙ read in
    let kept : (g.H.HistoryFile.view c.sync.new.self).text ≡ before = c.sync.ensures.kept ∙ c.read_whole.ensures.kept in
    let sized = c.len.ensures ∙ c.in_ok-text.text.ok.0 ∙ ap length (read ∙ sym kept) in
    let brought = c.in_ok-brought.brought in
    let whole = subst (λ bs. HasLines begins bs brought.lines brought.length) is (c.in_ok-brought.ensures.whole c.as_slice-whole.result.now refl) in
    cut_so begins before (g.H.HistoryFile.view c.cut_to.new.file).text brought.lines brought.length whole (c.in_ok-cut_to.ensures.cut sized ∙ ap (take brought.length) kept)

pub returns-clause-redone : goal.returns-clause-redone
returns-clause-redone g c = λ doubt t held sound clean.
    let begins = IsBeginning plain.view-value.it c.args.beginning in
    let before = (g.H.HistoryFile.view c.args.file.now).text in
    let read = c.in_ok-text.ensures.text (subst IsTrue c.sync.ensures.clean (subst IsTrue c.cut_to.ensures.clean clean)) in
    let is : c.as_slice-whole.result.now ≡ before = c.as_slice-whole.ensures.value ∙ read in
    let kept : (g.H.HistoryFile.view c.sync.new.self).text ≡ before = c.sync.ensures.kept ∙ c.read_whole.ensures.kept in
    let sized = c.len.ensures ∙ c.in_ok-text.text.ok.0 ∙ ap length (read ∙ sym kept) in
    let brought = c.in_ok-brought.brought in
    let whole = subst (λ bs. HasLines begins bs brought.lines brought.length) is (c.in_ok-brought.ensures.whole c.as_slice-whole.result.now refl) in
    redone_so begins before (g.S.Store.view c.bring.new.store.store) t brought c.saturating_sub.result
    (subst (λ bs. IsBrought begins bs t (g.S.Store.view c.bring.new.store.store) brought) is (c.in_ok-brought.ensures.brought c.as_slice-whole.result.now refl refl doubt t held sound))
    c.saturating_sub.ensures

pub returns-clause-idle : goal.returns-clause-idle
returns-clause-idle g c = λ none. c.in_ok-brought.ensures.idle (omega (arith, c.saturating_sub.ensures, none))

pub returns-clause-crash_after : goal.returns-clause-crash_after
returns-clause-crash_after g c = λ clean c' may.
    let begins = IsBeginning plain.view-value.it c.args.beginning in
    let before = (g.H.HistoryFile.view c.args.file.now).text in
    let read = c.in_ok-text.ensures.text (subst IsTrue c.sync.ensures.clean (subst IsTrue c.cut_to.ensures.clean clean)) in
    let is : c.as_slice-whole.result.now ≡ before = c.as_slice-whole.ensures.value ∙ read in
    let kept : (g.H.HistoryFile.view c.sync.new.self).text ≡ before = c.sync.ensures.kept ∙ c.read_whole.ensures.kept in
    let sized = c.len.ensures ∙ c.in_ok-text.text.ok.0 ∙ ap length (read ∙ sym kept) in
    let brought = c.in_ok-brought.brought in
    let whole = subst (λ bs. HasLines begins bs brought.lines brought.length) is (c.in_ok-brought.ensures.whole c.as_slice-whole.result.now refl) in
    let only : Only (g.H.HistoryFile.view c.sync.new.self).text (g.H.HistoryFile.view c.sync.new.self).may_leave = λ d may. c.in_ok-sync.ensures.durable d may ∙ sym c.sync.ensures.kept in
    crash_part begins g.H.HistoryFile.leaves before (g.H.HistoryFile.view c.sync.new.self).text c' brought.lines brought.length kept whole (c.cut_to.ensures.crash sized only c' may)

pub returns-clause-left : goal.returns-clause-left
returns-clause-left g c = λ doubt t held sound clean.
    let begins = IsBeginning plain.view-value.it c.args.beginning in
    let before = (g.H.HistoryFile.view c.args.file.now).text in
    let read = c.in_ok-text.ensures.text (subst IsTrue c.sync.ensures.clean (subst IsTrue c.cut_to.ensures.clean clean)) in
    let is : c.as_slice-whole.result.now ≡ before = c.as_slice-whole.ensures.value ∙ read in
    subst (λ bs. IsOnTheWay begins bs t (g.S.Store.view c.bring.new.store.store)) is
    (way_whole begins c.as_slice-whole.result.now t (g.S.Store.view c.bring.new.store.store) c.in_ok-brought.brought (c.in_ok-brought.ensures.brought c.as_slice-whole.result.now refl refl doubt t held sound))

pub returns-clause-crash : goal.returns-clause-crash
returns-clause-crash g c = λ clean c' may.
    let begins = IsBeginning plain.view-value.it c.args.beginning in
    let before = (g.H.HistoryFile.view c.args.file.now).text in
    let read = c.in_ok-text.ensures.text (subst IsTrue c.sync.ensures.clean (subst IsTrue c.cut_to.ensures.clean clean)) in
    let is : c.as_slice-whole.result.now ≡ before = c.as_slice-whole.ensures.value ∙ read in
    let kept : (g.H.HistoryFile.view c.sync.new.self).text ≡ before = c.sync.ensures.kept ∙ c.read_whole.ensures.kept in
    let sized = c.len.ensures ∙ c.in_ok-text.text.ok.0 ∙ ap length (read ∙ sym kept) in
    let brought = c.in_ok-brought.brought in
    let whole = subst (λ bs. HasLines begins bs brought.lines brought.length) is (c.in_ok-brought.ensures.whole c.as_slice-whole.result.now refl) in
    let only : Only (g.H.HistoryFile.view c.sync.new.self).text (g.H.HistoryFile.view c.sync.new.self).may_leave = λ d may. c.in_ok-sync.ensures.durable d may ∙ sym c.sync.ensures.kept in
    inr (crash_part begins g.H.HistoryFile.leaves before (g.H.HistoryFile.view c.sync.new.self).text c' brought.lines brought.length kept whole (c.cut_to.ensures.crash sized only c' may))

use Rattle.std.proofs.Common.{rules, ◌≡◌, IfSome, ap, subst, sym, ◌∙◌}
use Rattle.std.proofs.lemmas.Result.{err_from_is_err_and}
use Rattle.sqlite_value.specs.Order.{column}
use Rattle.permit_model.specs.Tables.{edition_numbered}
use Rattle.permit_sql_rows.specs.Rows.{int}
use Rattle.permit_model.specs.SoundState.{IsSoundState}
use Rattle.permit_sql_rows.specs.Kept.{IsNamed}
use Rattle.permit_sql_rows.specs.Typed.{ShowsState, IsState}
use Rattle.permit_sql_rows.proofs.Shown.{file_columns}
use Rattle.permit_sql_rows.proofs.Stated.{row_is, not_some, on_memory}
use Rattle.permit_sql_rows.proofs.decode.file_of.Goals as goal

pub returns-clause-back : goal.returns-clause-back
returns-clause-back c =
    let row = c.args.row.now in
    let id = subst (λ o. IfSome o (λ x. column row 0 ≡ int x)) c.in_ok-id.ensures.ok c.file_number.ensures.back in
    let h = subst (λ o. IfSome o (ShowsState row)) c.in_ok-readable.ensures.ok c.state_under.ensures.back in
    let v = subst (λ o. IfSome o (λ x. column row 7 ≡ int x)) c.in_ok-readable-2.ensures.ok c.cents.ensures.back in
    file_columns row id h v c.in_ok-shared_text.ensures.back

pub returns-clause-read : goal.returns-clause-read
returns-clause-read c = λ is more named e.
    let at = λ (n : _). ap (λ r. column r n) e in
    let here : c.in_ok-id.id ≡ is.id = subst (λ o. IfSome o (λ x. x ≡ is.id)) c.in_ok-id.ensures.ok (c.file_number.ensures.read is.id (at 0)) in
    let under : is.state.edition ≡ c.edition_numbered.result =
    named.edition ∙ ap (edition_numbered c.args.upgrade) (sym here) ∙ sym c.edition_numbered.ensures in
    row_is is _ _ _ _
    here
    (subst (λ o. IfSome o (λ x. x ≡ is.state)) c.in_ok-readable.ensures.ok (c.state_under.ensures.read c.args.upgrade is more named under e))
    (subst (λ o. IfSome o (λ x. x ≡ is.valuation)) c.in_ok-readable-2.ensures.ok (c.cents.ensures.read is.valuation (at 7)))
    (c.in_ok-shared_text.ensures.read is.description (at 8))

pub returns-in_err-readable-clause-some : goal.returns-in_err-readable-clause-some
returns-in_err-readable-clause-some c = λ is more good named e.
    let here : c.in_ok-id.id ≡ is.id = subst (λ o. IfSome o (λ x. x ≡ is.id)) c.in_ok-id.ensures.ok
    (c.file_number.ensures.read is.id (ap (λ r. column r 0) e)) in
    let under : is.state.edition ≡ c.edition_numbered.result =
    named.edition ∙ ap (edition_numbered c.args.upgrade) (sym here) ∙ sym c.edition_numbered.ensures in
    not_some _ c.in_err-readable.ensures.err.0 (c.state_under.ensures.some c.args.upgrade is more good named under e)

pub returns-in_err-shared_text-clause-memory : goal.returns-in_err-shared_text-clause-memory
returns-in_err-shared_text-clause-memory c =
    let p = err_from_is_err_and c.from_residual-in_err-shared_text.result c.from_residual-in_err-shared_text.ensures.1 in
    on_memory p.0 p.1 (λ none.
    let row = c.args.row.now in
    let text = c.in_err-shared_text.ensures.memory (sym p.2 ∙ none) in
    let id = subst (λ o. IfSome o (λ x. column row 0 ≡ int x)) c.in_ok-id.ensures.ok c.file_number.ensures.back in
    let h = subst (λ o. IfSome o (ShowsState row)) c.in_ok-readable.ensures.ok c.state_under.ensures.back in
    let v = subst (λ o. IfSome o (λ x. column row 7 ≡ int x)) c.in_ok-readable-2.ensures.ok c.cents.ensures.back in
    let named = subst (λ o. IfSome o (IsNamed c.args.upgrade c.in_ok-id.id)) c.in_ok-readable.ensures.ok
    (c.state_under.ensures.named c.args.upgrade c.in_ok-id.id c.edition_numbered.ensures) in
    let typed = subst (λ o. IfSome o IsState) c.in_ok-readable.ensures.ok c.state_under.ensures.typed in
    let sound = subst (λ o. IfSome o IsSoundState) c.in_ok-readable.ensures.ok c.state_under.ensures.sound in (
      record { id = c.in_ok-id.id; state = _; valuation = _; description = text.0 },
      record { id = search rules; state = typed; sound = sound; valuation = search rules; description = text.3; utf8 = text.2 },
      named,
      file_columns row id h v text.1,
    ))

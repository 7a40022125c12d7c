use Rattle.std.proofs.Common.{rules, ◌≡◌, IfSome, ap, subst, sym, ◌∙◌, true≢false}
use Rattle.std.proofs.lemmas.Result.{err_from_is_err_and}
use Rattle.sqlite_value.specs.Order.{column}
use Rattle.permit_sql_rows.specs.Rows.{int}
use Rattle.permit_sql_rows.proofs.Ascii.{lot_utf8}
use Rattle.permit_sql_rows.proofs.Stated.{on_memory}
use Rattle.permit_sql_rows.proofs.Shown.{parcel_shown}
use Rattle.permit_sql_rows.proofs.decode.parcel_of.Goals as goal

pub returns-then-not-has_lot-clause-some : goal.returns-then-not-has_lot-clause-some
returns-then-not-has_lot-clause-some c = λ is good e.
    absurd (true≢false (sym (c.has_lot.ensures.1 (is.lot, ap (λ r. column r 1) e, lot_utf8 is.lot good.lot, good.lot)) ∙ c.if-not-has_lot.true))

pub returns-in_err-text-clause-memory : goal.returns-in_err-text-clause-memory
returns-in_err-text-clause-memory c =
    let p = err_from_is_err_and c.from_residual-in_err-text.result c.from_residual-in_err-text.ensures.1 in
    on_memory p.0 p.1 (λ none.
    let row = c.args.row.now in
    let lot = c.has_lot.ensures.0 c.if-not-has_lot.false in
    let address = c.in_err-text.ensures.memory (sym p.2 ∙ none) in
    parcel_shown row
    (subst (λ o. IfSome o (λ x. column row 0 ≡ int x)) c.in_ok-readable.ensures.ok c.parcel_number.ensures.back)
    lot.1 address.1
    (subst (λ o. IfSome o (λ x. column row 3 ≡ int x)) c.in_ok-readable-2.ensures.ok c.party_number.ensures.back)
    (record { id = search rules; lot = lot.3; address = address.3; utf8 = address.2; owner = search rules }))

pub returns-in_err-lot-clause-memory : goal.returns-in_err-lot-clause-memory
returns-in_err-lot-clause-memory c =
    let p = err_from_is_err_and c.from_residual-in_err-lot.result c.from_residual-in_err-lot.ensures.1 in
    on_memory p.0 p.1 (λ none.
    let row = c.args.row.now in
    let lot = c.in_err-lot.ensures.memory (sym p.2 ∙ none) in
    parcel_shown row
    (subst (λ o. IfSome o (λ x. column row 0 ≡ int x)) c.in_ok-readable.ensures.ok c.parcel_number.ensures.back)
    lot.1 c.in_ok-text.ensures.back
    (subst (λ o. IfSome o (λ x. column row 3 ≡ int x)) c.in_ok-readable-2.ensures.ok c.party_number.ensures.back)
    (record { id = search rules; lot = lot.3; address = c.in_ok-text.ensures.within; utf8 = c.in_ok-text.ensures.utf8; owner = search rules }))

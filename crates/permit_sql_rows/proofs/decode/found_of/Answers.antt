use Rattle.std.proofs.Common.{[], ◌∷◌, ap, sym, subst, IfSome, ◌≡◌, ◌<◌, length, arith, rules, ◌∙◌}
use Rattle.std.proofs.lemmas.Result.{err_from_is_err_and}
use Rattle.sqlite_value.specs.Order.{column}
use Rattle.permit_sql_rows.specs.Rows.{or_null, flag}
use Rattle.permit_sql_rows.proofs.Shown.{found_columns}
use Rattle.permit_sql_rows.proofs.Stated.{found_is, not_some, on_memory}
use Rattle.permit_sql_rows.proofs.decode.found_of.Goals as goal

pub returns-clause-read : goal.returns-clause-read
returns-clause-read c = λ is named e.
    let at = λ (n : _). ap (λ r. column r n) e in
    found_is is _ _ _
    (c.in_ok-file_of.ensures.read is.row (or_null is.owner ∷ flag is.conflict ∷ []) named e)
    (subst (λ o. IfSome o (λ x. x ≡ is.owner)) c.in_ok-readable.ensures.ok (c.party_or_null.ensures.read is.owner (at 20)))
    (subst (λ o. IfSome o (λ x. x ≡ is.conflict)) c.in_ok-readable-2.ensures.ok (c.truth.ensures.read is.conflict (at 21)))

pub returns-in_err-file_of-clause-some : goal.returns-in_err-file_of-clause-some
returns-in_err-file_of-clause-some c = λ is good owner named e.
    let read = c.in_err-file_of.ensures.some is.row (or_null is.owner ∷ flag is.conflict ∷ []) good named e in search rules

pub returns-in_err-readable-clause-some : goal.returns-in_err-readable-clause-some
returns-in_err-readable-clause-some c = λ is good owner named e.
    let there : 20 < length c.args.row.now = subst (λ r. 20 < length r) (sym e) (omega arith) in
    not_some _ c.in_err-readable.ensures.err.0 (c.party_or_null.ensures.some is.owner owner there (ap (λ r. column r 20) e))

pub returns-in_err-readable-2-clause-some : goal.returns-in_err-readable-2-clause-some
returns-in_err-readable-2-clause-some c = λ is good owner named e.
    not_some _ c.in_err-readable-2.ensures.err.0 (c.truth.ensures.some is.conflict (ap (λ r. column r 21) e))

pub returns-clause-back : goal.returns-clause-back
returns-clause-back c =
    let row = c.args.row.now in
    found_columns row c.in_ok-file_of.field-0 _ _ c.in_ok-file_of.ensures.back
    (subst (λ o. IfSome o (λ x. column row 20 ≡ or_null x)) c.in_ok-readable.ensures.ok c.party_or_null.ensures.back)
    (subst (λ o. IfSome o (λ x. column row 21 ≡ flag x)) c.in_ok-readable-2.ensures.ok c.truth.ensures.back)

pub returns-in_err-file_of-clause-memory : goal.returns-in_err-file_of-clause-memory
returns-in_err-file_of-clause-memory c =
    let p = err_from_is_err_and c.from_residual-in_err-file_of.result c.from_residual-in_err-file_of.ensures.1 in
    on_memory p.0 p.1 (λ none.
    let row = c.args.row.now in
    let file = c.in_err-file_of.ensures.memory (sym p.2 ∙ none) in
    let whole = found_columns row file.0 _ _ file.3
    (subst (λ o. IfSome o (λ x. column row 20 ≡ or_null x)) c.in_ok-readable.ensures.ok c.party_or_null.ensures.back)
    (subst (λ o. IfSome o (λ x. column row 21 ≡ flag x)) c.in_ok-readable-2.ensures.ok c.truth.ensures.back) in
    (record { row = file.0; owner = _; conflict = _ }, file.1, search rules, file.2, whole))

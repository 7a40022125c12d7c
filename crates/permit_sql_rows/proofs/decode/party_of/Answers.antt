use Rattle.std.proofs.Common.{rules, ◌≡◌, IfSome, subst, sym, ◌∙◌}
use Rattle.std.proofs.lemmas.Result.{err_from_is_err_and}
use Rattle.sqlite.specs.declared.types.Value.TheVariants.{Text}
use Rattle.sqlite_value.specs.Order.{column}
use Rattle.permit_model.specs.Codes.{role_code}
use Rattle.permit_sql_rows.specs.Rows.{int}
use Rattle.permit_sql_rows.proofs.Stated.{on_memory}
use Rattle.permit_sql_rows.proofs.Shown.{party_shown}
use Rattle.permit_sql_rows.proofs.decode.party_of.Goals as goal

pub returns-in_err-text-clause-memory : goal.returns-in_err-text-clause-memory
returns-in_err-text-clause-memory c =
    let p = err_from_is_err_and c.from_residual-in_err-text.result c.from_residual-in_err-text.ensures.1 in
    on_memory p.0 p.1 (λ none.
    let row = c.args.row.now in
    let name = c.in_err-text.ensures.memory (sym p.2 ∙ none) in
    party_shown row
    (subst (λ o. IfSome o (λ x. column row 0 ≡ int x)) c.in_ok-readable.ensures.ok c.party_number.ensures.back)
    name.1
    (subst (λ o. IfSome o (λ x. column row 2 ≡ int (role_code x))) c.in_ok-readable-2.ensures.ok c.role.ensures.back)
    (subst (λ o. IfSome o (λ x. column row 3 ≡ Text x)) c.in_ok-readable-3.ensures.ok c.digest.ensures.back)
    (record { id = search rules; name = name.3; utf8 = name.2; digest = search rules }))

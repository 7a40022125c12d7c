use Rattle.std.proofs.Common.{◌≡◌, ◌∙◌, string_bytes, subst, sym}
use Rattle.std.specs.Prelude.{IfOk}
use Rattle.toml.specs.View.{table_view, view}
use Rattle.permit_reasons.specs.Reasons.{document_reason, top_reason}
use Rattle.permit_reasons.proofs.Keys.{tables_listed, tables_missing, tables_unknown}
use Rattle.permit_reasons.proofs.reason.document_reason.Goals as goal

pub returns-in-Some : goal.returns-in-Some
returns-in-Some c =
    let members = table_view c.args.document.now in
    subst (λ o. IfOk c.top_reason.result (λ s. string_bytes s ≡ document_reason c.args.error.now members o))
    (sym (tables_unknown members c.in-Some.key.now (sym c.in-Some.ensures)))
    (subst (λ o. IfOk c.top_reason.result (λ s. string_bytes s ≡ top_reason o)) c.in-Some.ensures c.top_reason.ensures)

pub returns-in-None-member : goal.returns-in-None-member
returns-in-None-member c =
    let members = table_view c.args.document.now in
    subst (λ o. IfOk c.tables_reason.result (λ s. string_bytes s ≡ document_reason c.args.error.now members o))
    (sym (tables_missing members (sym c.in-None.ensures) (sym c.in-None-member.ensures))) c.tables_reason.ensures

pub returns-in-Some-items : goal.returns-in-Some-items
returns-in-Some-items c =
    let members = table_view c.args.document.now in
    subst (λ o. IfOk c.tables_reason-in-Some-items.result (λ s. string_bytes s ≡ document_reason c.args.error.now members o))
    (c.in-Some-items.ensures ∙ sym (tables_listed members (view c.in-Some-member.value.now) (sym c.in-None.ensures) (sym c.in-Some-member.ensures)))
    c.tables_reason-in-Some-items.ensures

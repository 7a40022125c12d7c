use Rattle.std.proofs.Common.{◌≡◌, ◌∙◌, Option, Some, None, IfSome, ap, sym}
use Rattle.sqlite_value.specs.Order.{column}
use Rattle.permit_model.specs.Tables.{State, edition_numbered}
use Rattle.permit_sql_rows.proofs.decode.state_in.Goals as goal

if_named : (o : Option State) {P Q : State → Type 0} → ((s : State) → P s → Q s) → IfSome o P → IfSome o Q
if_named None f h = tt
if_named (Some s) f h = f s h

pub returns-clause-read : goal.returns-clause-read
returns-clause-read c = λ is more named e.
    let here : c.in_ok-id.id ≡ is.id = c.in_ok-id.ensures.read is.id (ap (λ r. column r 0) e) in
    c.state_under.ensures.read c.args.upgrade is more named
    (named.edition ∙ ap (edition_numbered c.args.upgrade) (sym here) ∙ sym c.edition_numbered.ensures) e

pub returns-clause-named : goal.returns-clause-named
returns-clause-named c = if_named c.state_under.result (λ s is. (c.in_ok-id.id, (c.in_ok-id.ensures.back, is)))
    (c.state_under.ensures.named c.args.upgrade c.in_ok-id.id c.edition_numbered.ensures)

pub returns-clause-some : goal.returns-clause-some
returns-clause-some c = λ is more good named e.
    let here : c.in_ok-id.id ≡ is.id = c.in_ok-id.ensures.read is.id (ap (λ r. column r 0) e) in
    c.state_under.ensures.some c.args.upgrade is more good named
    (named.edition ∙ ap (edition_numbered c.args.upgrade) (sym here) ∙ sym c.edition_numbered.ensures) e

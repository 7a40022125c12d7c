use Rattle.std.proofs.Common.{◌≡◌, ◌+◌, ◌-◌, sym, ◌∙◌, ap, arith, slice_get}
use Rattle.permit_store.proofs.Places.{found_at, numbered_from}
use Rattle.permit_store.proofs.plain.parties.Parties.numbered.Goals as goal

pub returns : goal.returns
returns c =
    let rows = c.args.self.now.rows.items in
    let place : c.args.id ≡ 1 + (c.get.result - 1) = omega (arith, c.get.ensures.same, c.get.ensures.within) in
    c.row_at.ensures ∙ ap (λ xs. slice_get xs (c.get.result - 1)) c.deref.ensures.value
    ∙ sym (found_at (λ p. p.id) 1 c.args.id (c.get.result - 1) rows place (numbered_from (λ p. p.id) 1 rows c.args.self.now.numbered))

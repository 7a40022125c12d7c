use Rattle.std.proofs.Common.{◌≡◌, ◌+◌, ◌-◌, sym, ◌∙◌, arith}
use Rattle.permit_store.proofs.Places.{found_at, numbered_from}
use Rattle.permit_store.proofs.plain.find.file_numbered.Goals as goal

pub returns : goal.returns
returns c =
    let files = c.args.files.now in
    let place : c.args.id ≡ 1 + (c.get.result - 1) = omega (arith, c.get.ensures.same, c.get.ensures.within) in
    c.row_at.ensures ∙ sym (found_at (λ k. k.row.id) 1 c.args.id (c.get.result - 1) files place (numbered_from (λ k. k.row.id) 1 files c.requires.places))

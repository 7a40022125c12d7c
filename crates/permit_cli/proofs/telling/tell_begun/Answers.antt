use Rattle.std.proofs.Common.{ℕ, arith, inl, string_bytes, subst, sym}
use Rattle.permit_days.specs.Dates.{IsTextOf}
use Rattle.permit_cli.proofs.telling.tell_begun.Goals as goal

pub returns-in-Ok : goal.returns-in-Ok
returns-in-Ok g c =
    let text = c.in-Ok.ensures.text (omega (arith, c.get.ensures.within, c.get.ensures.same)) in
    let dated = subst (λ (d : ℕ). IsTextOf d (string_bytes c.in-Ok.date)) c.get.ensures.same text in
    inl (c.as_str.result.now, subst (IsTextOf c.args.day) (sym c.as_str.ensures.value) dated, c.tell_dated.ensures)

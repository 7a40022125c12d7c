use Rattle.std.proofs.Common.{◌≡◌, bytes_eq, true, get_or, sym, ◌∙◌, ap}
use Rattle.std.specs.Prelude.{Some, None, nat_eq, option_copied, option_map}
use Rattle.std.specs.HashMap.{get}
use Rattle.permit_model.specs.Caller.{Party}
use Rattle.permit_store.specs.Places.{mark_of}
use Rattle.permit_store.proofs.LedBefore.{unled, led_within, led_there}
use Rattle.permit_store.proofs.plain.parties.Parties.with_token.Goals as goal

pub returns-in_err-place : goal.returns-in_err-place
returns-in_err-place c =
    let s = c.args.self.now in
    let nowhere : get nat_eq s.tokens c.mark_of.result ≡ None = sym c.get.ensures.value ∙ ap option_copied c.in_err-place.was in
    ap (option_map (λ p. p.now)) c.from_residual.ensures
    ∙ sym (unled (λ p. p.digest) s.rows.items s.tokens s.led c.args.digest.now c.mark_of.result (c.mark_of.ensures ∙ ap mark_of c.as_str.ensures.same) nowhere)

pub index-first-requires : goal.index-first-requires
index-first-requires c =
    let s = c.args.self.now in
    let there : get nat_eq s.tokens c.mark_of.result ≡ Some c.in_ok-place.field-0.now = sym c.get.ensures.value ∙ ap option_copied c.in_ok-place.was in
    rw s.rows.ok.0 (led_within (λ p. p.digest) s.rows.items s.tokens s.led c.args.digest.now c.mark_of.result (c.mark_of.ensures
    ∙ ap mark_of c.as_str.ensures.same) _ there)

pub returns-then-eq : goal.returns-then-eq
returns-then-eq c =
    let s = c.args.self.now in
    let there : get nat_eq s.tokens c.mark_of.result ≡ Some c.in_ok-place.field-0.now = sym c.get.ensures.value ∙ ap option_copied c.in_ok-place.was in
    let d = c.index-first.result.now in
    let same : bytes_eq (get_or s.rows.items c.in_ok-place.field-0.now d).digest c.args.digest.now ≡ true =
    ap (λ (p : Party). bytes_eq p.digest c.args.digest.now) (sym c.index-first.ensures ∙ sym c.first.view_is) ∙ sym c.eq.ensures ∙ c.if-eq.true in
    ap (λ p. Some p) c.index-first.ensures
    ∙ sym (led_there (λ p. p.digest) s.rows.items s.tokens s.led c.args.digest.now c.mark_of.result (c.mark_of.ensures
    ∙ ap mark_of c.as_str.ensures.same) c.in_ok-place.field-0.now d there same)

use Rattle.std.proofs.Common.{◌≡◌, ◌+◌, ◌++◌, ◌==◌, ◌∷◌, [], length, length-append, ◌∙◌, ap, rules, arith}
use Rattle.std.specs.Prelude.{nat_eq}
use Rattle.std.specs.HashMap.{get}
use Rattle.permit_model.specs.Caller.{Party}
use Rattle.permit_store.specs.Places.{mark_of, led_after}
use Rattle.permit_store.proofs.LedBefore.{before_more}
use Rattle.permit_store.proofs.Places.{numbers_more}
use Rattle.permit_store.proofs.plain.parties.Parties.add.Goals as goal

pub invariant_of-self : goal.invariant_of-self
invariant_of-self c =
    let s = c.args.self.now in
    let rows = s.rows.items in
    let more : c.push.new.self.items ≡ rows ++ c.args.party ∷ [] = search rules in
    let count : length c.push.new.self.items ≡ length rows + 1 = ap length more ∙ length-append rows (c.args.party ∷ []) in
    let marked : c.mark_of.result ≡ mark_of c.args.party.digest =
    c.mark_of.ensures ∙ ap mark_of c.as_str.ensures.same ∙ ap (λ (p : Party). mark_of p.digest) c.party.view_is in
    let place : c.len-place.result ≡ length rows = c.len-place.ensures ∙ s.rows.ok.0 in
    record {
      few = omega (arith, count, c.requires.few);
      numbered = rw more (numbers_more (λ p. p.id) 1 rows c.args.party (omega (arith, c.requires.number)) s.numbered);
      led = rw more (before_more (λ p. p.digest) rows s.tokens s.led c.lead.new.marks c.args.party c.mark_of.result marked
          (λ m. c.lead.ensures m ∙ ap (led_after (get nat_eq s.tokens m) (c.mark_of.result == m)) place));
    }

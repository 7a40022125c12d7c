use Rattle.std.proofs.Common.{◌≡◌, ◌-◌, ◌<◌, cond, get_or, slice_set, length, sym, ◌∙◌, ap, arith}
use Rattle.std.specs.List.{range_with_len}
use Rattle.std.proofs.lemmas.List.{length-set}
use Rattle.permit_model.specs.Caller.{Party}
use Rattle.permit_model.specs.Renewal.{with_digest}
use Rattle.permit_store.specs.Places.{mark_of}
use Rattle.permit_store.proofs.LedBefore.{before_set}
use Rattle.permit_store.proofs.Places.{changed_at, changed_nowhere, numbered_from, numbers_set}
use Rattle.permit_store.proofs.plain.parties.Parties.give.Goals as goal

pub invariant_of-self : goal.invariant_of-self
invariant_of-self c =
    let s = c.args.self.now in
    let rows = s.rows.items in
    let i = c.get.result - 1 in
    let d = c.index_mut.result.now in
    let new = c.set_digest.new.party in
    let same : new ≡ record (get_or rows i d) { digest = c.args.digest.now } = c.set_digest.ensures
    ∙ ap (λ (p : Party). record p { digest = c.args.digest.now }) c.index_mut.ensures.value in
    let count : length (slice_set rows i new) ≡ length rows = length-set rows i new in
    let within : i < length rows = omega (arith, c.if-place-len.true, c.len.ensures, s.rows.ok.0) in
    let marked : c.mark_of.result ≡ mark_of new.digest =
    c.mark_of.ensures ∙ ap mark_of c.as_str.ensures.same ∙ ap (λ (p : Party). mark_of p.digest) (sym same) in
    record {
      few = omega (arith, count, s.few);
      numbered = numbers_set (λ p. p.id) rows i d new (ap (λ (p : Party). p.id) same) within ∙ s.numbered ∙ ap (range_with_len 1) (sym count);
      led = before_set (λ p. p.digest) rows s.tokens s.led c.lead_before.new.marks new i c.mark_of.result within marked c.lead_before.ensures;
    }

pub returns-then-place-len : goal.returns-then-place-len
returns-then-place-len c =
    let s = c.args.self.now in
    let rows = s.rows.items in
    let i = c.get.result - 1 in
    let d = c.index_mut.result.now in
    let new = c.set_digest.new.party in
    let same : new ≡ record (get_or rows i d) { digest = c.args.digest.now } = c.set_digest.ensures
    ∙ ap (λ (p : Party). record p { digest = c.args.digest.now }) c.index_mut.ensures.value in
    changed_at (λ p. p.id) (with_digest c.args.id c.args.digest.now) c.args.id 1 i rows d new
    (λ p other. ap (λ b. cond b (record p { digest = c.args.digest.now }) p) other)
    (λ here. same ∙ ap (λ b. cond b (record (get_or rows i d) { digest = c.args.digest.now }) (get_or rows i d)) (sym here))
    (omega (arith, c.get.ensures.same, c.get.ensures.within))
    (omega (arith, c.if-place-len.true, c.len.ensures, s.rows.ok.0))
    (numbered_from (λ p. p.id) 1 rows s.numbered)

pub returns-else-place-len : goal.returns-else-place-len
returns-else-place-len c =
    let s = c.args.self.now in
    let rows = s.rows.items in
    changed_nowhere (λ p. p.id) (with_digest c.args.id c.args.digest.now) c.args.id rows
    (λ p other. ap (λ b. cond b (record p { digest = c.args.digest.now }) p) other)
    (omega (arith, c.if-place-len.false, c.len.ensures, s.rows.ok.0, c.get.ensures.same, c.get.ensures.within))
    (numbered_from (λ p. p.id) 1 rows s.numbered)

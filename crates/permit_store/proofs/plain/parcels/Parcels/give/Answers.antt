use Rattle.std.proofs.Common.{◌≡◌, ◌-◌, ◌<◌, cond, get_or, slice_set, length, sym, ◌∙◌, ap, arith}
use Rattle.std.specs.List.{range_with_len}
use Rattle.std.proofs.lemmas.List.{length-set}
use Rattle.permit_model.specs.Parcels.{Parcel}
use Rattle.permit_store.specs.Changes.{given_to}
use Rattle.permit_store.proofs.Marks.{led_set}
use Rattle.permit_store.proofs.Places.{changed_at, changed_nowhere, numbered_from, numbers_set}
use Rattle.permit_store.proofs.plain.parcels.Parcels.give.Goals as goal

pub invariant_of-self : goal.invariant_of-self
invariant_of-self c =
    let s = c.args.self.now in
    let rows = s.rows.items in
    let i = c.get.result - 1 in
    let d = c.index_mut.result.now in
    let new = c.set_owner.new.parcel in
    let same : new ≡ record (get_or rows i d) { owner = c.args.owner } = c.set_owner.ensures
    ∙ ap (λ (p : Parcel). record p { owner = c.args.owner }) c.index_mut.ensures.value in
    let count : length (slice_set rows i new) ≡ length rows = length-set rows i new in
    let within : i < length rows = omega (arith, c.if-place-len.true, c.len.ensures, s.rows.ok.0) in
    record {
      few = omega (arith, count, s.few);
      numbered = numbers_set (λ p. p.id) rows i d new (ap (λ (p : Parcel). p.id) same) within ∙ s.numbered ∙ ap (range_with_len 1) (sym count);
      led = led_set (λ p. p.lot) rows s.lots s.led i d new (ap (λ (p : Parcel). p.lot) same);
    }

pub returns-then-place-len : goal.returns-then-place-len
returns-then-place-len c =
    let s = c.args.self.now in
    let rows = s.rows.items in
    let i = c.get.result - 1 in
    let d = c.index_mut.result.now in
    let new = c.set_owner.new.parcel in
    let same : new ≡ record (get_or rows i d) { owner = c.args.owner } = c.set_owner.ensures
    ∙ ap (λ (p : Parcel). record p { owner = c.args.owner }) c.index_mut.ensures.value in
    changed_at (λ p. p.id) (given_to c.args.id c.args.owner) c.args.id 1 i rows d new
    (λ p other. ap (λ b. cond b (record p { owner = c.args.owner }) p) other)
    (λ here. same ∙ ap (λ b. cond b (record (get_or rows i d) { owner = c.args.owner }) (get_or rows i d)) (sym here))
    (omega (arith, c.get.ensures.same, c.get.ensures.within))
    (omega (arith, c.if-place-len.true, c.len.ensures, s.rows.ok.0))
    (numbered_from (λ p. p.id) 1 rows s.numbered)

pub returns-else-place-len : goal.returns-else-place-len
returns-else-place-len c =
    let s = c.args.self.now in
    let rows = s.rows.items in
    changed_nowhere (λ p. p.id) (given_to c.args.id c.args.owner) c.args.id rows
    (λ p other. ap (λ b. cond b (record p { owner = c.args.owner }) p) other)
    (omega (arith, c.if-place-len.false, c.len.ensures, s.rows.ok.0, c.get.ensures.same, c.get.ensures.within))
    (numbered_from (λ p. p.id) 1 rows s.numbered)

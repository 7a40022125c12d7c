use Rattle.std.proofs.Common.{rules, ◌≡◌, ◌-◌, ◌<◌, ◌≤◌, length, None, Some, inl, refl, sym, ap, subst, ◌∙◌}
use Rattle.std.specs.Prelude.{slice_get}
use Rattle.std.proofs.lemmas.Option.{slice_get_past, slice_get_read}
use Rattle.permit_model.specs.Tables.{Paper}
use Rattle.permit_sql.specs.Named.{fault_at}
use Rattle.permit_sql.specs.declared.fault.Fault.TheVariants as fault
use Rattle.permit_sql.specs.declared.fault.PaperRule.TheVariants as paper
use Rattle.permit_sql.proofs.Turns.{turn_broken, turn_missing, turn_passed}
use Rattle.permit_sql.proofs.first_unsound_paper.ReadTaker.take.Goals as goal

pub returns-in_default-after : goal.returns-in_default-after
returns-in_default-after c = λ p good is.
    let read = c.in-Ok.ensures.read p is in
    let told = c.args.self.now.tallies.items in
    let inside : c.place_of-at.result ≡ c.in-Ok.paper.file - 1 = search rules in
    let place : c.place_of-at.result ≡ p.file - 1 = inside ∙ ap (λ (q : Paper). q.file - 1) read in
    let long : c.len.result ≡ length told = search rules in
    let low : c.place_of-at.result < c.len.result = search rules in
    let here = slice_get_read told c.len.result c.place_of-at.result c.index.result.now long low c.index.ensures in
    let there = slice_get_read told c.len.result c.place_of-at.result c.index-in_default-after.result.now long low c.index-in_default-after.ensures in
    let again : c.index-in_default-after.result.now ≡ c.index.result.now = (let e : Some c.index-in_default-after.result.now ≡ Some c.index.result.now = sym there ∙ here in cc) in
    let at = subst (λ n. slice_get told n ≡ Some c.index.result.now) place here in
    inl (
      ap Some (c.fault_at.ensures ∙ ap (λ w. fault_at w c.in-Ok.paper) again)
          ∙ turn_broken c.args.self.now.parties c.args.self.now.last told p _ _ read c.in_default.ensures.exact at
          (sym c.after.ensures ∙ c.in_default-after.is),
      refl,
    )

pub returns : goal.returns
returns c = (
  refl,
  refl,
  λ p good is.
      let read = c.in-Ok.ensures.read p is in
      let told = c.args.self.now.tallies.items in
      let inside : c.place_of-at.result ≡ c.in-Ok.paper.file - 1 = search rules in
      let place : c.place_of-at.result ≡ p.file - 1 = inside ∙ ap (λ (q : Paper). q.file - 1) read in
      let long : c.len.result ≡ length told = search rules in
      let low : c.place_of-at.result < c.len.result = search rules in
      let here = slice_get_read told c.len.result c.place_of-at.result c.index.result.now long low c.index.ensures in
      let at = subst (λ n. slice_get told n ≡ Some c.index.result.now) place here in
      turn_passed c.args.self.now.parties c.args.self.now.last told p _ _ read c.in_default.ensures.exact at c.in-Some-after.next c.place_of-at.result
      (sym c.after.ensures ∙ c.in-Some-after.is) place,
)

pub returns-then-at-len : goal.returns-then-at-len
returns-then-at-len c = λ p good is.
    let read = c.in-Ok.ensures.read p is in
    let told = c.args.self.now.tallies.items in
    let inside : c.place_of-at.result ≡ c.in-Ok.paper.file - 1 = search rules in
    let place : c.place_of-at.result ≡ p.file - 1 = inside ∙ ap (λ (q : Paper). q.file - 1) read in
    let past : length told ≤ c.place_of-at.result = search rules in
    let none = subst (λ n. slice_get told n ≡ None) place (slice_get_past told c.place_of-at.result past) in
    let said : c.fault_of-then-at-len.result ≡ fault.Paper (Some c.in-Ok.paper.file) (Some c.in-Ok.paper.number) paper.File = search rules in
    inl (ap Some said ∙ turn_missing c.args.self.now.parties c.args.self.now.last told p _ read c.in_default.ensures.exact none, refl)

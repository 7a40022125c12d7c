use Rattle.std.proofs.Common.{◌≡◌, ◌<◌, ◌^◌, Some, None, [], refl, sym, ap, ap₂, ◌∙◌, arith, rules}
use Rattle.std.specs.Prelude.{option_map}
use Rattle.sqlite_value.specs.Order.{column}
use Rattle.permit_sql.specs.Named.{fits_file_rule}
use Rattle.permit_sql.specs.First.{first_broken, file_rules}
use Rattle.permit_sql.specs.declared.fault.Fault.TheVariants as fault
use Rattle.permit_sql.proofs.first_unsound.TestedTaker.take.Goals as goal

pub returns : goal.returns
returns c f good is =
    let rule = c.in-Some-file_rule.rule in
    let same = c.in-Some.ensures.read f [] good.1 is in
    let told = c.in-Some-file_rule.ensures.exact
    ∙ ap₂ (λ roles s. first_broken (λ r. fits_file_rule roles c.args.self.now.parcels c.args.self.now.last r s) file_rules) c.deref.ensures.value same in
    let most = good.0.id.1 in
    let low : f.id < 2 ^ 32 = omega (arith, most) in
    let number = c.number_in.ensures f.id low (ap (λ r. column r 0) is) in
    (ap (λ n. Some (fault.File n rule)) number ∙ ap (option_map (fault.File (Some f.id))) told, refl)

pub returns-in_default : goal.returns-in_default
returns-in_default c = λ f good is. let was = c.state_in.ensures.some f [] good.0 good.1 is in search rules

pub returns-in_default-file_rule : goal.returns-in_default-file_rule
returns-in_default-file_rule c = (
  refl,
  refl,
  refl,
  refl,
  λ f good is.
      let same = c.in-Some.ensures.read f [] good.1 is in
      let none : c.file_rule.result ≡ None = search rules in
      let told = sym none ∙ c.file_rule.ensures.exact
      ∙ ap₂ (λ roles s. first_broken (λ r. fits_file_rule roles c.args.self.now.parcels c.args.self.now.last r s) file_rules) c.deref.ensures.value same in
      ap (option_map (fault.File (Some f.id))) (sym told),
)

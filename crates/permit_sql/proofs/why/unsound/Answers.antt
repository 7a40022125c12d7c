use Rattle.std.proofs.Common.{ap, ◌∙◌}
use Rattle.std.specs.Prelude.{option_map}
use Rattle.std.proofs.lemmas.List.Sorted.{IsPermutation-refl}
use Rattle.permit_sql.specs.Named.{fits_desk_rule}
use Rattle.permit_sql.specs.First.{first_broken, desk_rules}
use Rattle.permit_sql.specs.declared.fault.Fault.TheVariants as fault
use Rattle.permit_sql.proofs.Firsts.{is_first}
use Rattle.permit_sql.proofs.why.unsound.Goals as goal

pub returns-in-Some-clause-first : goal.returns-in-Some-clause-first
returns-in-Some-clause-first g c fine t typed k desk upgrade = (
  t.interests,
  IsPermutation-refl t.interests,
  is_first _ (ap (option_map fault.Desk) (c.in-Some.ensures.exact ∙ ap (λ d. first_broken (fits_desk_rule d) desk_rules) desk)),
)

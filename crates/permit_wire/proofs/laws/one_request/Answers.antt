use Rattle.std.proofs.Common.{sym, ap, ◌∙◌}
use Rattle.permit_wire.specs.Asked.{asked_in}
use Rattle.permit_wire.proofs.laws.one_request.Goals as goal

pub returns : goal.returns
returns c = λ bytes rest other_rest asked other closes other_closes x y.
    let same = c.one_meaning.ensures.message bytes rest other_rest x.0 y.0 x.1 y.1 in (
      sym x.2 ∙ ap asked_in same.0 ∙ y.2,
      sym x.3 ∙ ap (λ m. m.closes) same.0 ∙ y.3,
      same.1,
    )

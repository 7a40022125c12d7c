use Rattle.permit_base.specs.declared.route.Route.TheVariants.{Every}
use Rattle.permit_office.proofs.PassedRows.{alone, by_one, by_several}
use Rattle.permit_office.proofs.passing.hand.Goals as goal

pub returns-then-routes-eq1 : goal.returns-then-routes-eq1
returns-then-routes-eq1 g c =
    let h = c.each.ensures.handed in
    record {
      handed = (
        h.0,
        h.1,
        λ sure t held. by_one c.args.routes.now _ c.args.caller c.args.day t c.each.result h.0 (alone c.args.routes.now Every c.if-routes-eq1.true)
            (h.2 sure t held),
      );
    }

pub returns : goal.returns
returns g c =
    let h = c.each_of_any.ensures.handed in
    record {
      handed = (
        h.0,
        h.1,
        λ sure t held. by_several c.args.routes.now c.args.caller c.args.day t c.each_of_any.result h.0 c.if-routes-eq1.false (h.2 sure t held),
      );
    }

use Rattle.permit_store.specs.Handing.{found_by_any}
use Rattle.permit_sql_statements.proofs.Handing.{handed_among}
use Rattle.permit_sql_statements.proofs.select.each_of_any_found.Goals as goal

pub returns-clause-handed : goal.returns-clause-handed
returns-clause-handed g c =
    let it = c.each_sifted.ensures.handed in (
      it.0,
      it.1,
      it.2,
      λ t clean there same. handed_among t c.each_sifted.result it.0 (found_by_any c.args.routes.now c.args.caller c.args.day t) (it.3 t clean there same),
    )

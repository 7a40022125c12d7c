use Rattle.std.proofs.Common.{◌∙◌}
use Rattle.permit_mirror.proofs.Own.{found_by_one, in_order}
use Rattle.permit_mirror.proofs.indexed.IndexedStore.each.Goals as goal

pub returns-then-are_by_relations-clause-handed : goal.returns-then-are_by_relations-clause-handed
returns-then-are_by_relations-clause-handed g c =
    let own = c.each_of_own.ensures.handed in
    (own.0, own.1, λ _ t h. let left = own.2 t h in (left.0, left.1, in_order t _ _ (left.2 ∙ found_by_one c.args.route.now c.args.caller c.args.day t)))

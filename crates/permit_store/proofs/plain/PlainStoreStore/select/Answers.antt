use Rattle.std.proofs.Common.{◌∷◌, [], ◌∙◌}
use Rattle.permit_store.proofs.Selecting.{selection_of, found_in_tables, found_by_one, are_found}
use Rattle.permit_store.proofs.plain.PlainStoreStore.select.Goals as goal

pub returns-in-Ok-clause-found : goal.returns-in-Ok-clause-found
returns-in-Ok-clause-found c =
    let s = selection_of (c.args.route.now ∷ []) c.args.caller c.args.day c.args.self.now.parcels c.args.self.now.interests in
    λ _ t k. are_found t _ _ (c.in-Ok.ensures ∙ found_in_tables _ _ _ s _ _ t c.deref.ensures.value k
    ∙ found_by_one c.args.route.now c.args.caller c.args.day t)

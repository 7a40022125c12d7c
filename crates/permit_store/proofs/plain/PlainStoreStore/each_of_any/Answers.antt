use Rattle.std.proofs.Common.{le_refl, refl, rules}
use Rattle.permit_store.specs.Handing.{found_by_any}
use Rattle.permit_store.proofs.Selecting.{selection_of, found_in_tables, told_ok, told_err, reads_failed, hands_among}
use Rattle.permit_store.proofs.plain.PlainStoreStore.each_of_any.Goals as goal

pub returns-in-Ok-clause-handed : goal.returns-in-Ok-clause-handed
returns-in-Ok-clause-handed g c =
    let s = selection_of c.args.routes.now c.args.caller c.args.day c.args.self.now.parcels c.args.self.now.interests in
    hands_among g.T.Taker.took _ (found_by_any c.args.routes.now c.args.caller c.args.day) _ _ c.args.taker.now c.hand-outcome.new.taker _
    (λ t k. found_in_tables _ _ _ s _ _ t c.deref.ensures.value k)
    (search rules)
    (told_ok g.T.Taker.took _ _ _ _ _ _ c.in-Ok.all c.in-Ok.is c.hand-outcome.ensures)

pub returns-in-Err-clause-handed : goal.returns-in-Err-clause-handed
returns-in-Err-clause-handed g c =
    let s = selection_of c.args.routes.now c.args.caller c.args.day c.args.self.now.parcels c.args.self.now.interests in
    rw c.fail.ensures.counted
    (hands_among g.T.Taker.took _ (found_by_any c.args.routes.now c.args.caller c.args.day) _ _ c.args.taker.now c.hand-outcome.new.taker c.fail.result
    (λ t k. found_in_tables _ _ _ s _ _ t c.deref.ensures.value k)
    (reads_failed _ _ c.fail.result c.fail.ensures.error (λ t k. k) (le_refl _) refl refl)
    (told_err g.T.Taker.took _ _ _ _ _ c.hand-outcome.result c.in-Err.field-0 c.fail.result c.in-Err.is c.fail.ensures.error c.hand-outcome.ensures))

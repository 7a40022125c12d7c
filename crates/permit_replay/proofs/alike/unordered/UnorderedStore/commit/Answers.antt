use Rattle.std.proofs.lemmas.Result.{on_ok_weaker}
use Rattle.permit_store.specs.Changes.{changed}
use Rattle.permit_replay.proofs.Transferred.{changed_alike, fits_alike}
use Rattle.permit_replay.proofs.alike.unordered.UnorderedStore.commit.Goals as goal

pub returns-clause-made : goal.returns-clause-made
returns-clause-made g c = λ u h fits. on_ok_weaker c.commit.result
    (λ held. (changed h.0 c.args.change.now c.args.day, held, changed_alike h.0 u c.args.change.now c.args.day h.2))
    (c.commit.ensures.made h.0 h.1 (fits_alike h.0 u c.args.change.now c.args.day h.2 fits))

use Rattle.std.proofs.Common.{◌≡◌, drop, map}
use Rattle.permit_args.specs.FactsText.{set_from}
use Rattle.permit_model.specs.Facts.{no_relations}
use Rattle.permit_args.proofs.facts.set_of.Given as goal

abbrev pub invariant-loop-word : goal.invariant-loop-word
invariant-loop-word l =
    set_from l.seen l.set (map (λ w. w.now) (drop l.word-index l.fn.words)) ≡ set_from no_relations no_relations (map (λ w. w.now) l.fn.words)

use Rattle.std.proofs.Common.{◌≡◌, None, drop, map}
use Rattle.permit_args.specs.FactsText.{alternative_in, first_from, pieces}
use Rattle.permit_args.proofs.facts.relations.Given as goal

abbrev pub invariant-loop-word : goal.invariant-loop-word
invariant-loop-word l = first_from alternative_in l.first (map (λ w. w.now) (drop l.word-index l.word-items)) ≡ first_from alternative_in None (pieces 47 l.fn.text)

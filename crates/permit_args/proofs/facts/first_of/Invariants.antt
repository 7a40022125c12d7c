use Rattle.std.proofs.Common.{◌≡◌, None, drop, map}
use Rattle.permit_base.specs.Words.{named}
use Rattle.permit_args.specs.FactsText.{first_from}
use Rattle.permit_args.proofs.facts.first_of.Given as goal

abbrev pub invariant-loop-word : goal.invariant-loop-word
invariant-loop-word g l =
    let read = named g.W.Word.spelling g.W.Word.every in
    first_from read l.first (map (λ w. w.now) (drop l.word-index l.fn.words)) ≡ first_from read None (map (λ w. w.now) l.fn.words)

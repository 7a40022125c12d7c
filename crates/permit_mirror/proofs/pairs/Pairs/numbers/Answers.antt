use Rattle.std.proofs.Common.{◌≡◌, ◌==◌, map, filter, ◌∙◌, ap, sym, subst}
use Rattle.std.specs.List.{list_any}
use Rattle.std.proofs.lemmas.Iterator.Consumers.{YieldsList-end, YieldsList-from_rest}
use Rattle.permit_mirror.specs.Pairs.{RiseFrom}
use Rattle.permit_mirror.proofs.Ordered.{is_under, numbers_under, any_under, under_rise, from_zero, seconds}
use Rattle.permit_mirror.proofs.pairs.Pairs.numbers.Goals as goal

pub returns-clause-rising : goal.returns-clause-rising
returns-clause-rising c =
    let pairs = c.args.self.now.set.keys in
    let all = filter (is_under c.args.key) pairs in
    let t = YieldsList-end (YieldsList-from_rest all (c.into_iter-pair-iterator.ensures.into_iter_gives ∙ c.range-pair-items.ensures.between tt)) c.loop-pair.yielded _
    c.loop-pair.yielded_by _ _ c.in-None.is c.next.ensures.steps in
    let same : c.loop-pair.numbers.items ≡ numbers_under c.args.key pairs = c.loop-pair.invariant ∙ seconds c.loop-pair.yielded ∙ ap (map (λ p. p.1)) t.0 in
    subst (RiseFrom 0) (sym same) (under_rise c.args.key 0 pairs c.range-pair-items.ensures.ordered (from_zero c.args.key pairs))

pub returns-clause-exact : goal.returns-clause-exact
returns-clause-exact c = λ number.
    let pairs = c.args.self.now.set.keys in
    let all = filter (is_under c.args.key) pairs in
    let t = YieldsList-end (YieldsList-from_rest all (c.into_iter-pair-iterator.ensures.into_iter_gives ∙ c.range-pair-items.ensures.between tt)) c.loop-pair.yielded _
    c.loop-pair.yielded_by _ _ c.in-None.is c.next.ensures.steps in
    let same : c.loop-pair.numbers.items ≡ numbers_under c.args.key pairs = c.loop-pair.invariant ∙ seconds c.loop-pair.yielded ∙ ap (map (λ p. p.1)) t.0 in
    ap (list_any (λ n. n == number)) same ∙ any_under c.args.key number pairs

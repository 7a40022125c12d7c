use Rattle.std.proofs.Common.{◌≡◌, ◌+◌, ◌++◌, ◌∷◌, [], length, sym, ◌∙◌, ap, arith, length-append}
use Rattle.std.proofs.lemmas.List.{take_all}
use Rattle.permit_store.proofs.Places.{taken_more}
use Rattle.permit_store.proofs.plain.load.load_parties.Goals as goal

pub loop-place-preserved : goal.loop-place-preserved
loop-place-preserved g c =
    let was = c.loop-place.invariant in
    let read = c.party.ensures.read in
    let more = c.push.ensures.made c.if-not-push.false in
    let next : c.in-Some.id ≡ 1 + c.loop-place.place = omega (arith, c.in-Some.ensures.same) in
    record {
      kept = λ t h. read.kept t (was.kept t h);
      doubt = omega (arith, was.doubt, read.doubt);
      commits = read.commits ∙ was.commits;
      counted = ap length more ∙ length-append c.loop-place.parties.rows.items (c.in-Some-2.party ∷ []) ∙ ap (λ n. n + 1) was.counted;
      held = λ d t h numbered all. more
          ∙ ap (λ ps. ps ++ c.in-Some-2.party ∷ []) (was.held (omega (arith, d, read.doubt)) t h numbered all)
          ∙ taken_more (λ p. p.id) t.parties c.loop-place.place c.in-Some.id c.in-Some-2.party next numbered
          (sym c.in-Some-2.is ∙ c.in_ok-party.ensures.found d t (was.kept t h));
    }

pub returns-clause-held : goal.returns-clause-held
returns-clause-held g c = λ d t h numbered all. c.loop-place.invariant.held d t h numbered all
    ∙ take_all c.loop-place.place t.parties (omega (arith, all, c.loop-place-test.false))

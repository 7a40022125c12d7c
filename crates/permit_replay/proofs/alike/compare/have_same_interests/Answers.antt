use Rattle.std.proofs.Common.{◌∙◌, sym, ap, arith}
use Rattle.permit_store.specs.Interests.{DeclareSame, is_declared}
use Rattle.permit_replay.proofs.Declared.{back_where_same, both_ways, there_where_same}
use Rattle.permit_replay.proofs.Looking.{clean_before}
use Rattle.permit_replay.proofs.alike.compare.have_same_interests.Goals as goal

pub returns-then-not-there-clause-same : goal.returns-then-not-there-clause-same
returns-then-not-there-clause-same g c = λ d e t u h k. (
  λ x. absurd cc,
  λ same. sym c.if-not-there.true ∙ c.in_ok-there.ensures.declared e u k
      ∙ there_where_same t.interests u.interests c.deref.result.now
      (λ parcel party. ap (is_declared parcel party) c.deref.ensures.value ∙ c.in_ok-one.ensures.found d t h parcel party) same,
)

pub returns-clause-same : goal.returns-clause-same
returns-clause-same g c = λ d e t u h k.
    let clean = clean_before c.in_ok-back.ensures.looks d in
    let one : DeclareSame c.deref.result.now t.interests = λ parcel party. ap (is_declared parcel party) c.deref.ensures.value ∙ c.in_ok-one.ensures.found clean t h parcel party in
    let other : DeclareSame c.deref-2.result.now u.interests = λ parcel party. ap (is_declared parcel party) c.deref-2.ensures.value
    ∙ c.in_ok-other.ensures.found e u (c.in_ok-there.ensures.looks.kept u k) parcel party in
    let there = sym (c.in_ok-there.ensures.declared (omega (arith, c.in_ok-other.ensures.read.doubt, e)) u k) ∙ c.if-not-there.false in
    let back = c.in_ok-back.ensures.declared d t (c.in_ok-one.ensures.read.kept t h) in (
      λ x. both_ways t.interests u.interests c.deref.result.now c.deref-2.result.now one other there (sym back ∙ x),
      λ same. back ∙ back_where_same t.interests u.interests c.deref-2.result.now other same,
    )

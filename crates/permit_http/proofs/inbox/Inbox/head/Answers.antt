use Rattle.std.proofs.Common.{arith, ap, ◌∙◌, Ok, ◌≡◌, refl, inl}
use Rattle.permit_http.proofs.Filling.{filled_none, filled_on, filled_nothing, still}
use Rattle.permit_http.proofs.ReadsMade.{reads_none, reads_more}
use Rattle.permit_http.proofs.inbox.Inbox.head.Goals as goal

pub loop-spans-init : goal.loop-spans-init
loop-spans-init g c = record { filled = filled_none _ _; there = λ nope. (refl, refl); needed = reads_none _ _ _ _ }

pub returns-in-Ok-eq0-clause-filled : goal.returns-in-Ok-eq0-clause-filled
returns-in-Ok-eq0-clause-filled g c = filled_on _ _ _ _ _ _ c.loop-spans.invariant.filled c.fill.ensures.filled

pub returns-in-Ok-eq0-clause-sought : goal.returns-in-Ok-eq0-clause-sought
returns-in-Ok-eq0-clause-sought g c =
    let none : c.fill.result ≡ Ok 0 = c.in-Ok-eq0.is ∙ ap Ok c.in-Ok-eq0.field-0-test in
    let size = rw c.in-Ok-eq0.field-0-test at c.in-Ok-eq0.ensures.grows in
    let same = filled_nothing _ _ _ _ c.fill.ensures.filled (omega (arith, size)) in
    (rw (same, ← c.as_slice.ensures) c.in-Open.ensures, c.fill.ensures.end none)

pub loop-spans-smaller : goal.loop-spans-smaller
loop-spans-smaller g c =
    let short = rw c.as_slice.ensures at c.in-Open.ensures.1 in
    omega (arith, short, c.in-Ok.ensures.grows)

pub loop-spans-preserved : goal.loop-spans-preserved
loop-spans-preserved g c = record {
  filled = filled_on _ _ _ _ _ _ c.loop-spans.invariant.filled c.fill.ensures.filled;
  there = λ nope. absurd (still nope (c.loop-spans.invariant.there nope).0 (rw c.as_slice.ensures at c.in-Open.ensures));
  needed = reads_more _ _ _ _ _ _ _ _ _ c.loop-spans.invariant.needed (inl (rw c.as_slice.ensures at c.in-Open.ensures)) c.fill.ensures.once.2 c.fill.ensures.once.1;
}

pub returns-in-Err-clause-filled : goal.returns-in-Err-clause-filled
returns-in-Err-clause-filled g c = filled_on _ _ _ _ _ _ c.loop-spans.invariant.filled c.fill.ensures.filled

pub returns-in-Ok-eq0-clause-needed : goal.returns-in-Ok-eq0-clause-needed
returns-in-Ok-eq0-clause-needed g c =
    reads_more _ _ _ _ _ _ _ _ _ c.loop-spans.invariant.needed (inl (rw c.as_slice.ensures at c.in-Open.ensures)) c.fill.ensures.once.2 c.fill.ensures.once.1

pub returns-in-Err-clause-needed : goal.returns-in-Err-clause-needed
returns-in-Err-clause-needed g c =
    reads_more _ _ _ _ _ _ _ _ _ c.loop-spans.invariant.needed (inl (rw c.as_slice.ensures at c.in-Open.ensures)) c.fill.ensures.once.2 c.fill.ensures.once.1

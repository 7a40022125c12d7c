use Rattle.std.proofs.Common.{◌≡◌, ◌∙◌, sym, ap, subst, ◌+◌, [], ◌∷◌, ◌++◌, Some, Ok, length-append, arith}
use Rattle.std.specs.Io.BufRead.{drop_through}
use Rattle.std.specs.Io.KnownBytes.{Appends}
use Rattle.permit_history.specs.Text.{next_line, Answers}
use Rattle.permit_report.specs.Outgoing.{WroteFront}
use Rattle.permit_chronicle.specs.Telling.{part, roles_with}
use Rattle.permit_chronicle.proofs.More.{has_more, if_some, lines_more, roles_more, some_at, some_more, stopped_in, wrote_or_not}
use Rattle.permit_chronicle.proofs.telling.tell_in.Goals as goal

pub loop-line-preserved : goal.loop-line-preserved
loop-line-preserved g c = (
  λ bytes e.
      let i = c.loop-line.invariant.0 bytes e in
      let entry = c.in-Ok-Some.entry in
      let remaining = g.R.Read.remaining c.loop-line.source in
      let said = some_at remaining (λ left. Answers (Ok c.in-Ok-Some.field-0) (next_line left)) i.1 c.in-Ok-Some.ensures.exact i.2 in
      let answer = rw c.in-Ok-Some.field-0-is at said in
      let rest = some_at remaining (λ left. g.R.Read.remaining c.next_entry.new.source ≡ Some (drop_through 10 left)) i.1 c.in-Ok-Some.ensures.rest i.2 in
      let wrote = subst (λ roles. Appends (g.W.Write.contents c.loop-line.out) (g.W.Write.contents c.tell_entry.new.out) (part c.args.wanted.now roles entry))
      i.4 c.in-Ok.ensures.told in (
        i.0 ++ entry ∷ [],
        drop_through 10 i.1,
        rest,
        ap (λ n. n + 1) (i.3 ∙ sym (omega (arith, length-append i.0 (entry ∷ [])))),
        c.in-Ok.ensures.roles ∙ ap (λ roles. roles_with roles entry.deed) i.4 ∙ sym (roles_more c.args.roles.now i.0 entry),
        has_more c.args.wanted.now c.args.roles.now bytes i.0 i.1 entry _ _ _ i.5 answer wrote,
      ),
  (
      let j = c.loop-line.invariant.1 in
      let entry = c.in-Ok-Some.entry in (
        j.0 ++ entry ∷ [],
        c.in-Ok.ensures.roles ∙ ap (λ roles. roles_with roles entry.deed) j.1 ∙ sym (roles_more c.args.roles.now j.0 entry),
        lines_more c.args.wanted.now c.args.roles.now j.0 entry _ _ _ j.2
            (subst (λ roles. Appends (g.W.Write.contents c.loop-line.out) (g.W.Write.contents c.tell_entry.new.out) (part c.args.wanted.now roles entry)) j.1
            c.in-Ok.ensures.told),
      )
      ),
)

pub returns-in-Err-clause-stopped : goal.returns-in-Err-clause-stopped
returns-in-Err-clause-stopped g c = if_some (g.R.Read.remaining c.args.source.now) _
    (λ bytes e.
    let i = c.loop-line.invariant.0 bytes e in
    let entry = c.in-Ok-Some.entry in
    let said = some_at (g.R.Read.remaining c.loop-line.source) (λ left. Answers (Ok c.in-Ok-Some.field-0) (next_line left)) i.1
    c.in-Ok-Some.ensures.exact i.2 in
    let answer = rw c.in-Ok-Some.field-0-is at said in
    let wrote = subst (λ roles. WroteFront (g.W.Write.contents c.loop-line.out) (g.W.Write.contents c.tell_entry.new.out) (part c.args.wanted.now roles entry))
    i.4 c.in-Err.ensures.front in
    stopped_in c.args.wanted.now c.args.roles.now bytes i.0 i.1 entry _ _ _ c.in-Err.fault i.5 answer wrote (wrote_or_not c.in-Err.fault _ _ g.W.Write.contents c.in-Err.ensures.fails))

pub returns-in-Err-clause-some : goal.returns-in-Err-clause-some
returns-in-Err-clause-some g c =
    let j = c.loop-line.invariant.1 in
    let entry = c.in-Ok-Some.entry in
    some_more c.args.wanted.now c.args.roles.now j.0 entry _ _ _ j.2
    (subst (λ roles. WroteFront (g.W.Write.contents c.loop-line.out) (g.W.Write.contents c.tell_entry.new.out) (part c.args.wanted.now roles entry)) j.1
    c.in-Err.ensures.front)

pub returns-clause-stopped : goal.returns-clause-stopped
returns-clause-stopped g c = if_some (g.R.Read.remaining c.args.source.now) _
    (λ bytes e.
    let i = c.loop-line.invariant.0 bytes e in (i.0, i.1, i.5, omega (arith, i.3, c.loop-line-test.false)))

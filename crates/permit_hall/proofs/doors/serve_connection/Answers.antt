use Rattle.std.proofs.Common.{refl, sym, ap, ◌∙◌, subst}
use Rattle.std.proofs.lemmas.List.{append-nil}
use Rattle.std.specs.Io.KnownBytes.{Keeps}
use Rattle.permit_http.specs.Stream.{fresh, stream}
use Rattle.permit_wire.specs.Conversation.{none}
use Rattle.permit_wire.specs.Serving.{ServesBy}
use Rattle.permit_wire.proofs.Conversing.{Leads, starts, goes, ends, kept, keeps_some}
use Rattle.permit_hall.specs.Session.{Asks, put_by, got_by}
use Rattle.permit_hall.proofs.Talks.{adds, places, more, counts}
use Rattle.permit_hall.proofs.doors.serve_connection.Goals as goal

pub loop-init : goal.loop-init
loop-init g c =
    let first = c.args.session.now in let begun = g.O.Write.contents c.args.writer.now in (
      c.requires.session,
      (refl, refl, refl),
      c.requires.even,
      c.requires.count,
      (none, sym (append-nil (put_by first)), sym (append-nil (got_by first))),
      λ bytes e. (
        bytes,
        ap (λ i. stream i (g.I.Read.remaining c.args.reader.now)) c.new-inbox.ensures ∙ ap (λ r. stream fresh r) e,
        subst (λ i. Leads put_by got_by first bytes begun first bytes i begun) (sym c.new-inbox.ensures) (starts put_by got_by first bytes begun),
      ),
    )

pub loop-preserved : goal.loop-preserved
loop-preserved g c =
    let h = c.loop.invariant in let turn = c.serve_by-turn in let first = c.args.session.now in let s = c.loop.session in let t = turn.new.service in
    let counts = counts s t turn.result.asked c.loop.count c.from.result c.saturating_add-count.result turn.ensures.asks c.from.ensures
    c.saturating_add-count.ensures h.2 h.3 in
    let stays = kept turn.result.served (sym c.is_shut.ensures ∙ c.if-is_shut.false) in (
      turn.ensures.ready,
      places s t first turn.result.asked turn.ensures.asks h.1,
      counts.0,
      counts.1,
      more s t first turn.result.asked turn.ensures.asks h.4,
      λ bytes e. let known = h.5 bytes e in
          goes put_by got_by first bytes (g.O.Write.contents c.args.writer.now) Asks adds s t known.0 c.loop.inbox turn.new.inbox
          (g.I.Read.remaining turn.new.reader) (g.O.Write.contents c.loop.writer) (g.O.Write.contents turn.new.writer) known.2
          (subst (λ x. ServesBy Asks s t known.0 c.loop.inbox turn.new.inbox (g.I.Read.remaining turn.new.reader) (g.O.Write.contents c.loop.writer)
          (g.O.Write.contents turn.new.writer) x) stays (turn.ensures.serves known.0 known.1)),
    )

pub returns-then-is_shut-clause-holds : goal.returns-then-is_shut-clause-holds
returns-then-is_shut-clause-holds g c =
    let h = c.loop.invariant in let turn = c.serve_by-turn in let first = c.args.session.now in let s = c.loop.session in let t = turn.new.service in
    let all = more s t first turn.result.asked turn.ensures.asks h.4 in (
      all.0,
      all.1,
      all.2,
      λ bytes e. let known = h.5 bytes e in (
        turn.result.served,
        ends put_by got_by first bytes (g.O.Write.contents c.args.writer.now) Asks adds s t known.0 c.loop.inbox turn.new.inbox
            (g.I.Read.remaining turn.new.reader) (g.O.Write.contents c.loop.writer) (g.O.Write.contents turn.new.writer) known.2
            turn.result.served (sym c.is_shut.ensures ∙ c.if-is_shut.true) (turn.ensures.serves known.0 known.1) turn.ensures.silent
            (λ failed. let left = turn.ensures.unread failed in (
              left.0,
              keeps_some (stream turn.new.inbox (g.I.Read.remaining turn.new.reader)) known.0
                  (subst (λ b. Keeps b (stream turn.new.inbox (g.I.Read.remaining turn.new.reader))) known.1 left.1),
            ))
            turn.ensures.grown all.0 all.1 all.2,
      ),
    )

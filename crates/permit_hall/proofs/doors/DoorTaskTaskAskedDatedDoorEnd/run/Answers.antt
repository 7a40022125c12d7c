use Rattle.std.proofs.Common.{◌++◌, ◌∷◌, [], ◌∙◌}
use Rattle.permit_hall.specs.Doors.{Talk}
use Rattle.permit_hall.proofs.Talks.{given_more, puts_then, gots_then}
use Rattle.permit_hall.proofs.doors.DoorTaskTaskAskedDatedDoorEnd.run.Goals as goal

pub loop-preserved : goal.loop-preserved
loop-preserved g c =
    let h = c.loop.invariant in let done = c.serve_connection-collected.ensures in
    let talk : Talk _ _ = record { reader = c.in-Some-next.reader; writer = c.in-Some-next.writer; left = c.serve_connection-collected.new.writer; exchanges = done.holds.0 } in
    let talks = h.4.0 in (
      done.session.0,
      (done.session.1.0 ∙ h.1.0, done.session.1.1 ∙ h.1.1, done.session.1.2 ∙ h.1.2),
      done.even,
      done.count,
      (
        talks ++ talk ∷ [],
        given_more g.D.In.Read.remaining g.D.Out.Write.contents g.D.Door.gave talk c.next-in-loop.new.self talks _ c.loop.door h.4.1 c.in-Some-next.ensures.gave done.holds.3,
        puts_then talks talk _ _ h.4.2 done.holds.1,
        gots_then talks talk _ _ h.4.3 done.holds.2,
      ),
    )

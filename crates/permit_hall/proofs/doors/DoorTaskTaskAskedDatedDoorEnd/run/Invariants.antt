use Rattle.std.proofs.Common.{◌≡◌, List, length}
use Rattle.permit_hall.specs.Doors.{Talk, HasGiven, capped, puts_of, gots_of}
use Rattle.permit_hall.specs.Session.{IsSession, IsSamePlace, put_by, got_by}
use Rattle.permit_hall.proofs.doors.DoorTaskTaskAskedDatedDoorEnd.run.Given as goal

abbrev pub invariant-loop : goal.invariant-loop
invariant-loop g l = IsSession l.session × IsSamePlace l.fn.session l.session × (length (put_by l.session) ≡ length (got_by l.session))
    × (l.collected ≡ capped (length (put_by l.session)))
    × ((talks : List (Talk _ _)) × HasGiven g.D.In.Read.remaining g.D.Out.Write.contents g.D.Door.gave l.fn.self.door talks l.door
    × (put_by l.session ≡ puts_of talks) × (got_by l.session ≡ gots_of talks))

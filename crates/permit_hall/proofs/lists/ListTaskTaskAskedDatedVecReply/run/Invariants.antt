use Rattle.std.proofs.Common.{◌≡◌, ◌≤◌, ◌++◌, length, map}
use Rattle.std.specs.Prelude.{vec_capacity}
use Rattle.std.specs.Vec.Iter.{into_iter_items}
use Rattle.permit_hall.specs.Session.{IsSession, put_by, got_by, IsSamePlace}
use Rattle.permit_hall.proofs.lists.ListTaskTaskAskedDatedVecReply.run.Given as goal

abbrev pub invariant-loop-asked : goal.invariant-loop-asked
invariant-loop-asked g l =
    IsSamePlace l.fn.session l.session
    × IsSession l.session
    × (map (λ d. d.reply) (got_by l.session) ≡ l.answers.items)
    × (put_by l.session ++ into_iter_items l.asked-iterator ≡ l.fn.self.list.items)
    × (length (got_by l.session) ≡ length (put_by l.session))
    × (length l.fn.self.list.items ≤ vec_capacity l.answers)

use Rattle.std.proofs.Common.{◌≡◌, subst}
use Rattle.permit_mirror.proofs.mirrored.MirroredStore.state.Goals as goal

pub returns-clause-found : goal.returns-clause-found
returns-clause-found g c = λ sure t held.
    let settled : (g.S.Store.view c.settle.new.self.kept).doubt ≡ 0 = subst (λ k. (g.S.Store.view k).doubt ≡ 0) c.counted.ensures.stores.0 sure
    in rw c.counted.ensures.answer (c.state-answer.ensures.found (g.met.M.Memory.sure _) t (c.in_ok-settle.ensures.settled settled t held))

use Rattle.std.proofs.Common.{◌≡◌, [], ◌∷◌, ◌++◌}
use Rattle.permit_store.specs.Changes.{changed}
use Rattle.permit_batch.specs.Leading.{LeadThrough}
use Rattle.permit_batch.proofs.Through.{lead_more}
use Rattle.permit_batch.proofs.draft.Draft.enter.Goals as goal

pub returns-clause-made : goal.returns-clause-made
returns-clause-made g c t held fits =
    let read = c.desk.ensures.read.kept t held.0 in
    let here = c.prepare.ensures.kept t read in
    let desk = c.in_ok-desk.ensures.found (g.met.M.Memory.sure c.desk.new.self) t held.0 in
    let after = changed t c.args.change.now c.args.day in
    let pushed : c.push.new.self.items ≡ c.args.self.now.steps.items ++ c.in_ok-step.step ∷ [] = c.in-Ok.ensures.items in
    let more = lead_more g.K.Batching.leads c.args.self.now.steps.items c.in_ok-step.step held.1.0 t after held.1.2 (c.in_ok-step.ensures t desk fits) in
    let through : LeadThrough g.K.Batching.leads c.push.new.self.items held.1.0 after = rw pushed more in
    (c.make.ensures.made t here fits, (held.1.0, held.1.1, through))

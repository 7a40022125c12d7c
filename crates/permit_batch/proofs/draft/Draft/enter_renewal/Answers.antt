use Rattle.std.proofs.Common.{◌≡◌, [], ◌∷◌, ◌++◌, Ok, ap, subst, ◌∙◌}
use Rattle.permit_model.specs.Renewal.{with_renewed}
use Rattle.permit_store.specs.Renewing.{Renews}
use Rattle.permit_batch.specs.Leading.{LeadThrough}
use Rattle.permit_batch.proofs.Through.{lead_more}
use Rattle.permit_batch.proofs.draft.Draft.enter_renewal.Goals as goal

pub returns-in-Ok-Ok-clause-renewed : goal.returns-in-Ok-Ok-clause-renewed
returns-in-Ok-Ok-clause-renewed g c t held =
    let is : c.renew.result ≡ Ok (Ok c.in-Ok-Ok.field-0-0) = c.in-Ok-Ok.is ∙ ap Ok c.in-Ok-Ok.field-0-is in
    let said = subst (Renews (g.M.Store.view c.renew.new.self).holds c.args.party c.args.digest.now t) is
    (c.renew.ensures.renewed (g.met.M.Memory.sure c.renew.new.self) t held.0) in
    let after = with_renewed c.args.party c.args.digest.now t in
    let pushed : c.push.new.self.items ≡ c.args.self.now.steps.items ++ c.in_ok-step.step ∷ [] = c.in-Ok.ensures.items in
    let more = lead_more g.K.Batching.leads c.args.self.now.steps.items c.in_ok-step.step held.1.0 t after held.1.2 (c.in_ok-step.ensures t said.0) in
    let through : LeadThrough g.K.Batching.leads c.push.new.self.items held.1.0 after = rw pushed more in
    (said.0, (said.1, (held.1.0, held.1.1, through)))

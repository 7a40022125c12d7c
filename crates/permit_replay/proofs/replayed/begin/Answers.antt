use Rattle.std.proofs.Common.{◌∙◌, refl, sym, ap}
use Rattle.permit_model.specs.Tables.{Desk}
use Rattle.permit_store.specs.contracts.plain.PlainStoreStore.TheImpl as plain
use Rattle.permit_replay.proofs.Copied.{taken, day_taken}
use Rattle.permit_replay.proofs.replayed.begin.Goals as goal

pub returns-then-get : goal.returns-then-get
returns-then-get c = λ unsaid is.
    day_taken plain.view-value.it c.in-Copy.copy unsaid c.args.day c.in-Ok.desk.last c.args.tables.now (rw c.in-Copy.is at is) c.if-ne.ensures
    (λ one.
    c.if-get.true (c.get.ensures.same ∙ one ∙ sym (ap (λ (d : Desk). d.last) c.desk-in-Copy.view_is) ∙ sym c.get-in-Copy.ensures.same))
    (λ t held. ap (λ (d : Desk). d.last) (c.in-Ok.ensures.found refl t held))

pub returns-else-get : goal.returns-else-get
returns-else-get c = λ unsaid is.
    taken plain.view-value.it c.in-Copy.copy c.desk.new.self unsaid c.args.day c.in-Ok.desk.last c.args.tables.now (rw c.in-Copy.is at is) c.if-ne.ensures
    (sym c.get.ensures.same ∙ c.if-get.false ∙ c.get-in-Copy.ensures.same ∙ ap (λ (d : Desk). d.last) c.desk-in-Copy.view_is)
    (λ t held. ap (λ (d : Desk). d.last) (c.in-Ok.ensures.found refl t held))
    (λ t held. c.in-Ok.ensures.read.kept t held)

use Rattle.std.proofs.Common.{◌≡◌, ap, ◌∙◌, refl}
use Rattle.permit_model.specs.Tables.{State, tables}
use Rattle.permit_office.proofs.facts.facts_on_file.Goals as goal

pub returns-clause-facts : goal.returns-clause-facts
returns-clause-facts g c = λ doubt h file held s o.
    let p : c.parcel.result ≡ file.filing.parcel = c.parcel.ensures ∙ ap (λ (s : State). s.parcel) s in
    let k = c.in_ok-conflict.ensures.found doubt (tables h) held in
    rw (c.relations.ensures.row, c.stage.ensures.row, c.timing.ensures.row, c.is_stopped.ensures, s, o, k, p, ← c.caller.view_is) refl

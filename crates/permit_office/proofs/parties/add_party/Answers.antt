use Rattle.std.proofs.Common.{◌≡◌, ap, ◌∙◌, sym}
use Rattle.permit_base.specs.declared.request.Request.TheVariants.{AddParty}
use Rattle.std.specs.Prelude.{Result, Ok}
use Rattle.permit_base.specs.Actions.{adding_action}
use Rattle.permit_model.specs.Caller.{Party}
use Rattle.permit_model.specs.Facts.{office_facts}
use Rattle.permit_model.specs.Policy.{decision}
use Rattle.permit_office.proofs.Deciding.{denied_outcome, allowed_outcome}
use Rattle.permit_office.proofs.Carrying.{refuses}
use Rattle.permit_office.proofs.parties.add_party.Goals as goal

same_ok : {A E : Type 0} (r : Result A E) (a b : A) → r ≡ Ok a → r ≡ Ok b → a ≡ b
same_ok r a b e f = cc

pub returns-in-Some-clause-model : goal.returns-in-Some-clause-model
returns-in-Some-clause-model g c = λ doubt h is held e t.
    let role = ap (λ (p : Party). p.role) c.caller.view_is in
    let denied = rw (c.office.ensures, role, c.adding.ensures) at (sym c.in-Some.is ∙ c.denial.ensures) in
    let a = c.args in
    rw (denied_outcome a.policy.now h a.day a.caller.now (AddParty a.name.now a.role a.token.now)
    (decision a.policy.now (office_facts a.caller.now.role (adding_action a.role))) c.in-Some.rule denied)
    (refuses _ _ _ _ c.refused.ensures)

pub returns-clause-model : goal.returns-clause-model
returns-clause-model g c = λ doubt h is held e t.
    let role = ap (λ (p : Party). p.role) c.caller.view_is in
    let a = c.args in
    let allowed = rw (c.office.ensures, role, c.adding.ensures) at (sym c.in_default.is ∙ c.denial.ensures) in
    let digest = same_ok c.digest.result _ _ c.in-Ok.is c.digest.ensures in
    let caller : c.caller.inside.id ≡ a.caller.now.id = ap (λ (p : Party). p.id) c.caller.view_is in
    let done = c.make_party.ensures.model doubt h is held a.token.now digest e t in
    rw (allowed_outcome a.policy.now h a.day a.caller.now (AddParty a.name.now a.role a.token.now)
    (decision a.policy.now (office_facts a.caller.now.role (adding_action a.role))) allowed)
    (rw caller at done)

pub returns-clause-sound : goal.returns-clause-sound
returns-clause-sound g c = λ doubt t held sound e may.
    let caller : c.caller.inside.id ≡ c.args.caller.now.id = ap (λ (p : Party). p.id) c.caller.view_is in
    c.make_party.ensures.sound doubt t held sound e (record { there = rw caller may.there; in_time = may.in_time; early = may.early })

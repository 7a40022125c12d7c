use Rattle.std.proofs.Common.{◌≡◌, ◌∙◌, Option, Some, None, IfSome, sym, subst}
use Rattle.permit_model.specs.SoundState.{IsSoundState}
use Rattle.permit_model.specs.Tables.{State}
use Rattle.permit_sql_rows.proofs.Stated.{not_some}
use Rattle.permit_sql_rows.proofs.decode.state_under.Goals as goal

same_as : (o : Option State) (f s : State) → f ≡ s → IfSome o (λ x. x ≡ f) → IfSome o (λ x. x ≡ s)
same_as None f s e h = tt
same_as (Some x) f s e h = h ∙ e

pub returns-clause-read : goal.returns-clause-read
returns-clause-read c = λ upgrade is more named under e. same_as c.restore.result _ is.state (c.in_ok-fields_in.ensures.read upgrade is more named under e) c.restore.ensures.same

pub returns-clause-some : goal.returns-clause-some
returns-clause-some c = λ upgrade is more good named under e. c.restore.ensures.sound.1
    (subst IsSoundState (sym (c.in_ok-fields_in.ensures.read upgrade is more named under e)) good.sound)

pub returns-in_err-fields_in-clause-some : goal.returns-in_err-fields_in-clause-some
returns-in_err-fields_in-clause-some c = λ upgrade is more good named under e. not_some _ c.in_err-fields_in.was
    (c.fields_in.ensures.some is more good.state e)

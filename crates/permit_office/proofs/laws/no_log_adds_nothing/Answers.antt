use Rattle.std.proofs.Common.{refl}
use Rattle.permit_office.proofs.Unlogged.{failed_unlogged, failures_unlogged}
use Rattle.permit_office.proofs.laws.no_log_adds_nothing.Goals as goal

pub returns : goal.returns
returns g c digest asked day old new reply step = (
  failed_unlogged g.S.Store.view _ (λ log. refl) (λ before after noted none. none) (λ before after noted old new done. done.1) digest asked day old new reply
      step,
  failures_unlogged g.S.Store.view _ (λ log. refl) (λ before after noted none. none) (λ before after noted old new done. done.1) digest asked day old new reply
      step,
)

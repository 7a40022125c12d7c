use Rattle.std.proofs.Common.{sym, ◌∙◌}
use Rattle.permit_sockets.proofs.NoneServed.{as_it_was}
use Rattle.permit_sockets.proofs.serving.serve_service.Goals as goal

pub returns-else-any_served-clause-same : goal.returns-else-any_served-clause-same
returns-else-any_served-clause-same g c =
    as_it_was g.M.Service.did _ _ _ _ _ c.in-Ok.doors.items c.in-Ok-run_doors.end.doors.items _ _ _ _ c.in-Ok-run_doors.ensures.history
    (sym c.any_served.ensures ∙ c.if-any_served.false)

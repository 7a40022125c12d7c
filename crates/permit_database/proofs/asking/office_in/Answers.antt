use Rattle.std.proofs.Common.{refl}
use Rattle.permit_database.proofs.Opened.{opens}
use Rattle.permit_database.proofs.asking.office_in.Goals as goal

pub returns-in-Ok-open-clause-opened : goal.returns-in-Ok-open-clause-opened
returns-in-Ok-open-clause-opened g c =
    opens g.S.Store c.args.conn c.in-Ok.store.conn c.in-Ok-open.office.store.conn _ _ _ c.in-Ok.ensures.opened c.in-Ok-open.ensures.opened refl

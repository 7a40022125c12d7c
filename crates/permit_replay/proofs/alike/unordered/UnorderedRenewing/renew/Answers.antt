use Rattle.permit_replay.proofs.Transferred.{renews}
use Rattle.permit_replay.proofs.alike.unordered.UnorderedRenewing.renew.Goals as goal

pub returns-clause-renewed : goal.returns-clause-renewed
returns-clause-renewed g c = λ doubt u h.
    renews (g.S.Store.view c.renew.new.self) c.args.party c.args.digest.now h.0 u h.2 c.renew.result (c.renew.ensures.renewed doubt h.0 h.1)

use Rattle.std.proofs.Common.{◌==◌}
use Rattle.std.specs.Prelude.{◌&&◌}
use Rattle.permit_replay.proofs.Transferred.{notice_alike}
use Rattle.permit_replay.proofs.alike.unordered.UnorderedStore.has_open_notice.Goals as goal

pub returns-clause-found : goal.returns-clause-found
returns-clause-found g c = λ d u h.
    let found = c.has_open_notice.ensures.found d h.0 h.1 in
    rw (notice_alike h.0 u h.2 c.args.file (λ p. p.is_open && (p.number == c.args.number))) at found

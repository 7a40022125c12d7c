use Rattle.std.proofs.Common.{[]}
use Rattle.permit_chronicle.specs.Telling.{no_roles}
use Rattle.permit_chronicle.proofs.More.{has_none, if_some}
use Rattle.permit_chronicle.proofs.telling.tell.Goals as goal

pub returns-in_default-clause-stopped : goal.returns-in_default-clause-stopped
returns-in_default-clause-stopped g c =
    if_some (g.R.Read.remaining c.args.source.now) _ (λ bytes e. ([], bytes, has_none c.args.wanted.now no_roles bytes (g.W.Write.contents c.args.out.now)))

use Rattle.std.proofs.lemmas.Option.{IfSome_then}
use Rattle.permit_history.proofs.PrefixLemmas.{missing_within}
use Rattle.permit_history.proofs.evidence.digest_of_lines.Goals as goal

pub returns-else-evidence-lines : goal.returns-else-evidence-lines
returns-else-evidence-lines g c =
    IfSome_then (g.R.Read.remaining c.args.source.now) c.in_ok-evidence.ensures
    (λ bytes is. missing_within c.args.lines bytes c.in_ok-evidence.evidence is c.if-evidence-lines.false)

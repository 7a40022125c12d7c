use Rattle.std.proofs.Common.{◌∙◌}
use Rattle.permit_base.proofs.words.Word.read.Goals as goal

pub returns-clause-reads : goal.returns-clause-reads
returns-clause-reads g c = λ w h.
    c.first_spelled.ensures.exact ∙ rw (← h) (g.met.Self.Word.is_read w)

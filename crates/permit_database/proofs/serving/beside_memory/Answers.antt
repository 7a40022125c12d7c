use Rattle.std.proofs.Common.{arith, ◌∙◌}
use Rattle.permit_database.proofs.serving.beside_memory.Goals as goal

pub returns-in-Ok-open-clause-loaded : goal.returns-in-Ok-open-clause-loaded
returns-in-Ok-open-clause-loaded g c =
    let read = c.in-Ok-open.ensures.opened in
    record {
      held = λ t h sound. read.kept t (c.in-Ok.ensures.held t h sound);
      one = λ clean. read.one clean tt;
      doubt = omega (arith, c.in-Ok.ensures.doubt, read.doubt);
      counts = (read.failed ∙ c.in-Ok.ensures.failed, read.commits ∙ c.in-Ok.ensures.commits);
    }

pub returns-in-Err-open-clause-back : goal.returns-in-Err-open-clause-back
returns-in-Err-open-clause-back g c =
    let read = c.in-Err-open.ensures.back in (
      record {
        held = λ t h sound. c.into_kept.ensures.held t (read.kept t (c.in-Ok.ensures.held t h sound));
        doubt = omega (arith, c.in-Ok.ensures.doubt, read.doubt, c.into_kept.ensures.doubt);
      },
      c.in-Err-open.ensures.log_kept,
    )

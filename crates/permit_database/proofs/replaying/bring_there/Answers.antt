use Rattle.std.proofs.Common.{inl}
use Rattle.permit_database.proofs.replaying.bring_there.Goals as goal

pub returns-in-Ok-clause-brings : goal.returns-in-Ok-clause-brings
returns-in-Ok-clause-brings g c = λ bytes first second clean.
    let it = c.bring_over.ensures.brings bytes first second clean in
    record {
      brought = λ t keeps. it.brought t (c.in-Ok.ensures.opened.held t (λ _. keeps));
      differs = λ t keeps. it.differs t (c.in-Ok.ensures.opened.held t (λ _. keeps));
      left = λ t keeps. it.left t (c.in-Ok.ensures.opened.held t (λ _. keeps));
    }

pub returns-in-Err-clause-brings : goal.returns-in-Err-clause-brings
returns-in-Err-clause-brings g c = λ bytes first second clean. record {
  brought = λ t keeps sound. tt;
  differs = λ t keeps sound is. absurd cc;
  left = λ t keeps sound. inl (λ opened. c.in-Err.ensures.refused.kept t keeps (clean, opened));
}

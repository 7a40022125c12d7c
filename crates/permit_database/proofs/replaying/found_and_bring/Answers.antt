use Rattle.std.proofs.Common.{inl, inr}
use Rattle.permit_database.proofs.Failures.{on_err}
use Rattle.permit_database.specs.Founding.{tables_founded}
use Rattle.permit_database.proofs.replaying.found_and_bring.Goals as goal

pub returns-in-Ok-clause-brings : goal.returns-in-Ok-clause-brings
returns-in-Ok-clause-brings g c = λ bytes first second clean.
    let it = c.bring_over.ensures.brings bytes first second clean in
    let founded = tables_founded c.args.founder.now in
    record {
      brought = it.brought founded c.in-Ok.ensures.founds.founded c.in-Ok.ensures.sound;
      left = on_err _ inr (it.left founded c.in-Ok.ensures.founds.founded c.in-Ok.ensures.sound);
    }

pub returns-in-Err-clause-brings : goal.returns-in-Err-clause-brings
returns-in-Err-clause-brings g c = λ bytes first second clean. record { brought = tt; left = inl c.in-Err.ensures.refuses.same }

use Rattle.std.proofs.Common.{inl, inr, ap, ◌∙◌}
use Rattle.permit_database.proofs.Doings.{says_nothing_of}
use Rattle.permit_database.proofs.Failures.{if_err}
use Rattle.permit_database.proofs.asking.ask_alone.Goals as goal

pub returns-in-Ok-clause-asked : goal.returns-in-Ok-clause-asked
returns-in-Ok-clause-asked g c =
    let asked = c.ask_once-store.ensures.asked in
    inl record {
      office = c.in-Ok.office;
      left = asked.0;
      opens_so = c.in-Ok.ensures.opened;
      policy_is = c.in-Ok.ensures.policy;
      answered = asked.1;
      leaves_so = c.into_connection.ensures.conn ∙ ap (λ s. s.conn) asked.2;
    }

pub returns-in-Ok-clause-fails : goal.returns-in-Ok-clause-fails
returns-in-Ok-clause-fails g c = if_err c.ask_once-store.result.2 (λ why. inr) c.ask_once-store.ensures.fails

pub returns-in-Err-clause-says : goal.returns-in-Err-clause-says
returns-in-Err-clause-says g c = says_nothing_of c.args.question (g.E.Write.contents c.args.err.now)

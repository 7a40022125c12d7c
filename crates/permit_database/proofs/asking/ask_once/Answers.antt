use Rattle.permit_database.proofs.Doings.{fails_of, says_of, told_of}
use Rattle.permit_database.proofs.asking.ask_once.Goals as goal

pub returns : goal.returns
returns g c =
    let done = c.ask_of-done in
    record {
      asked = (done.new.office, done.ensures, c.into_parts-store.ensures.store, c.into_parts-store.ensures.log);
      told = told_of _ _ _ _ _ _ _ _ _ _ _ _ done.ensures;
      fails = fails_of _ _ _ _ _ _ _ _ _ _ _ _ done.ensures;
      says = says_of _ _ _ _ _ _ _ _ _ _ _ _ done.ensures;
    }

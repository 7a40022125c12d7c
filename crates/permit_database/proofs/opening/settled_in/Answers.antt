use Rattle.std.proofs.Common.{◌≡◌, inl, refl}
use Rattle.permit_database.proofs.Failures.{store_alone, unfounded}
use Rattle.permit_database.proofs.Opened.{none_kept}
use Rattle.permit_database.proofs.opening.settled_in.Goals as goal

pub returns-in-Ok-settle_from-clause-settled : goal.returns-in-Ok-settle_from-clause-settled
returns-in-Ok-settle_from-clause-settled g c =
    c.in-Ok-settle_from.ensures.settled c.args.conn c.args.history.file c.found_first.ensures.read c.in-Ok.ensures.base

pub returns-in-Err-settle_from-clause-left : goal.returns-in-Err-settle_from-clause-left
returns-in-Err-settle_from-clause-left g c =
    c.in-Err-settle_from.ensures.left c.args.conn c.args.history.file c.found_first.ensures.read c.in-Ok.ensures.base

pub returns-in-Err-clause-left : goal.returns-in-Err-clause-left
returns-in-Err-clause-left g c =
    let said = c.in-Err.ensures in
    let read = c.found_first.ensures.read in
    record {
      from = c.args.conn;
      base = inl refl;
      on_the_way = λ clean told t keeps sound. absurd (none_kept _ t said.empty keeps);
      kept = λ before clean t keeps sound. absurd (none_kept _ t said.empty keeps);
      differs = λ is clean told t keeps sound. absurd (none_kept _ t said.empty keeps);
      refused = λ reason is other. absurd (other (store_alone c.in-Err.why reason said.fails is));
      unsound = λ none fine. said.same fine;
      part = λ told. inl read.text;
      crash = λ told c' may. inl (read.leaves c' may);
    }

pub returns-in-Err-clause-fails : goal.returns-in-Err-clause-fails
returns-in-Err-clause-fails g c = unfounded c.in-Err.why c.in-Err.ensures.fails

use Rattle.std.proofs.Common.{◌≡◌, inl, refl, subst}
use Rattle.permit_database.proofs.Failures.{unusable}
use Rattle.permit_database.specs.Opening.{Refuses}
use Rattle.permit_database.proofs.opening.settle_from.Goals as goal

pub returns-in-Ok-clause-settled : goal.returns-in-Ok-clause-settled
returns-in-Ok-clause-settled g c = λ conn file read base. c.settle_over.ensures.settled conn c.args.from file read base c.in-Ok.ensures.opened

pub returns-in-Ok-clause-left : goal.returns-in-Ok-clause-left
returns-in-Ok-clause-left g c = λ conn file read base. c.settle_over.ensures.left conn c.args.from file read base c.in-Ok.ensures.opened

pub returns-in-Err-clause-left : goal.returns-in-Err-clause-left
returns-in-Err-clause-left g c = λ conn file read base.
    let refuses = c.in-Err.ensures.refused in
    record {
      from = c.args.from;
      base = base;
      on_the_way = λ clean told t keeps sound. inl (λ opened. refuses.kept t keeps (clean, opened));
      kept = λ before. absurd cc;
      differs = λ is. absurd cc;
      refused = λ reason is other. let same : c.in-Err.why ≡ reason = cc in
          subst (λ why. Refuses g.S.Store c.args.from c.in-Err.conn why) same refuses;
      unsound = refuses.unsound;
      part = λ told. inl read.text;
      crash = λ told c' may. inl (read.leaves c' may);
    }

pub returns-in-Err-clause-fails : goal.returns-in-Err-clause-fails
returns-in-Err-clause-fails g c = inl (unusable c.in-Err.why c.in-Err.ensures.refused.refusal)

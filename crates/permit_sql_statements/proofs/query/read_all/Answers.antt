use Rattle.std.proofs.Common.{not, Result, Ok, Err, IfOk, IfErr, OnOk, ap, ◌∙◌, arith}
use Rattle.sqlite.specs.Values.{bound}
use Rattle.sqlite.specs.Held.{state}
use Rattle.sqlite.proofs.StateLemmas.{survives_weaker}
use Rattle.sqlite.proofs.Callers.{never_commits}
use Rattle.permit_sql_statements.proofs.KeptLemmas.{shown_open, shown_still, shown_same, failed_open, failed_same}
use Rattle.permit_sql_statements.proofs.query.read_all.Goals as goal

either : {A E R : Type 0} {P : A → Type 0} {Q : E → Type 0} (r : Result A E) → IfOk r P → IfErr r Q → ((x : A) → P x → R) → ((e : E) → Q e → R) → R
either (Ok x) p q f g = f x p
either (Err e) p q f g = g e q

ok_only : {A E R : Type 0} {P : A → Type 0} (r : Result A E) → IfOk r P → ((x : A) → P x → R) → OnOk r R
ok_only (Ok x) p f = f x p
ok_only (Err e) p f = tt

pub returns-clause-query : goal.returns-clause-query
returns-clause-query g c =
    let sql = c.args.sql.now in
    let params = bound c.args.params.now in
    let old = state g.S.Store c.args.conn.now in
    let new = state g.S.Store c.query_all.new.self in
    let it = c.query_all.ensures in
    record {
      idle = it.mode c.requires;
      fine = λ good. (
        omega (arith, good.0, it.survives.clean),
        either c.query_all.result (it.ok good.0) (it.err good.0)
            (λ rows h. shown_open sql params old new rows.items h) (λ e h. failed_open sql params old new e good.1 h),
      );
      same = λ good plain.
          let settled = c.is_autocommit-settled.ensures.settled (c.is_autocommit-settled.ensures.value ∙ ap not c.requires) in
          either c.query_all.result (it.ok good.0) (it.err good.0)
          (λ rows h. shown_same sql params old new rows.items plain h)
          (λ e h. failed_same sql params old new e plain settled good.1 h);
      opened = λ clean. ok_only c.query_all.result (it.ok clean) (λ rows h. shown_still sql params old new rows.items h);
      doubt = it.survives.clean;
      crash = λ plain. survives_weaker old new _ _ (λ clean db. never_commits sql params old db (plain clean)) it.survives;
    }

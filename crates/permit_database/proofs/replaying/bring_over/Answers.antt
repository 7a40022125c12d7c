use Rattle.std.proofs.Common.{◌≡◌, ◌∙◌, ap, sym, subst, Err}
use Rattle.sqlite.specs.Held.{Held, state}
use Rattle.permit_sql_rows.specs.Kept.{Shows}
use Rattle.permit_database.proofs.Brought.{brought_back, clean_there, way_back}
use Rattle.permit_database.proofs.Failures.{bringing_told, differs_alone}
use Rattle.permit_subcommands.specs.declared.failure.Failure.TheVariants as failure
use Rattle.permit_subcommands.specs.declared.failure.HistoryFailure.TheVariants as history
use Rattle.permit_database.proofs.replaying.bring_over.Goals as goal

pub returns-in-Ok-clause-brings : goal.returns-in-Ok-clause-brings
returns-in-Ok-clause-brings g c = λ bytes first second clean.
    let after = c.bring-brought.new.store.store in
    let back = c.into_connection-conn.result in
    let same = c.into_connection-conn.ensures.conn in
    let there = clean_there g.S.Store after.conn back after.upgrade after.handed after.failed after.commits same clean in
    record {
      brought = λ t held sound. brought_back g.S.Store after.conn back after.upgrade after.handed after.failed after.commits same clean _ bytes t c.in-Ok.brought
          (c.in-Ok.ensures.brought bytes first second there t held sound);
      differs = λ t held sound is. absurd cc;
      left = λ t held sound. tt;
    }

pub returns-in-Err-clause-brings : goal.returns-in-Err-clause-brings
returns-in-Err-clause-brings g c = λ bytes first second clean.
    let after = c.bring-brought.new.store.store in
    let back = c.into_connection-conn.result in
    let same = c.into_connection-conn.ensures.conn in
    let there = clean_there g.S.Store after.conn back after.upgrade after.handed after.failed after.commits same clean in
    record {
      brought = λ t held sound. tt;
      differs = λ t held sound is.
          let told : c.of_bringing.result ≡ failure.History history.Differs = cc in
          let fault = differs_alone c.in-Err.fault (sym c.of_bringing.ensures ∙ told) in
          let said = c.in-Err.ensures.differs bytes first there t held sound (ap Err fault) in
          (said.0, subst (λ (h : Held _). Shows t (state g.S.Store h)) (sym same) (said.1 there).1);
      left = λ t held sound. way_back g.S.Store after.conn back after.upgrade after.handed after.failed after.commits same clean _ bytes t
          (c.in-Err.ensures.left bytes first second there t held sound);
    }

pub returns-in-Err-clause-fails : goal.returns-in-Err-clause-fails
returns-in-Err-clause-fails g c = bringing_told c.in-Err.fault _ c.of_bringing.ensures

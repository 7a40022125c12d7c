use Rattle.std.proofs.Common.{not, sym, subst, ap, ◌∙◌}
use Rattle.sqlite.specs.State.{HasCleanDisk}
use Rattle.sqlite.specs.Held.{state}
use Rattle.permit_sql_rows.specs.Kept.{Shows}
use Rattle.permit_sql.proofs.reopen.settled.Goals as goal

pub returns : goal.returns
returns g c t held clean is_open =
    let kept = subst (λ h. HasCleanDisk (state g.S.Store h) → Shows t (state g.S.Store h)) (sym c.into_connection-conn.ensures.conn) held in
    record {
      kept = kept clean is_open;
      live = (c.schema-schema.ensures.live is_open).0;
      same = c.is_autocommit-settled.ensures.settled (c.is_autocommit-settled.ensures.value
          ∙ ap not c.into_connection-conn.ensures.idle) is_open;
    }

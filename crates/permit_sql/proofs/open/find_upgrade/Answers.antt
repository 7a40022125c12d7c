use Rattle.std.proofs.Common.{Option, Some, sym, ap, subst, ◌∙◌, arith}
use Rattle.sqlite.specs.Held.{state}
use Rattle.permit_base.specs.declared.words.Edition.TheVariants.{Second}
use Rattle.permit_sql_rows.specs.Schema.{IsOffice}
use Rattle.permit_sql.proofs.Upgrades.{upgrade_found, kept_upgrade, under_second}
use Rattle.permit_sql.proofs.open.find_upgrade.Goals as goal

pub returns-in-Some-clause-good : goal.returns-in-Some-clause-good
returns-in-Some-clause-good g c fine =
    let was = c.upgrade_seen.ensures.look.left fine in
    let office = subst (IsOffice Second) c.schema.ensures.value (c.is_office.ensures.told.0 c.if-not-is_office.false) in
    let shown = c.in-Some.ensures.back in
    record {
      told = c.in-Second.is;
      within = c.in-Some.ensures.within;
      here = upgrade_found (state g.S.Store c.args.conn.now).now c.in_ok-rows-in-Second.rows.items shown.0 c.in-Some.count office
          (c.schema.ensures.live was.0.1).0 (c.in_ok-rows-in-Second.ensures.rows fine.0) (sym c.as_slice.ensures.value ∙ shown.1) shown.2;
    }

pub returns-in-Some-clause-kept : goal.returns-in-Some-clause-kept
returns-in-Some-clause-kept g c fine t typed k files =
    let db = (state g.S.Store c.args.conn.now).now in
    let it = under_second c.args.edition t db c.in-Second.is k in
    let rows = kept_upgrade _ c.in_ok-rows-in-Second.rows.items it.files it.here (c.in_ok-rows-in-Second.ensures.rows fine.0) in
    let found = c.only_upgrade.ensures.some it.files (let low = it.within in omega (arith, low, files)) (c.as_slice.ensures.value ∙ rows) in
    ap (λ (o : Option _). Some o) (sym c.in-Some.is ∙ found ∙ sym it.upgrade)

pub returns-clause-kept : goal.returns-clause-kept
returns-clause-kept g c fine t typed k files =
    let db = (state g.S.Store c.args.conn.now).now in
    let it = under_second c.args.edition t db c.in-Second.is k in
    let rows = kept_upgrade _ c.in_ok-rows-in-Second.rows.items it.files it.here (c.in_ok-rows-in-Second.ensures.rows fine.0) in
    let found = c.only_upgrade.ensures.some it.files (let low = it.within in omega (arith, low, files)) (c.as_slice.ensures.value ∙ rows) in
    absurd (let e = sym c.in-None.is ∙ found in cc)

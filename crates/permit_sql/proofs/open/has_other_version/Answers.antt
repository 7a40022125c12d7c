use Rattle.std.proofs.Common.{◌≡◌, ap, ◌∙◌, arith, ◌<◌, ◌≤◌, List, length, get_or, subst}
use Rattle.sqlite_value.specs.Order.{Row}
use Rattle.sqlite.specs.Held.{state}
use Rattle.permit_sql.proofs.Version.{other_version, told_rows, told_other}
use Rattle.permit_sql.proofs.open.has_other_version.Goals as goal
use Rattle.permit_sql.proofs.open.has_other_version.Goals.{in_default, in_default-2}

pub returns-in-len1-clause-other : goal.returns-in-len1-clause-other
returns-in-len1-clause-other g c clean said =
    let row = c.row-item.result in
    let is = c.as_slice.ensures.value in
    other_version c.args.edition (state g.S.Store c.args.conn.now).now c.in_ok-rows.rows.items row row c.requires.desk (c.in_ok-rows.ensures.rows clean)
    (subst (λ (l : List Row). 1 ≤ length l) is c.in-len1.len_at_least) (subst (λ (l : List Row). length l < 2) is c.in-len1.len_below)
    (subst (λ (l : List Row). row ≡ get_or l 0 row) is c.row-item.is) (c.is_other.ensures.other said)

pub returns-in-len1-clause-told : goal.returns-in-len1-clause-told
returns-in-len1-clause-told g c clean has =
    let row = c.row-item.result in
    c.is_other.ensures.told (told_other c.args.edition (state g.S.Store c.args.conn.now).now c.in_ok-rows.rows.items row row has (c.in_ok-rows.ensures.rows clean)
    (subst (λ (l : List Row). row ≡ get_or l 0 row) c.as_slice.ensures.value c.row-item.is))

pub returns-clause-told : goal.returns-clause-told
returns-clause-told g c clean has =
    let long : length c.as_slice.result.now ≡ 1 = ap length (c.as_slice.ensures.value
    ∙ told_rows c.args.edition (state g.S.Store c.args.conn.now).now c.in_ok-rows.rows.items has (c.in_ok-rows.ensures.rows clean)) in
    absurd (elim c.if-as_slice-lt1.branch [ in_default w ↦ omega (arith, long) | in_default-2 w ↦ omega (arith, long) ])

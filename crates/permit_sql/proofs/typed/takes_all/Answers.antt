use Rattle.std.proofs.Common.{Bool, true, false, IsTrue, [], sym, subst, true≢false}
use Rattle.permit_sql_rows.specs.Schema.{IsOffice}
use Rattle.permit_sql.specs.Taken.{TookRows}
use Rattle.permit_sql.specs.Found.{TookTable}
use Rattle.permit_sql.proofs.typed.takes_all.Goals as goal

pub each_row-requires-clause-plain : goal.each_row-requires-clause-plain
each_row-requires-clause-plain g c =
    c.requires.plain _ (subst (IsOffice c.args.edition) c.schema.ensures.value (c.is_office.ensures.told.0 c.if-not-is_office.false))

pub returns-in-Ok-clause-all : goal.returns-in-Ok-clause-all
returns-in-Ok-clause-all g c clean said = (
  subst (IsOffice c.args.edition) c.schema.ensures.value (c.is_office.ensures.told.0 c.if-not-is_office.false),
  go c.in-Ok.all (c.in-Ok.ensures.ok clean) said,
)
  where
    go : (all : Bool) → TookRows g.T.Taker.took g.S.Store c.args.sql.now [] c.args.conn.now c.each_row.new.conn c.args.taker.now c.each_row.new.taker all →
        IsTrue all
        → TookTable g.T.Taker.took g.S.Store c.args.sql.now c.args.conn.now c.each_row.new.conn c.args.taker.now c.each_row.new.taker
    go true h is = (h.0, h.1, h.2.0.now_is, (c.schema.ensures.live h.2.0.was_open).0, h.3, h.4)
    go false h is = absurd (true≢false (sym is))

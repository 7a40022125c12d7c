use Rattle.permit_sql_statements.proofs.Writing.{writes_two}
use Rattle.permit_sql_statements.proofs.commit.write_row.Goals as goal

pub returns-in-None : goal.returns-in-None
returns-in-None c = rw c.in-None.is (rw (c.row_values-fields.ensures, c.fields_of-now.ensures.same) at c.in_ok-add.ensures)

pub returns-in-Paper : goal.returns-in-Paper
returns-in-Paper c =
    rw c.in-Paper.is (writes_two _ _ c.args.step.now c.add.new.self c.add-in-Paper.new.self _
    (rw (c.row_values-fields.ensures, c.fields_of-now.ensures.same) at c.in_ok-add.ensures)
    (rw (c.paper_values-added.ensures, c.fields_of-now.ensures.same) at c.add-in-Paper.ensures))

pub returns-in-NoticeClosed : goal.returns-in-NoticeClosed
returns-in-NoticeClosed c =
    rw c.in-NoticeClosed.is (writes_two _ _ c.args.step.now c.add.new.self c.add-in-NoticeClosed.new.self _
    (rw (c.row_values-fields.ensures, c.fields_of-now.ensures.same) at c.in_ok-add.ensures)
    (rw (c.pair_values-pair.ensures, c.get.ensures.same, c.get-in-NoticeClosed.ensures.same) at c.add-in-NoticeClosed.ensures))

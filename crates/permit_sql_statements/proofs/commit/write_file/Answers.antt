use Rattle.permit_sql_statements.proofs.commit.write_file.Goals as goal

pub returns : goal.returns
returns c = rw (c.file_values-file.ensures, c.fields_of.ensures.same) at c.add.ensures

use Rattle.permit_sql_statements.proofs.commit.write_change.Goals as goal

pub returns-in-NewFile : goal.returns-in-NewFile
returns-in-NewFile c = rw c.in-NewFile.is c.write_file.ensures

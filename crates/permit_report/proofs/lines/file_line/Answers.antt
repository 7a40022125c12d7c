use Rattle.permit_report.proofs.lines.file_line.Goals as goal

pub returns-in-Files : goal.returns-in-Files
returns-in-Files c = rw c.in-Files.is (c.files_line.ensures c.args.day)

pub returns-in-Inspections : goal.returns-in-Inspections
returns-in-Inspections c = rw c.in-Inspections.is (c.inspections_line.ensures c.args.day)

use Rattle.permit_journal.proofs.Behind.{crash_behind, torn_behind, written_behind}
use Rattle.permit_journal.proofs.disk_file.DiskFileHistoryFile.append.Goals as goal

pub returns-in-Err-clause-part : goal.returns-in-Err-clause-part
returns-in-Err-clause-part g c there =
    torn_behind c.args.bytes.now _ _ c.in-Some.end (there c.in-Some.end c.in-Some.is) c.write_at.ensures.others

pub returns-in-Err-clause-crash : goal.returns-in-Err-clause-crash
returns-in-Err-clause-crash g c there only =
    crash_behind c.args.bytes.now _ c.in-Some.end _ _ (there c.in-Some.end c.in-Some.is) only c.write_at.ensures.crash

pub returns-in-Ok-clause-written : goal.returns-in-Ok-clause-written
returns-in-Ok-clause-written g c there =
    written_behind c.args.bytes.now _ _ c.in-Some.end (there c.in-Some.end c.in-Some.is) c.write_at.ensures.others c.in-Ok.ensures.written

pub returns-in-Ok-clause-crash : goal.returns-in-Ok-clause-crash
returns-in-Ok-clause-crash g c there only =
    crash_behind c.args.bytes.now _ c.in-Some.end _ _ (there c.in-Some.end c.in-Some.is) only c.write_at.ensures.crash

use Rattle.permit_journal.proofs.Behind.{crash_cut, cut_behind, cut_there}
use Rattle.permit_journal.proofs.disk_file.DiskFileHistoryFile.cut.Goals as goal

pub returns-in-Err-clause-part : goal.returns-in-Err-clause-part
returns-in-Err-clause-part g c base bytes is grown = cut_behind bytes base _ _ c.args.to is grown c.set_len.ensures.others

pub returns-in-Err-clause-crash : goal.returns-in-Err-clause-crash
returns-in-Err-clause-crash g c base bytes is before = crash_cut bytes base c.args.to _ _ is before c.set_len.ensures.crash

pub returns-in-Ok-clause-cut : goal.returns-in-Ok-clause-cut
returns-in-Ok-clause-cut g c inside = cut_there _ _ c.args.to inside c.set_len.ensures.others c.in-Ok.ensures.len

pub returns-in-Ok-clause-part : goal.returns-in-Ok-clause-part
returns-in-Ok-clause-part g c base bytes is grown = cut_behind bytes base _ _ c.args.to is grown c.set_len.ensures.others

pub returns-in-Ok-clause-crash : goal.returns-in-Ok-clause-crash
returns-in-Ok-clause-crash g c base bytes is before = crash_cut bytes base c.args.to _ _ is before c.set_len.ensures.crash

use Rattle.std.proofs.Common.{take}
use Rattle.permit_core.specs.Taking.{TookAll}
use Rattle.permit_report.specs.Taken.{TakesFile}
use Rattle.permit_report.proofs.writer.register.Given as goal

abbrev pub invariant-loop-file : goal.invariant-loop-file
invariant-loop-file g l = TookAll (TakesFile g.W.Write.contents) (take l.file-index l.files) l.initial.writer l.writer

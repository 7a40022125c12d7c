use Rattle.std.proofs.Common.{◌∙◌, refl}
use Rattle.permit_journal.specs.Files.{IsFront}
use Rattle.permit_journal.proofs.Growing.{cut_exactly, nothing}
use Rattle.permit_history_tests.proofs.recorded.memory.MemoryFileHistoryFile.cut.Goals as goal

pub returns-clause-crash : goal.returns-clause-crash
returns-clause-crash c base bytes len before left there =
    nothing IsFront bytes base left (bytes, refl)
    (there ∙ cut_exactly IsFront bytes base c.args.self.now.bytes.items c.truncate.new.self.items c.args.to len (before c.args.self.now.bytes.items refl) c.truncate.ensures.items)

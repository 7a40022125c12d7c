use Rattle.std.proofs.Common.{◌++◌, take}
use Rattle.std.specs.List.{flat_map}
use Rattle.permit_replay.specs.Adding.{Adds}
use Rattle.permit_replay.specs.TablesText.{file_line, paper_line}
use Rattle.permit_replay.proofs.seal.rows.put_file_with_papers.Given as goal

abbrev pub invariant-loop-paper : goal.invariant-loop-paper
invariant-loop-paper l = Adds (file_line l.file ++ flat_map paper_line (take l.paper-index l.papers)) l.fn.hash l.hash

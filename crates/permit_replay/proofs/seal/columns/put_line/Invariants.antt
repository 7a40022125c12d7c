use Rattle.std.proofs.Common.{◌++◌, map, take}
use Rattle.permit_replay.specs.Adding.{Adds, column_text}
use Rattle.permit_replay.specs.TablesText.{columns}
use Rattle.permit_replay.proofs.seal.columns.put_line.Given as goal

abbrev pub invariant-loop-column : goal.invariant-loop-column
invariant-loop-column l = Adds (l.word ++ columns (map column_text (take l.column-index l.columns))) l.fn.hash l.hash

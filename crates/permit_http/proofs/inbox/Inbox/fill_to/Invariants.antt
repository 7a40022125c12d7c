use Rattle.std.proofs.Common.{◌-◌, ◌<◌, length}
use Rattle.permit_http.specs.Needed.{ReadsWhile}
use Rattle.permit_http.specs.Stream.{Filled}
use Rattle.permit_http.proofs.inbox.Inbox.fill_to.Given as goal

abbrev pub invariant-loop-n : goal.invariant-loop-n
invariant-loop-n g l = record {
  filled : Filled l.initial.self l.self (g.R.Read.remaining l.initial.reader) (g.R.Read.remaining l.reader);
  needed : ReadsWhile (λ bytes. length bytes < l.n) g.R.Source.gave l.initial.self.bytes l.initial.reader l.self.bytes l.reader;
}

abbrev pub decreases-loop-n : goal.decreases-loop-n
decreases-loop-n g l = 24576 - length l.self.bytes

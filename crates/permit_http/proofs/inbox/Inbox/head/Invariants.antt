use Rattle.std.proofs.Common.{◌≡◌, ◌-◌, length}
use Rattle.permit_http.specs.Head.{IsOpen}
use Rattle.permit_http.specs.Needed.{IsWaiting, ReadsWhile}
use Rattle.permit_http.specs.Stream.{Filled}
use Rattle.permit_http.proofs.inbox.Inbox.head.Given as goal

abbrev pub invariant-loop-spans : goal.invariant-loop-spans
invariant-loop-spans g l = record {
  filled : Filled l.initial.self l.self (g.R.Read.remaining l.initial.reader) (g.R.Read.remaining l.reader);
  there : (IsOpen l.initial.self.bytes → ⊥) → (l.self ≡ l.initial.self) × (l.reader ≡ l.initial.reader);
  needed : ReadsWhile IsWaiting g.R.Source.gave l.initial.self.bytes l.initial.reader l.self.bytes l.reader;
}

abbrev pub decreases-loop-spans : goal.decreases-loop-spans
decreases-loop-spans g l = 24576 - length l.self.bytes

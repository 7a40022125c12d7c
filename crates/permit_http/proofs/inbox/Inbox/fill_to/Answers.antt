use Rattle.std.proofs.Common.{arith, ap, ◌<◌, length}
use Rattle.permit_http.proofs.Filling.{filled_none, filled_on}
use Rattle.permit_http.proofs.ReadsMade.{reads_none, reads_more}
use Rattle.permit_http.proofs.inbox.Inbox.fill_to.Goals as goal

pub loop-n-init : goal.loop-n-init
loop-n-init g c = record { filled = filled_none _ _; needed = reads_none _ _ _ _ }

pub loop-n-preserved : goal.loop-n-preserved
loop-n-preserved g c =
    let short : length c.loop-n.self.bytes < c.args.n = omega (arith, ap length c.as_slice.ensures, c.if-n-as_slice.false) in
    record {
      filled = filled_on _ _ _ _ _ _ c.loop-n.invariant.filled c.fill.ensures.filled;
      needed = reads_more _ _ _ _ _ _ _ _ _ c.loop-n.invariant.needed short c.fill.ensures.once.2 c.fill.ensures.once.1;
    }

pub returns-in_err-fill-clause-needed : goal.returns-in_err-fill-clause-needed
returns-in_err-fill-clause-needed g c =
    let short : length c.loop-n.self.bytes < c.args.n = omega (arith, ap length c.as_slice.ensures, c.if-n-as_slice.false) in
    reads_more _ _ _ _ _ _ _ _ _ c.loop-n.invariant.needed short c.fill.ensures.once.2 c.fill.ensures.once.1

pub returns-then-branch-eq0-clause-needed : goal.returns-then-branch-eq0-clause-needed
returns-then-branch-eq0-clause-needed g c =
    let short : length c.loop-n.self.bytes < c.args.n = omega (arith, ap length c.as_slice.ensures, c.if-n-as_slice.false) in
    reads_more _ _ _ _ _ _ _ _ _ c.loop-n.invariant.needed short c.fill.ensures.once.2 c.fill.ensures.once.1

use Rattle.std.proofs.Common.{◌≡◌, ◌∙◌, ◌+◌, ◌<◌, ap, sym, true, Some, length, get_or, take, eq-eqb, eqb-true, arith}
use Rattle.permit_history.specs.Evidence.{ends_line, lines_of}
use Rattle.permit_history.proofs.PrefixLemmas.{counted_no, counted_yes}
use Rattle.permit_history.proofs.evidence.lines_in.Goals.{then-byte-eq10+then-lines-most, else-byte-eq10, else-byte-eq10-via-then-byte-eq10+else-lines-most, else-byte-eq10-via-else-byte-eq10}
use Rattle.permit_history.proofs.evidence.lines_in.Goals as goal

pub loop-i-preserved : goal.loop-i-preserved
loop-i-preserved c =
    let piece = c.args.piece.now in
    let before = c.loop-i.invariant in
    let less : c.loop-i.i < length piece = omega arith in
    elim c.if-byte-eq10.branch [
      | then-byte-eq10+then-lines-most w ↦
          let more = counted_yes c.args.most c.loop-i.lines c.loop-i.i piece less before.count (eq-eqb _ 10 w.if-byte-eq10.true) w.if-lines-most.true in record {
            count = w.lines-is ∙ more.0;
            lines = ap (λ n. lines_of n (take (c.loop-i.i + 1) piece)) w.lines-is ∙ more.1 ∙ ap (λ e. Some (take e piece)) (sym w.end-is);
            within = omega (arith, w.end-is);
          }
      | else-byte-eq10 w ↦
          let other : ends_line (get_or piece c.loop-i.i 0) ≡ true → c.loop-i.lines < c.args.most → ⊥ = elim w.else-byte-eq10.branch [
            | else-byte-eq10-via-then-byte-eq10+else-lines-most w' ↦ λ ends room. absurd (omega (arith, w'.if-lines-most.false, room))
            | else-byte-eq10-via-else-byte-eq10 w' ↦ λ ends room. w'.if-byte-eq10.false (eqb-true _ 10 ends)
          ] in
          let more = counted_no c.args.most c.loop-i.lines c.loop-i.i piece less before.count (take c.loop-i.end piece) other before.lines in record {
            count = w.lines-is ∙ more.0;
            lines = ap (λ n. lines_of n (take (c.loop-i.i + 1) piece)) w.lines-is ∙ more.1 ∙ ap (λ e. Some (take e piece)) (sym w.end-is);
            within = omega (arith, w.end-is, before.within);
          }
    ]

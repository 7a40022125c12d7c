use Rattle.std.proofs.Common.{◌≡◌, ap, sym, subst, ◌∙◌, ◌+◌, ◌<◌, [], ◌∷◌, ◌++◌, length, get_or, take, eq-eqb, append_assoc, length-append, take_all, arith}
use Rattle.std.proofs.lemmas.Bool.{ne_eqb}
use Rattle.std.proofs.lemmas.List.{length-take-le, take_more}
use Rattle.permit_history.specs.LineEnds.{EndAt}
use Rattle.permit_history.proofs.LineEndLemmas.{added_no, added_yes}
use Rattle.permit_history.proofs.settled.LineEnds.with.Goals.{then-byte-eq10, else-byte-eq10}
use Rattle.permit_history.proofs.settled.LineEnds.with.Goals as goal

pub loop-i-preserved : goal.loop-i-preserved
loop-i-preserved c = λ bytes is.
    let piece = c.args.piece.now in
    let i = c.loop-i.i in
    let less : i < length piece = c.loop-i-test.true in
    let before = c.loop-i.invariant bytes is in
    let read = bytes ++ take i piece in
    let byte = get_or piece i 0 in
    let next : read ++ byte ∷ [] ≡ bytes ++ take (i + 1) piece =
    append_assoc bytes (take i piece) (byte ∷ []) ∙ ap (λ l. bytes ++ l) (sym (take_more piece i 0 less)) in
    subst (λ l. EndAt l c.if-byte-eq10.last c.if-byte-eq10.settled) next (elim c.if-byte-eq10.branch [
      | then-byte-eq10 w ↦
          let at : length read + 1 ≡ c.if-byte-eq10.last =
          omega (arith, w.last-is, is.read, length-append bytes (take i piece), length-take-le i piece (omega arith)) in
          subst (λ n. EndAt (read ++ byte ∷ []) n c.if-byte-eq10.settled) at
          (subst (λ n. EndAt (read ++ byte ∷ []) (length read + 1) n) (sym w.settled-is)
          (added_yes read byte c.loop-i.last c.loop-i.settled before (eq-eqb byte 10 w.if-byte-eq10.true)))
      | else-byte-eq10 w ↦
          subst (λ n. EndAt (read ++ byte ∷ []) n c.if-byte-eq10.settled) (sym w.last-is)
          (subst (λ n. EndAt (read ++ byte ∷ []) c.loop-i.last n) (sym w.settled-is)
          (added_no read byte c.loop-i.last c.loop-i.settled before (ne_eqb byte 10 w.if-byte-eq10.false)))
    ])

pub returns : goal.returns
returns c = λ bytes is.
    let piece = c.args.piece.now in
    let whole : take c.loop-i.i piece ≡ piece = take_all c.loop-i.i piece (omega (arith, c.loop-i-test.false)) in record {
      read = omega (arith, c.in_ok-read.ensures, is.read, length-append bytes piece);
      lines = subst (λ l. EndAt (bytes ++ l) c.loop-i.last c.loop-i.settled) whole (c.loop-i.invariant bytes is);
    }

use Rattle.std.proofs.Common.{◌≡◌, ◌∙◌, ◌-◌, ◌++◌, ap, sym, subst, min, take, drop, length, append_assoc, length-drop, take_all, take-append-drop, arith}
use Rattle.sha2.specs.Hashers.{Holds256}
use Rattle.sha2.specs.declared.Sha256.{Sha256}
use Rattle.permit_history.specs.Evidence.{line_count}
use Rattle.permit_history.specs.declared.evidence.Prefix.{Prefix}
use Rattle.permit_history.proofs.PrefixLemmas.{added_none, added_some}
use Rattle.permit_history.proofs.evidence.Prefix.add.Goals.{then-lines-gt0+in_ok-self, else-lines-gt0}
use Rattle.permit_history.proofs.evidence.Prefix.add.Goals as goal

pub returns : goal.returns
returns c = λ bytes is.
    let piece = c.args.piece.now in
    let ended = c.lines_in-lines in
    let front = take ended.result.1 piece in
    let rest = take (length piece - ended.result.1) (drop ended.result.1 piece) in
    let last : rest ≡ drop ended.result.1 piece = take_all (length piece - ended.result.1) (drop ended.result.1 piece) (omega (arith, length-drop ended.result.1 piece)) in
    let count : ended.result.0 ≡ min (c.args.most - c.args.self.now.lines) (line_count piece) = ended.ensures.count ∙ ap (λ n. min n (line_count piece)) c.saturating_sub.ensures in
    let joined : (bytes ++ front) ++ rest ≡ bytes ++ piece = append_assoc bytes front rest ∙ ap (λ l. bytes ++ l) (ap (λ l. front ++ l) last ∙ take-append-drop ended.result.1 piece) in
    let hashed = c.update.ensures bytes is.read in
    let read = λ (same : c.if-lines-gt0.self.read ≡ c.update.new.self). subst (Holds256 c.update-2.new.self) joined
    (c.update-2.ensures (bytes ++ front) (subst (λ (h : Sha256). Holds256 h (bytes ++ front)) (sym same) hashed)) in
    elim c.if-lines-gt0.branch [
      | then-lines-gt0+in_ok-self w ↦
          added_some c.args.most bytes piece c.args.self.now _ is ended.result.0 ended.result.1 count ended.ensures.lines w.if-lines-gt0.true
          (ap (λ (p : Prefix). p.lines) w.self-is)
          (subst (λ (h : Sha256). Holds256 h (bytes ++ front)) (sym (ap (λ (p : Prefix). p.whole) w.self-is ∙ w.in_ok-self.ensures.cases)) hashed)
          (read (ap (λ (p : Prefix). p.read) w.self-is))
      | else-lines-gt0 w ↦
          added_none c.args.most bytes piece c.args.self.now _ is ended.result.0 ended.result.1 count ended.ensures.lines (omega (arith, w.if-lines-gt0.false))
          (ap (λ (p : Prefix). p.lines) w.self-is) (ap (λ (p : Prefix). p.whole) w.self-is) (read (ap (λ (p : Prefix). p.read) w.self-is))
    ]

use Rattle.std.proofs.Common.{◌≡◌, ◌∙◌, [], ◌++◌, false, inl, inr, rules, ⊎_elim}
use Rattle.std.proofs.KnownBytes.{Consumes-nil, Consumes-trans}
use Rattle.permit_history.proofs.PrefixLemmas.{of_whole, same_lines}
use Rattle.permit_history.proofs.evidence.evidence_within.Goals as goal

pub loop-init : goal.loop-init
loop-init g c = ([], c.new-prefix.ensures c.args.most, Consumes-nil _)

pub returns-then-not-branch : goal.returns-then-not-branch
returns-then-not-branch g c =
    let before = c.loop.invariant in
    let took = c.in_ok-take_piece.ensures in
    let is = took.added before.0 before.1 in
    let has = c.evidence.ensures c.args.most (before.0 ++ took.piece) is in
    let stops : c.in_ok-take_piece.field-0 ≡ false = search rules in
    of_whole c.args.most before.0 took.piece c.evidence.result has _ _ _ before.2 took.taken
    (⊎_elim (λ all. inl (same_lines c.args.most (before.0 ++ took.piece) c.take_piece.new.prefix c.evidence.result is has ∙ all)) inr (took.end stops))

pub loop-preserved : goal.loop-preserved
loop-preserved g c =
    let before = c.loop.invariant in
    let took = c.in_ok-take_piece.ensures in
    (before.0 ++ took.piece, took.added before.0 before.1, Consumes-trans _ _ _ _ _ before.2 took.taken)

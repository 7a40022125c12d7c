use Rattle.std.proofs.Common.{◌≡◌, [], ◌++◌, false, rules}
use Rattle.std.proofs.KnownBytes.{Consumes-nil, Consumes-trans}
use Rattle.permit_history.specs.Settled.{IsSettledLength}
use Rattle.permit_history.proofs.LineEndLemmas.{of_text}
use Rattle.permit_history.proofs.settled.settled_length.Goals as goal

pub loop-init : goal.loop-init
loop-init g c = ([], c.new-ends.ensures, Consumes-nil _)

pub returns-then-not-branch : goal.returns-then-not-branch
returns-then-not-branch g c =
    let before = c.loop.invariant in
    let took = c.in_ok-take_piece.ensures in
    let stops : c.in_ok-take_piece.field-0 ≡ false = search rules in
    of_text _ _ _ before.0 took.piece (λ bytes. IsSettledLength bytes c.take_piece.new.ends.settled) before.2 took.taken (took.end stops)
    (took.added before.0 before.1).lines.settled

pub loop-preserved : goal.loop-preserved
loop-preserved g c =
    let before = c.loop.invariant in
    let took = c.in_ok-take_piece.ensures in
    (before.0 ++ took.piece, took.added before.0 before.1, Consumes-trans _ _ _ _ _ before.2 took.taken)

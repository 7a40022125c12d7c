use Rattle.std.proofs.Common.{◌≡◌, ℕ, ◌+◌, List, length, Some}
use Rattle.std.specs.Io.KnownBytes.{Appends}
use Rattle.permit_history.specs.declared.entry.Entry.{Entry}
use Rattle.permit_chronicle.specs.Telling.{HasTold, told_from}
use Rattle.permit_chronicle.proofs.More.{roles_by}
use Rattle.permit_chronicle.proofs.telling.tell_in.Given as goal

abbrev pub invariant-loop-line : goal.invariant-loop-line
invariant-loop-line g l = (
    (bytes : List ℕ) → g.R.Read.remaining l.fn.source ≡ Some bytes
    → (entries : List Entry) × (left : List ℕ) × (g.R.Read.remaining l.source ≡ Some left) × (l.line ≡ length entries + 1)
    × (l.roles ≡ roles_by l.fn.roles entries)
    × HasTold l.wanted l.fn.roles bytes entries left (g.W.Write.contents l.fn.out) (g.W.Write.contents l.out)
    )
    × (
    (entries : List Entry) × (l.roles ≡ roles_by l.fn.roles entries)
    × Appends (g.W.Write.contents l.fn.out) (g.W.Write.contents l.out) (told_from l.wanted l.fn.roles entries)
    )

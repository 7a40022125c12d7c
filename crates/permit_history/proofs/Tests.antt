-- Tests that hold, taken apart.
use Rattle.std.proofs.Common.{Bool, ◌&&◌}
use Rattle.std.specs.Prelude.{IsTrue}
use Rattle.std.proofs.lemmas.Bool.{and_parts}

pub left : (a b : Bool) → IsTrue (a && b) → IsTrue a
left a b h = (and_parts a b h).0

pub right : (a b : Bool) → IsTrue (a && b) → IsTrue b
right a b h = (and_parts a b h).1

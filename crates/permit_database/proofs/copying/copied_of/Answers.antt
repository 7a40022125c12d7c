use Rattle.std.proofs.Common.{refl}
use Rattle.permit_database.proofs.copying.copied_of.Goals as goal

pub returns-in-Ok-seal-clause-copied : goal.returns-in-Ok-seal-clause-copied
returns-in-Ok-seal-clause-copied g c = λ clean t held sound.
    let there = c.in-Ok.ensures.held clean t held sound in
    (c.in-Ok-seal.ensures.looks.kept t there, c.in-Ok-seal.ensures.seal refl t there sound)

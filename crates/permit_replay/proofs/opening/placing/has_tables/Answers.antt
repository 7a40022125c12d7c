use Rattle.std.proofs.Common.{refl}
use Rattle.permit_replay.proofs.Placed.{other_desk}
use Rattle.permit_replay.proofs.opening.placing.has_tables.Goals as goal

pub returns-then-not-is_same_desk-clause-alike : goal.returns-then-not-is_same_desk-clause-alike
returns-then-not-is_same_desk-clause-alike g c = λ clean t held u told desk sound_told sound.
    other_desk u t c.in_ok-here.here c.args.desk.now c.is_same_desk.result c.is_same_desk.ensures c.if-not-is_same_desk.true
    (c.in_ok-here.ensures.found refl u told) desk

pub returns-clause-alike : goal.returns-clause-alike
returns-clause-alike g c = λ clean t held u told desk sound_told sound.
    c.are_alike.ensures.alike refl clean u t (c.in_ok-here.ensures.read.kept u told) held sound_told sound

pub returns-clause-told : goal.returns-clause-told
returns-clause-told g c = λ u told. c.are_alike.ensures.first.kept u (c.in_ok-here.ensures.read.kept u told)

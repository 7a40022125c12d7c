use Rattle.permit_model.specs.Tables.{tables}
use Rattle.permit_replay.proofs.Placed.{both_ok}
use Rattle.permit_replay.proofs.opening.placing.is_there.Goals as goal

pub returns-in-Open-clause-same : goal.returns-in-Open-clause-same
returns-in-Open-clause-same g c = λ clean t held unsaid h holds sound_told desk sound.
    let told = rw c.in-Open.is at holds in
    both_ok c.has_tables.result _ _ told.upgraded
    (c.has_tables.ensures.alike clean t held (tables h) told.held desk (sound_told told.history) sound)

pub returns-in-Open-clause-replayed : goal.returns-in-Open-clause-replayed
returns-in-Open-clause-replayed g c = λ unsaid h holds.
    let told = rw c.in-Open.is at holds in
    record { history = told.history; upgraded = told.upgraded; held = c.has_tables.ensures.told (tables h) told.held }

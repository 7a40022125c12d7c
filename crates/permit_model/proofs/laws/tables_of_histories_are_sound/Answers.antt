-- The laws are lemmas by induction on the history, and on what was done to a file.
use Rattle.std.proofs.Common.{arith}
use Rattle.permit_model.proofs.SoundOffice.{desk_sound, numbering_sound, parties_sound, parcels_sound}
use Rattle.permit_model.proofs.SoundFilings.{filings_sound, stages_sound}
use Rattle.permit_model.proofs.SoundPapers.{papers_sound}
use Rattle.permit_model.proofs.SoundRows.{work_sound}
use Rattle.permit_model.proofs.laws.tables_of_histories_are_sound.Goals as goal

pub returns-clause-desk : goal.returns-clause-desk
returns-clause-desk c = desk_sound

pub returns-clause-numbering : goal.returns-clause-numbering
returns-clause-numbering c = numbering_sound

pub returns-clause-parties : goal.returns-clause-parties
returns-clause-parties c = parties_sound

pub returns-clause-parcels : goal.returns-clause-parcels
returns-clause-parcels c = parcels_sound

pub returns-clause-filings : goal.returns-clause-filings
returns-clause-filings c = filings_sound

pub returns-clause-stages : goal.returns-clause-stages
returns-clause-stages c = stages_sound

pub returns-clause-work : goal.returns-clause-work
returns-clause-work c = work_sound

pub returns-clause-papers : goal.returns-clause-papers
returns-clause-papers c = papers_sound

pub returns-clause-sound : goal.returns-clause-sound
returns-clause-sound c = grind (arith, desk_sound, numbering_sound, parties_sound, parcels_sound, filings_sound, stages_sound, work_sound, papers_sound)

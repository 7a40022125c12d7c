-- The law is a lemma by induction on what was done to a file.
use Rattle.permit_model.proofs.SoundStates.{sound_states}
use Rattle.permit_model.proofs.laws.rows_are_sound.Goals as goal

pub returns : goal.returns
returns c = record { sound = sound_states }

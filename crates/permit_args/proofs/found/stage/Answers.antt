use Rattle.std.proofs.Common.{◌≡◌, IsTrue, refl}
use Rattle.clap.specs.Words.{found_of, rows_of}
use Rattle.permit_base.specs.Stages.{is_file_stage}
use Rattle.permit_base.specs.Words.{stage_word}
use Rattle.permit_base.specs.declared.words.Stage.{Stage}
use Rattle.permit_args.specs.Blames.{BlamesPlace}
use Rattle.permit_args.specs.declared.places.Place.TheVariants as place
use Rattle.permit_args.proofs.Unread.{refuses}
use Rattle.permit_args.proofs.Values.{no_stage}
use Rattle.permit_args.proofs.found.stage.Goals as goal

pub returns-in-None-clause-refused : goal.returns-in-None-clause-refused
returns-in-None-clause-refused c =
    let none : (s : Stage) → stage_word s ≡ c.in-Some.text.now → IsTrue (is_file_stage s) → ⊥ = λ s word within.
    let bad = c.in-None.ensures.every s word within in cc in
    refuses _ (BlamesPlace place.Stage (rows_of (found_of c.args.matches.now))) _ _ c.invalid.ensures (no_stage _ c.in-Some.text.now c.in-Some.ensures none)
    (record { value = c.in-Some.text.now; found = c.in-Some.ensures; refused = λ is. none is.0 is.1 is.2; said = refl })

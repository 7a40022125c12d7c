use Rattle.std.proofs.Common.{◌∙◌, ap}
use Rattle.permit_model.specs.Tables.{Desk}
use Rattle.permit_mirror.proofs.Loaded.{covers_loaded}
use Rattle.permit_mirror.proofs.indexed.Indexed.load.Goals as goal

pub returns-clause-held : goal.returns-clause-held
returns-clause-held g c = λ t h sound.
    let read = c.in_ok-desk.ensures.read.kept t h in
    let owned = c.in_ok-add_owners.ensures.kept t read in
    let interested = c.in_ok-add_interests.ensures.kept t owned in
    let desk = c.in_ok-desk.ensures.found (g.met.M.Memory.sure _) t h in (
      c.in_ok-add_files.ensures.kept t interested,
      covers_loaded c.new-index.result c.add_owners.new.index c.add_interests.new.index c.add_files.new.index t sound
          (c.new-index.ensures.counts.0 ∙ ap (λ (d : Desk). d.parcels) (c.desk-2.view_is ∙ desk)) (c.new-index.ensures.counts.1 ∙ ap (λ (d : Desk). d.files) (c.desk-2.view_is ∙ desk))
          c.in_ok-add_owners.ensures.widened c.in_ok-add_interests.ensures.widened c.in_ok-add_files.ensures.widened
          (c.in_ok-add_owners.ensures.owners t read) (c.in_ok-add_interests.ensures.interests t owned) (c.in_ok-add_files.ensures.there t interested),
    )

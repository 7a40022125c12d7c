use Rattle.std.proofs.Common.{◌≡◌, [], refl, ◌∙◌}
use Rattle.permit_store.proofs.plain.PlainStore.create.Goals as goal

pub returns-clause-founded : goal.returns-clause-founded
returns-clause-founded c =
    let none : c.ready_party-first.new.parties.rows.items ≡ [] = c.ready_party-first.ensures.kept ∙ c.new-parties.ensures in
    let first = c.put_party.ensures _ c.in-Some.ensures.ready in
    let one = rw none at first in
    rw (one, c.new.ensures, c.new-2.ensures, c.new-3.ensures.items) (record {
      desk = refl;
      upgrade = refl;
      parties = refl;
      parcels = refl;
      interests = λ _ _. refl;
      files = refl;
      papers = λ _. refl;
    })

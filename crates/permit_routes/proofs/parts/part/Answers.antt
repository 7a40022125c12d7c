use Rattle.permit_routes.proofs.Rows.{walk_text, part_of_match}
use Rattle.permit_routes.proofs.parts.part.Goals as goal

pub returns : goal.returns
returns c =
    let p = c.args.params.now in
    let h = c.get.ensures (walk_text p.pattern.now p.text.now p.path.now p.names.now 0 0 c.requires.text c.requires.path) in
    part_of_match _ _ h

use Rattle.std.proofs.Common.{◌≡◌, sym, ◌∙◌, ap}
use Rattle.permit_store.specs.Plain.{KeptFile, papers_at}
use Rattle.permit_store.proofs.Kept.{papers_at_place}
use Rattle.permit_store.proofs.Places.{is_place, numbered_from}
use Rattle.permit_store.proofs.plain.ready.ready_row.Goals as goal

pub returns-clause-ready : goal.returns-clause-ready
returns-clause-ready c =
    let files = c.args.files.now in
    let i = c.in_ok-place.place in
    let d = c.index-files-place.result in
    let at = c.in_ok-place.ensures.some in
    let first = is_place (λ k. k.row.id) 1 c.args.file i files d at.0 at.1 (numbered_from (λ k. k.row.id) 1 files c.requires.places) in
    let same : papers_at c.args.file files ≡ c.kept.inside.papers =
    papers_at_place c.args.file files i d first at.1 ∙ ap (λ (k : KeptFile). k.papers) (sym (c.kept.view_is ∙ c.index-files-place.is)) in
    rw same c.ready_effect.ensures

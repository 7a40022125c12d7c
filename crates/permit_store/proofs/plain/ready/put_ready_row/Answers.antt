use Rattle.std.proofs.Common.{get_or, refl, sym, ◌∙◌, ap}
use Rattle.std.specs.List.{range_with_len}
use Rattle.std.proofs.lemmas.List.{length-set}
use Rattle.permit_store.specs.Plain.{renewed}
use Rattle.permit_store.proofs.Kept.{papers_put, papers_at_place}
use Rattle.permit_store.proofs.Places.{rows_at, is_place, numbered_from, numbers_set}
use Rattle.permit_store.proofs.plain.ready.put_ready_row.Goals as goal

pub returns-in-Some-clause-rows : goal.returns-in-Some-clause-rows
returns-in-Some-clause-rows c =
    let files = c.args.files.now in
    let i = c.in-Some.place in
    let d = c.index-files-place.result in
    let at = c.in-Some.ensures.some in
    λ _. rows_at c.args.file 1 i c.args.state files d c.refresh.new.kept c.refresh.ensures.row at.0 at.1
    (numbered_from (λ k. k.row.id) 1 files c.requires.places)

pub returns-in-Some-clause-papers : goal.returns-in-Some-clause-papers
returns-in-Some-clause-papers c =
    let files = c.args.files.now in
    let i = c.in-Some.place in
    let d = c.index-files-place.result in
    let at = c.in-Some.ensures.some in
    let first = is_place (λ k. k.row.id) 1 c.args.file i files d at.0 at.1 (numbered_from (λ k. k.row.id) 1 files c.requires.places) in
    let same = papers_at_place c.args.file files i d first at.1 in
    λ _ ok f. rw (c.refresh.ensures.made (rw same at ok), same)
    (papers_put c.args.file f files i d (renewed c.args.file c.args.state c.args.day c.args.effect.now (get_or files i d)) refl first at.1)

pub returns-in-Some-clause-places : goal.returns-in-Some-clause-places
returns-in-Some-clause-places c =
    let files = c.args.files.now in
    let i = c.in-Some.place in
    let at = c.in-Some.ensures.some in
    numbers_set (λ k. k.row.id) files i c.index-files-place.result c.refresh.new.kept (ap (λ r. r.id) c.refresh.ensures.row) at.1
    ∙ c.requires.places ∙ ap (range_with_len 1) (sym (length-set files i c.refresh.new.kept))

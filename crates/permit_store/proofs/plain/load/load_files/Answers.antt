use Rattle.std.proofs.Common.{◌≡◌, ◌+◌, ◌++◌, ◌∷◌, ◌==◌, List, [], refl, length, map, filter, take, sym, ◌∙◌, ap, arith, length-append}
use Rattle.std.proofs.lemmas.List.{map-append}
use Rattle.permit_model.specs.Tables.{Paper}
use Rattle.permit_store.specs.Loading.{kept_of}
use Rattle.permit_store.specs.Plain.{KeptFile}
use Rattle.permit_store.proofs.Places.{numbers_more, taken_more}
use Rattle.permit_store.proofs.plain.load.load_files.Goals as goal

pub loop-place-preserved : goal.loop-place-preserved
loop-place-preserved g c =
    let was = c.loop-place.invariant in
    let read = c.in_ok-file.ensures in
    let file : KeptFile = c.in_ok-file.file in
    let more = c.in-Ok.ensures.items in
    let next : c.in-Some.id ≡ 1 + c.loop-place.place = omega (arith, c.in-Some.ensures.same) in
    let count : length c.push.new.self.items ≡ c.loop-place.place + 1 =
    ap length more ∙ length-append c.loop-place.files.items (file ∷ []) ∙ ap (λ n. n + 1) was.counted in
    record {
      kept = λ t h. read.kept t (was.kept t h);
      doubt = omega (arith, was.doubt, read.doubt);
      commits = read.commits ∙ was.commits;
      counted = count;
      few = omega (arith, count, (c.in-Some.ensures.within.0 refl).1);
      places = rw more (numbers_more (λ k. k.row.id) 1 c.loop-place.files.items file (omega (arith, read.number, next, was.counted)) was.places);
      held = λ d t h numbered all.
          let at = read.held d t (was.kept t h) in
          let same : file ≡ kept_of t file.row =
          ap (λ (papers : List Paper). record { row = file.row; papers = papers }) (at.1 ∙ ap (λ n. filter (λ p. p.file == n) t.papers) (sym read.number)) in
          more
          ∙ ap (λ fs. fs ++ file ∷ []) (was.held (omega (arith, d, read.doubt)) t h numbered all)
          ∙ ap (λ k. map (kept_of t) (take c.loop-place.place t.files) ++ k ∷ []) same
          ∙ sym (map-append (kept_of t) (take c.loop-place.place t.files) (file.row ∷ []))
          ∙ ap (map (kept_of t)) (taken_more (λ f. f.id) t.files c.loop-place.place c.in-Some.id file.row next numbered (sym at.0));
    }

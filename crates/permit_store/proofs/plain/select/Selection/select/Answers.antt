use Rattle.std.proofs.Common.{◌≡◌, ◌∷◌, [], ◌++◌, get_or, sym, ◌∙◌, ap}
use Rattle.permit_store.specs.Plain.{KeptFile}
use Rattle.std.proofs.lemmas.List.{append-nil}
use Rattle.permit_store.proofs.Selecting.{found_some, found_none, rows_more}
use Rattle.permit_store.proofs.plain.select.Selection.select.Goals as goal
use Rattle.permit_store.proofs.plain.select.Selection.select.Goals.{in-Some+in_ok-push, in_default}

pub loop-kept-preserved : goal.loop-kept-preserved
loop-kept-preserved c =
    let s = c.args.self.now in
    let files = c.args.files.now in
    let i = c.loop-kept.kept-index in
    let d = c.kept-item.result in
    let same : c.kept.inside.row ≡ (get_or files i d).row = ap (λ (k : KeptFile). k.row) (c.kept.view_is ∙ c.kept-item.is) in
    elim c.match-branch-2.branch [
      | in-Some+in_ok-push w ↦
          let one = found_some s c.kept.inside.row (get_or files i d).row c.in_ok-found.field-0 w.in-Some.found w.in-Some.is c.in_ok-found.ensures same in
          ap (λ v. v.items) w.rows-is ∙ w.in_ok-push.ensures.items ∙ ap (λ rows. rows ++ w.in-Some.found ∷ []) c.loop-kept.invariant
          ∙ sym (rows_more s files i d (w.in-Some.found ∷ []) c.loop-kept-test.true one)
      | in_default w ↦
          let none = found_none s c.kept.inside.row (get_or files i d).row c.in_ok-found.field-0 w.in_default.is c.in_ok-found.ensures same in
          ap (λ v. v.items) w.rows-is ∙ c.loop-kept.invariant ∙ sym (append-nil _) ∙ sym (rows_more s files i d [] c.loop-kept-test.true none)
    ]

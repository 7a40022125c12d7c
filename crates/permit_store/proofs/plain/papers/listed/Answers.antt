use Rattle.std.proofs.Common.{sym, ◌∙◌}
use Rattle.std.specs.Prelude.{Result, Ok, Err, IfOk}
use Rattle.std.proofs.lemmas.Iterator.{items_from_drains}
use Rattle.std.proofs.lemmas.Iterator.Adapters.{YieldsList-from_vec}
use Rattle.std.proofs.lemmas.List.{map-id}
use Rattle.permit_store.proofs.plain.papers.listed.Goals as goal

if_ok : {T E : Type 0} {P Q : T → Type 0} (result : Result T E) → ((x : T) → P x → Q x) → IfOk result P → IfOk result Q
if_ok (Ok x) f p = f x p
if_ok (Err e) f p = tt

pub returns : goal.returns
returns c =
    let v = c.args.papers in
    if_ok c.from_iter.result
    (λ list ran. ran.4 ∙ sym (map-id ran.1) ∙ items_from_drains ran.1 ran.3 (YieldsList-from_vec v.items ran.2.0 (ran.2.1 ∙ v.ok.0)))
    c.from_iter.ensures.ran

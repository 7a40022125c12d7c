use Rattle.std.proofs.Common.{◌≡◌, List, sym, ◌∙◌, ap}
use Rattle.std.specs.Prelude.{Result, Ok, Err, IfOk}
use Rattle.permit_model.specs.Parcels.{Interest}
use Rattle.permit_store.specs.Interests.{is_declared, DeclareSame}
use Rattle.permit_store.specs.declared.plain.interests.Interests.{Interests}
use Rattle.permit_store.proofs.plain.load.load_interests.Goals as goal

if_same : {E : Type 0} (result : Result Interests E) (declared held : List Interest) → IfOk result (λ interests. interests.rows.items ≡ declared) →
    DeclareSame declared held → IfOk result (λ interests. DeclareSame held interests.rows.items)
if_same (Ok interests) declared held e same = λ parcel party. sym (same parcel party) ∙ ap (is_declared parcel party) (sym e)
if_same (Err error) declared held e same = tt

pub returns-clause-held : goal.returns-clause-held
returns-clause-held g c = λ d t h. if_same c.interests_of.result c.deref.result.now t.interests c.interests_of.ensures
    (λ parcel party. ap (is_declared parcel party) c.deref.ensures.value ∙ c.in_ok-declared.ensures.found d t h parcel party)

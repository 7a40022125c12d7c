use Rattle.std.proofs.Common.{rules, ◌≡◌, ap, ◌∙◌}
use Rattle.std.proofs.lemmas.List.Sorted.{IsPermutation-refl}
use Rattle.permit_model.specs.Tables.{Desk}
use Rattle.permit_sql.specs.First.{first_in, of_parcel}
use Rattle.permit_sql.proofs.Firsts.{is_first}
use Rattle.permit_sql.proofs.why.unsound_parcels.Goals as goal

pub returns-in-Some-clause-first : goal.returns-in-Some-clause-first
returns-in-Some-clause-first g c fine t typed k desk =
    let told = rw c.in-Some.is at (c.in_ok-fault.ensures.first fine.0 t typed k) in
    let own : c.desk.inside.parties ≡ c.args.desk.parties = search rules in
    (t.interests, IsPermutation-refl t.interests, is_first _ (told ∙ ap (λ n. first_in (of_parcel n) t.parcels) (own ∙ ap (λ (d : Desk). d.parties) desk)))

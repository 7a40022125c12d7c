use Rattle.std.proofs.Common.{◌≡◌, true, sym, ap, subst, ◌∙◌, rules}
use Rattle.std.specs.Prelude.{◌&&◌}
use Rattle.std.specs.List.{list_all}
use Rattle.std.proofs.lemmas.Result.{IfOk-weaker}
use Rattle.permit_model.specs.Tables.{Desk}
use Rattle.permit_sql_rows.specs.Kept.{KeepsUnder}
use Rattle.permit_sql.specs.Tested.{fits_file, fits_papers}
use Rattle.permit_sql.proofs.Passing.{few_papers}
use Rattle.permit_sql.proofs.sound_files.has_sound_cases.Goals as goal

pub returns-in-Some-clause-told : goal.returns-in-Some-clause-told
returns-in-Some-clause-told g c fine t typed k desk upgrade =
    let was = c.has_sound_papers.ensures.look.left fine in
    let first = c.tallies_of.ensures.look.left was.0 in
    let told = rw c.in-Some.is at (c.in_ok-tallies.ensures.told was.0.0 t typed k upgrade) in
    let own_parties : c.desk.inside.parties ≡ c.args.desk.parties = search rules in
    let own_parcels : c.desk.inside.parcels ≡ c.args.desk.parcels = search rules in
    let own_last : c.desk.inside.last ≡ c.args.desk.last = search rules in
    let parties = own_parties ∙ ap (λ (d : Desk). d.parties) (sym desk) in
    let parcels = own_parcels ∙ ap (λ (d : Desk). d.parcels) (sym desk) in
    let last = own_last ∙ ap (λ (d : Desk). d.last) (sym desk) in
    let roles = c.args.roles.items in
    let files : list_all (λ f. fits_file roles t.desk.parcels t.desk.last f.state) t.files ≡ true =
    subst (λ l. list_all (λ f. fits_file roles t.desk.parcels l f.state) t.files ≡ true) last
    (subst (λ n. list_all (λ f. fits_file roles n c.desk.inside.last f.state) t.files ≡ true) parcels (sym told.0)) in
    let few = few_papers roles t.desk.parcels t.desk.last t.files files in
    let papers = c.has_sound_papers.ensures.told fine.0 t typed (subst (KeepsUnder c.args.edition t) (sym first.1) k) parties last told.1 few in
    IfOk-weaker c.has_sound_papers.result _ _ (λ good e. e ∙ sym (ap (λ x. x && fits_papers t) files)) papers

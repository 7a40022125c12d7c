use Rattle.std.proofs.Common.{◌≡◌, sym, ◌∙◌, ap, rules, arith}
use Rattle.permit_base.specs.declared.words.Edition.TheVariants.{Second}
use Rattle.permit_model.specs.Tables.{Desk}
use Rattle.permit_store.specs.Loading.{first_editions}
use Rattle.permit_store.proofs.Loading.{parties_numbered, parcels_numbered, files_numbered, parties_counted, parcels_counted, files_counted, loaded}
use Rattle.permit_store.proofs.plain.PlainStore.load.Goals as goal

pub returns-clause-kept : goal.returns-clause-kept
returns-clause-kept g c = λ t h. c.in-Ok-load_files.ensures.kept t (c.in-Ok-load_interests.ensures.kept t (c.in-Ok-load_parcels.ensures.kept t (c.in-Ok.ensures.kept t
    (c.in_ok-desk.ensures.read.kept t h))))

pub returns-clause-held : goal.returns-clause-held
returns-clause-held g c = λ d t h sound.
    let d3 : (g.S.Store.view c.load_interests.new.store).doubt ≡ 0 = omega (arith, d, c.in-Ok-load_files.ensures.doubt) in
    let d2 : (g.S.Store.view c.load_parcels.new.store).doubt ≡ 0 = omega (arith, d3, c.in-Ok-load_interests.ensures.doubt) in
    let d1 : (g.S.Store.view c.load_parties.new.store).doubt ≡ 0 = omega (arith, d2, c.in-Ok-load_parcels.ensures.doubt) in
    let d0 : (g.S.Store.view c.desk.new.self).doubt ≡ 0 = omega (arith, d1, c.in-Ok.ensures.doubt) in
    let h0 = c.in_ok-desk.ensures.read.kept t h in
    let h1 = c.in-Ok.ensures.kept t h0 in
    let h2 = c.in-Ok-load_parcels.ensures.kept t h1 in
    let h3 = c.in-Ok-load_interests.ensures.kept t h2 in
    let inside = c.desk-2.inside in
    let desk : Desk = record { edition = inside.edition; last = inside.last; parties = inside.parties; parcels = inside.parcels; files = inside.files } in
    let same : desk ≡ t.desk = c.desk-2.view_is ∙ c.in_ok-desk.ensures.found d0 t h in
    let second : desk.edition ≡ Second = search rules in
    let parties = c.in-Ok.ensures.held d1 t h0 (parties_numbered t sound) (sym (ap (λ (d : Desk). d.parties) same ∙ parties_counted t sound)) in
    let parcels = c.in-Ok-load_parcels.ensures.held d2 t h1 (parcels_numbered t sound) (sym (ap (λ (d : Desk). d.parcels) same ∙ parcels_counted t sound)) in
    let interests = c.in-Ok-load_interests.ensures.held d3 t h2 in
    let files = c.in-Ok-load_files.ensures.held d t h3 (files_numbered t sound) (sym (ap (λ (d : Desk). d.files) same ∙ files_counted t sound)) in
    let first : c.count_first.result ≡ first_editions c.in-Ok-load_files.files.items = c.count_first.ensures ∙ ap first_editions c.deref.ensures.value in
    rw first (loaded t desk _ _ _ _ sound same second parties parcels interests files)

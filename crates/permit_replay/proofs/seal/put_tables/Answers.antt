use Rattle.std.proofs.Common.{◌≡◌, ◌∙◌, List, ap, sym, subst, arith}
use Rattle.std.specs.List.Sorted.{IsStrictlySortedBy}
use Rattle.permit_model.specs.Parcels.{Interest}
use Rattle.permit_model.specs.Tables.{Desk}
use Rattle.permit_store.specs.Interests.{DeclareSame, is_declared}
use Rattle.permit_replay.specs.Sealing.{interest_order}
use Rattle.permit_replay.proofs.SealedTables.{tables_added}
use Rattle.permit_replay.proofs.seal.put_tables.Goals as goal

pub returns-clause-put : goal.returns-clause-put
returns-clause-put g c = λ clean t h sound.
    let s = g.S.Store.view in
    let desk = c.in_ok-desk.ensures in
    let parties = c.in_ok-put_rows.ensures in
    let parcels = c.in_ok-put_rows-2.ensures in
    let listed = c.in_ok-interests.ensures in
    let files = c.in_ok-put_rows-3.ensures in
    let clean_listed : (s c.interests.new.self).doubt ≡ 0 = omega (arith, files.looks.doubt, clean) in
    let clean_parcels : (s c.put_rows-2.new.store).doubt ≡ 0 = omega (arith, listed.read.doubt, clean_listed) in
    let clean_parties : (s c.put_rows.new.store).doubt ≡ 0 = omega (arith, parcels.looks.doubt, clean_parcels) in
    let clean_desk : (s c.desk.new.self).doubt ≡ 0 = omega (arith, parties.looks.doubt, clean_parties) in
    let held_desk = desk.read.kept t h in
    let held_parties = parties.looks.kept t held_desk in
    let held_parcels = parcels.looks.kept t held_parties in
    let held_listed = listed.read.kept t held_parcels in
    let order = c.in_order-interests.ensures in
    let declared : DeclareSame c.deref.result.now t.interests = λ parcel party. ap (is_declared parcel party) c.deref.ensures.value
    ∙ order.declared parcel party ∙ listed.found clean_listed t held_parcels parcel party in
    let rising : IsStrictlySortedBy interest_order c.deref.result.now =
    subst (λ (is : List Interest). IsStrictlySortedBy interest_order is) (sym c.deref.ensures.value) order.rising in
    let counts = c.desk-2.view_is in
    tables_added t sound c.in_ok-desk.desk _ _ _ c.deref.result.now _ _ _ _ _ _ (desk.found clean_desk t h) (ap (λ (d : Desk). d.parties) counts)
    (ap (λ (d : Desk). d.parcels) counts) (ap (λ (d : Desk). d.files) counts) declared rising c.put_desk.ensures
    (parties.put clean_parties t held_desk) (parcels.put clean_parcels t held_parties) c.put_interests.ensures (files.put clean t held_listed)

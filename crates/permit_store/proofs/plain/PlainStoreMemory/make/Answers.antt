use Rattle.std.proofs.Common.{◌≡◌, ◌≤◌, length, refl, sym, ◌∙◌, ap}
use Rattle.std.specs.Vec.{with_items}
use Rattle.std.proofs.lemmas.List.{with_items_is}
use Rattle.permit_store.proofs.Keeping.{keeps_party, keeps_parcel, keeps_owner, keeps_interest, keeps_file, keeps_row}
use Rattle.permit_store.proofs.plain.PlainStoreMemory.make.Goals as goal
use Rattle.permit_store.proofs.plain.PlainStoreMemory.make.Goals.{in-NewParty, in-NewParcel, in-NewOwner, in-NewInterest, in-NewFile, in-NewRow}

pub returns-clause-made : goal.returns-clause-made
returns-clause-made c = elim c.match-change.branch [
  | in-NewParty w ↦
      let need = rw w.in-NewParty.is at c.requires.ready in
      rw (w.self-is, w.in-NewParty.is) (λ t k fits. keeps_party _ _ _ _ _ _ _ _ t w.in-NewParty.name w.in-NewParty.role w.in-NewParty.digest
      (w.put_party.ensures _ need.0) k)
  | in-NewParcel w ↦
      let need = rw w.in-NewParcel.is at c.requires.ready in
      rw (w.self-is, w.in-NewParcel.is) (λ t k fits. keeps_parcel _ _ _ _ _ _ _ _ t w.in-NewParcel.lot w.in-NewParcel.address w.in-NewParcel.owner
      (w.put_parcel.ensures _ need.0) k)
  | in-NewOwner w ↦
      rw (w.self-is, w.in-NewOwner.is) (λ t k fits. keeps_owner _ _ _ _ _ _ _ _ t w.in-NewOwner.parcel w.in-NewOwner.owner w.give.ensures k)
  | in-NewInterest w ↦
      rw (w.self-is, w.in-NewInterest.is) (λ t k fits. keeps_interest _ _ _ _ _ _ _ _ t w.in-NewInterest.parcel w.in-NewInterest.party w.add.ensures k)
  | in-NewFile w ↦
      let need = rw w.in-NewFile.is at c.requires.ready in
      rw (w.self-is, w.in-NewFile.is) (λ t k fits. keeps_file _ _ _ _ _ _ _ _ t w.in-NewFile.state w.in-NewFile.valuation w.in-NewFile.description
      (w.put_file.ensures.made _ need.0 refl need.1) k)
  | in-NewRow w ↦
      let need = rw w.in-NewRow.is at c.requires.ready in
      let s = c.args.self.now in
      let v = s.files in
      let before = w.deref_mut.result.now in
      let later = w.put_ready_row.new.files in
      let was : before ≡ v.items = w.deref_mut.ensures.value in
      let same : length later ≡ v.len = w.put_ready_row.ensures.count ∙ ap length was ∙ sym v.ok.0 in
      let is : (with_items v later).items ≡ later = with_items_is v later same in
      let there : w.in-NewRow.file ≤ length before = rw was need.0 in
      rw (w.self-is, w.in-NewRow.is) (λ t k fits. keeps_row s.upgrade s.last c.args.day s.parties.rows.items s.parcels.rows.items s.interests.rows.items before
      (with_items v later).items t w.in-NewRow.file w.in-NewRow.state w.in-NewRow.effect
      (rw is (w.put_ready_row.ensures.rows there)) (rw is (w.put_ready_row.ensures.papers there (rw was need.1))) (rw is w.put_ready_row.ensures.count)
      (rw was k))
]

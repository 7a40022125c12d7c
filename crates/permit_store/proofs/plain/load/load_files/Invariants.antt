use Rattle.std.proofs.Common.{◌≡◌, ◌≤◌, length, map, take}
use Rattle.permit_base.specs.Limits.{most_records}
use Rattle.permit_model.specs.Numbering.{IsNumbered}
use Rattle.permit_model.specs.Tables.{FileRow, Tables}
use Rattle.permit_store.specs.Loading.{kept_of}
use Rattle.permit_store.specs.Plain.{AreInPlace}
use Rattle.permit_store.proofs.plain.load.load_files.Given as goal

abbrev pub invariant-loop-place : goal.invariant-loop-place
invariant-loop-place g l = record {
  kept : (t : Tables) → (g.S.Store.view l.fn.store).holds t → (g.S.Store.view l.store).holds t;
  doubt : (g.S.Store.view l.fn.store).doubt ≤ (g.S.Store.view l.store).doubt;
  commits : (g.S.Store.view l.store).commits ≡ (g.S.Store.view l.fn.store).commits;
  counted : length l.files.items ≡ l.place;
  few : length l.files.items ≤ most_records;
  places : AreInPlace l.files.items;
  held : (g.S.Store.view l.store).doubt ≡ 0 → (t : Tables) → (g.S.Store.view l.fn.store).holds t → IsNumbered (λ (f : FileRow). f.id) t.files →
      length t.files ≡ l.count → l.files.items ≡ map (kept_of t) (take l.place t.files);
}

-- Sound tables stay sound where they are upgraded.
use Rattle.std.proofs.Common.{◌≡◌, ◌≤◌, true, refl, sym, ap, ◌∙◌, arith}
use Rattle.std.specs.Prelude.{◌&&◌, nat_le, None, Some}
use Rattle.std.proofs.lemmas.Bool.{and_parts, and_from, le-leb}
use Rattle.sqlite.specs.Effect.{Database}
use Rattle.permit_base.specs.declared.words.Edition.TheVariants.{First}
use Rattle.permit_model.specs.Codes.{is_edition}
use Rattle.permit_model.specs.Tables.{Tables, FileRow, edition_numbered, with_upgrade}
use Rattle.permit_model.specs.Sound
use Rattle.permit_model.specs.Sound.{IsSoundTables}
use Rattle.permit_sql_rows.specs.Kept.{KeepsUnder}
use Rattle.permit_sql.specs.Found.{AreTyped}
use Rattle.permit_sql.proofs.Upgrades.{are_counted, under_first}
use Rattle.permit_sql.proofs.Soundness.{all_true, true_all, all_by_two}

-- a file that there was at the upgrade keeps the first edition
same_own : (t : Tables) → t.upgrade ≡ None → (f : FileRow) → f.id ≤ t.desk.files →
    (Sound.is_sound_filing t f && Sound.has_sound_people t f.state && Sound.has_own_edition t f) ≡ true →
    (Sound.is_sound_filing t f && Sound.has_sound_people t f.state && Sound.has_own_edition (with_upgrade t) f) ≡ true
same_own t none f low sound =
    let parts = and_parts (Sound.is_sound_filing t f && Sound.has_sound_people t f.state) (Sound.has_own_edition t f) sound in
    let early : nat_le f.id t.desk.files ≡ true = le-leb f.id t.desk.files low in
    let now : edition_numbered (Some t.desk.files) f.id ≡ First = rw early refl in
    let was : edition_numbered t.upgrade f.id ≡ First = ap (λ u. edition_numbered u f.id) none in
    and_from _ _ parts.0 (ap (is_edition f.state.edition) (now ∙ sym was) ∙ parts.1)

pub sound_after : {db : Database} (t : Tables) → AreTyped t → KeepsUnder First t db → IsSoundTables t → IsSoundTables (with_upgrade t)
sound_after {db} t typed k sound =
    let none = under_first First t db refl k in
    let desk = and_parts _ (Sound.is_sound_upgrade t) sound.desk in
    record {
      desk = and_from _ _ desk.0 (and_from _ _ refl (le-leb t.desk.files t.desk.files (omega arith)));
      numbering = sound.numbering;
      parties = sound.parties;
      parcels = sound.parcels;
      filings = true_all (λ f. Sound.is_sound_filing t f && Sound.has_sound_people t f.state && Sound.has_own_edition (with_upgrade t) f) t.files
          (all_by_two (same_own t none) t.files (are_counted t typed)
          (all_true (λ f. Sound.is_sound_filing t f && Sound.has_sound_people t f.state && Sound.has_own_edition t f) t.files sound.filings));
      stages = sound.stages;
      work = sound.work;
      papers = sound.papers;
    }

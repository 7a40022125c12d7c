-- Sound tables have few records.
use Rattle.std.proofs.Common.{◌≡◌, ◌≤◌, true}
use Rattle.std.proofs.lemmas.Bool.{and_parts, leb-true}
use Rattle.std.specs.Prelude.{IsTrue, ◌&&◌, nat_le}
use Rattle.permit_base.specs.Limits.{is_between, most_records}
use Rattle.permit_model.specs.Sound.{IsSoundTables, has_few_records, is_sound_upgrade}
use Rattle.permit_model.specs.Tables.{Desk, Tables}

module _ (d : Desk) (few : IsTrue (has_few_records d)) where
  first_two : (is_between 1 most_records d.parties && nat_le d.parcels most_records) ≡ true
  first_two = (and_parts _ (nat_le d.files most_records) few).0

  pub few_parties : d.parties ≤ most_records
  few_parties =
      let parties = (and_parts (is_between 1 most_records d.parties) (nat_le d.parcels most_records) first_two).0 in
      leb-true d.parties most_records (and_parts (nat_le 1 d.parties) (nat_le d.parties most_records) parties).1

  pub few_parcels : d.parcels ≤ most_records
  few_parcels = leb-true d.parcels most_records (and_parts (is_between 1 most_records d.parties) (nat_le d.parcels most_records) first_two).1

  pub few_files : d.files ≤ most_records
  few_files = leb-true d.files most_records (and_parts _ (nat_le d.files most_records) few).1

pub sound_few : (t : Tables) → IsSoundTables t → IsTrue (has_few_records t.desk)
sound_few t sound = (and_parts _ (has_few_records t.desk) (and_parts _ (is_sound_upgrade t) sound.desk).0).1

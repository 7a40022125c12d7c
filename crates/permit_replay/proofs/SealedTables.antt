-- The text of sound tables, put piece by piece.
use Rattle.std.proofs.Common.{◌≡◌, ◌≤◌, ℕ, true, List, ◌∙◌, ap, arith}
use Rattle.std.specs.List.{flat_map}
use Rattle.std.specs.List.Sorted.{IsStrictlySortedBy}
use Rattle.sha2.specs.declared.Sha256.{Sha256}
use Rattle.permit_base.specs.Limits.{most_records}
use Rattle.permit_model.specs.Parcels.{Interest}
use Rattle.permit_model.specs.Sound.{IsSoundTables, papers_in}
use Rattle.permit_model.specs.Tables.{Desk, Tables}
use Rattle.permit_store.specs.Interests.{DeclareSame}
use Rattle.permit_store.proofs.Loading.{parties_numbered, parcels_numbered, files_numbered, parties_counted, parcels_counted, files_counted}
use Rattle.permit_replay.specs.Adding.{Adds, AddsTables}
use Rattle.permit_replay.specs.Numbered.{counted, has_row, numbers_text, row_text}
use Rattle.permit_replay.specs.declared.seal.Table.{Table}
use Rattle.permit_replay.specs.declared.seal.Table.TheVariants as table
use Rattle.permit_replay.specs.Sealing.{interest_order}
use Rattle.permit_replay.specs.TablesText.{desk_line, file_lines, interest_line, parcel_line, party_line}
use Rattle.permit_replay.proofs.Added.{adds_both, adds_same}
use Rattle.permit_replay.proofs.Few.{few_files, few_parcels, few_parties, sound_few}
use Rattle.permit_replay.proofs.Numbering.{all_texts, is_there}

module _ (t : Tables) (sound : IsSoundTables t) where
  parties_text : (count : ℕ) → count ≡ t.desk.parties → numbers_text (row_text table.Parties t) count ≡ flat_map party_line t.parties
  parties_text count is = all_texts (λ p. p.id) (λ n p. party_line p) t.parties count (parties_numbered t sound) (is ∙ parties_counted t sound)

  parcels_text : (count : ℕ) → count ≡ t.desk.parcels → numbers_text (row_text table.Parcels t) count ≡ flat_map parcel_line t.parcels
  parcels_text count is = all_texts (λ p. p.id) (λ n p. parcel_line p) t.parcels count (parcels_numbered t sound) (is ∙ parcels_counted t sound)

  files_text : (count : ℕ) → count ≡ t.desk.files → numbers_text (row_text table.Files t) count ≡ flat_map (λ f. file_lines f (papers_in t f.id)) t.files
  files_text count is =
      all_texts (λ f. f.id) (λ n f. file_lines f (papers_in t n)) t.files count (files_numbered t sound) (is ∙ files_counted t sound)

  pub row_there : (rows : Table) (k : ℕ) → 1 ≤ k → k ≤ counted rows t → has_row rows t k ≡ true
  row_there table.Parties k low high = is_there (λ p. p.id) t.parties (parties_numbered t sound) k low (omega (arith, high, parties_counted t sound))
  row_there table.Parcels k low high = is_there (λ p. p.id) t.parcels (parcels_numbered t sound) k low (omega (arith, high, parcels_counted t sound))
  row_there table.Files k low high = is_there (λ f. f.id) t.files (files_numbered t sound) k low (omega (arith, high, files_counted t sound))

  pub few_rows : (rows : Table) → counted rows t ≤ most_records
  few_rows table.Parties = few_parties t.desk (sound_few t sound)
  few_rows table.Parcels = few_parcels t.desk (sound_few t sound)
  few_rows table.Files = few_files t.desk (sound_few t sound)

  -- d is the desk that was read, and the three numbers are its counts
  pub tables_added : (d : Desk) (parties parcels files : ℕ) (interests : List Interest) (x0 x1 x2 x3 x4 x5 : Sha256) → d ≡ t.desk
      → parties ≡ d.parties → parcels ≡ d.parcels → files ≡ d.files → DeclareSame interests t.interests → IsStrictlySortedBy interest_order interests
      → Adds (desk_line d) x0 x1 → Adds (numbers_text (row_text table.Parties t) parties) x1 x2
      → Adds (numbers_text (row_text table.Parcels t) parcels) x2 x3 → Adds (flat_map interest_line interests) x3 x4
      → Adds (numbers_text (row_text table.Files t) files) x4 x5 → AddsTables t x0 x5
  tables_added d parties parcels files interests x0 x1 x2 x3 x4 x5 is np nc nf declared rising desk first second listed last =
      let a1 = adds_same _ _ x0 x1 (ap desk_line is) desk in
      let a2 = adds_same _ _ x1 x2 (parties_text parties (np ∙ ap (λ (d : Desk). d.parties) is)) first in
      let a3 = adds_same _ _ x2 x3 (parcels_text parcels (nc ∙ ap (λ (d : Desk). d.parcels) is)) second in
      let a5 = adds_same _ _ x4 x5 (files_text files (nf ∙ ap (λ (d : Desk). d.files) is)) last in
      record {
        interests = interests;
        declared = declared;
        rising = rising;
        adds = adds_both _ _ x0 x4 x5 (adds_both _ _ x0 x3 x4 (adds_both _ _ x0 x2 x3 (adds_both _ _ x0 x1 x2 a1 a2) a3) listed) a5;
      }

-- Sound tables are alike where their rows are.
use Rattle.std.proofs.Common.{◌≡◌, ◌<◌, ◌≤◌, ℕ, ◌+◌, ◌==◌, List, [], ◌∷◌, length, map, filter, find, refl, sym, ◌∙◌, ap, arith}
use Rattle.std.specs.Prelude.{Option, None, Some, is_none}
use Rattle.std.specs.Bool.{Decides}
use Rattle.permit_base.specs.declared.words.Edition.TheVariants.{Second}
use Rattle.permit_model.specs.Numbering.{IsNumberedFrom}
use Rattle.permit_model.specs.Sound.{IsSoundTables}
use Rattle.permit_model.specs.Tables.{Desk, FileRow, Paper, Tables}
use Rattle.permit_store.specs.Loading.{kept_of, first_editions}
use Rattle.permit_store.specs.Plain.{papers_at}
use Rattle.permit_store.proofs.Loading.{loaded, parties_numbered, parcels_numbered, files_numbered, parties_counted, parcels_counted, files_counted}
use Rattle.permit_replay.specs.Alike.{AreAlike}
use Rattle.permit_replay.specs.Comparing.{Finds}
use Rattle.permit_replay.specs.Differing.{HaveSameBehind, HaveSameFile, HaveSameFiles, HaveSameParcels, HaveSameParties, IsFirstDifference}
use Rattle.permit_replay.specs.declared.alike.differing.Difference.{Difference}
use Rattle.permit_replay.specs.declared.alike.differing.Difference.TheVariants as difference
use Rattle.permit_replay.proofs.Numbered.{same_rows}

-- the files with their papers
kept_same : (t u : Tables) (first : ℕ) (files : List FileRow) → IsNumberedFrom (λ f. f.id) first files
    → ((n : ℕ) → first ≤ n → n < first + length files → filter (λ p. p.file == n) t.papers ≡ filter (λ p. p.file == n) u.papers)
    → map (kept_of t) files ≡ map (kept_of u) files
kept_same t u first [] numbered same = refl
kept_same t u first (f ∷ files) numbered same =
    let here : filter (λ p. p.file == f.id) t.papers ≡ filter (λ p. p.file == f.id) u.papers =
    same f.id (omega (arith, numbered.0)) (omega (arith, numbered.0)) in
    ap (λ (papers : List Paper). record { row = f; papers = papers } ∷ map (kept_of t) files) here
    ∙ ap (λ ks. kept_of u f ∷ ks) (kept_same t u (first + 1) files numbered.1 (λ n low high. same n (omega (arith, low)) (omega (arith, high))))

module _ (t u : Tables) (st : IsSoundTables t) (su : IsSoundTables u) (second : t.desk.edition ≡ Second) (desk : t.desk ≡ u.desk) where
  same_parties : HaveSameParties t u → t.parties ≡ u.parties
  same_parties same =
      let count : length t.parties ≡ length u.parties = sym (parties_counted t st) ∙ ap (λ (d : Desk). d.parties) desk ∙ parties_counted u su in
      same_rows (λ p. p.id) 1 t.parties u.parties (parties_numbered t st) (parties_numbered u su) count (λ n low high.
      same n low (omega (arith, high, parties_counted t st)))

  same_parcels : HaveSameParcels t u → t.parcels ≡ u.parcels
  same_parcels same =
      let count : length t.parcels ≡ length u.parcels = sym (parcels_counted t st) ∙ ap (λ (d : Desk). d.parcels) desk ∙ parcels_counted u su in
      same_rows (λ p. p.id) 1 t.parcels u.parcels (parcels_numbered t st) (parcels_numbered u su) count (λ n low high.
      same n low (omega (arith, high, parcels_counted t st)))

  same_files : HaveSameFiles t u → t.files ≡ u.files
  same_files same =
      let count : length t.files ≡ length u.files = sym (files_counted t st) ∙ ap (λ (d : Desk). d.files) desk ∙ files_counted u su in
      same_rows (λ f. f.id) 1 t.files u.files (files_numbered t st) (files_numbered u su) count (λ n low high.
      ap (λ p. p.0) (same n low (omega (arith, high, files_counted t st))))

  alike : HaveSameBehind t u → AreAlike t u
  alike behind =
      let rows = same_files behind.files in
      let kept : map (kept_of t) t.files ≡ map (kept_of u) u.files =
      kept_same t u 1 t.files (files_numbered t st) (λ n low high. ap (λ p. p.1) (behind.files n low (omega (arith, high, files_counted t st))))
      ∙ ap (map (kept_of u)) rows in
      let first = loaded t t.desk t.parties t.parcels t.interests (map (kept_of t) t.files) st refl second refl refl (λ a b. refl) refl in
      let other = loaded u u.desk u.parties u.parcels u.interests (map (kept_of u) u.files) su refl (ap (λ (d : Desk). d.edition) (sym desk) ∙ second) refl refl
      (λ a b. refl) refl in
      record {
        desk = desk;
        upgrade = first.upgrade ∙ ap (λ ks. Some (first_editions ks)) kept ∙ sym other.upgrade;
        parties = same_parties behind.parties;
        parcels = same_parcels behind.parcels;
        interests = behind.interests;
        files = rows;
        papers = λ n. first.papers n ∙ ap (papers_at n) kept ∙ sym (other.papers n);
      }

-- ---- tables that differ somewhere

alike_files : (t u : Tables) → AreAlike t u → (k : ℕ) → HaveSameFile t u k
alike_files t u same k =
    ap (λ rows. (find (λ f. f.id == k) rows, filter (λ p. p.file == k) t.papers)) same.files
    ∙ ap (λ papers. (find (λ f. f.id == k) u.files, papers)) (same.papers k)

differs : (t u : Tables) (place : Difference) → IsFirstDifference t u place → AreAlike t u → ⊥
differs t u difference.Desk other same = other same.desk
differs t u (difference.Party number) other same = let row = other.1 in row.here (ap (find (λ p. p.id == number)) same.parties)
differs t u (difference.Parcel number) other same = let row = other.2 in row.here (ap (find (λ p. p.id == number)) same.parcels)
differs t u difference.Interests other same = other.3 same.interests
differs t u (difference.File number) other same = let row = other.4 in row.here (alike_files t u same number)

-- the first place at which they differ is none where they are alike
pub none_alike : (t u : Tables) (found : Option Difference) → IsSoundTables t → IsSoundTables u → t.desk.edition ≡ Second → t.desk ≡ u.desk → Finds t u found
    → Decides (is_none found) (AreAlike t u)
none_alike t u None st su second desk behind = (λ e. alike t u st su second desk behind, λ same. refl)
none_alike t u (Some place) st su second desk other = (λ e. absurd cc, λ same. absurd (differs t u place other same))

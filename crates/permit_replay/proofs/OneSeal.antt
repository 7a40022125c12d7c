-- Tables that are alike have one text.
use Rattle.std.proofs.Common.{◌≡◌, ℕ, List, [], ◌∷◌, ◌++◌, refl, sym, ◌∙◌, ap}
use Rattle.std.specs.List.{flat_map}
use Rattle.std.proofs.lemmas.List.Concat.{flat_map-cons}
use Rattle.permit_model.specs.Parcels.{Interest}
use Rattle.permit_model.specs.Sound.{papers_in}
use Rattle.permit_model.specs.Tables.{FileRow, Tables}
use Rattle.permit_store.specs.Interests.{DeclareSame}
use Rattle.permit_replay.specs.Alike.{AreAlike}
use Rattle.permit_base.specs.Digests.{digest_of}
use Rattle.permit_replay.specs.Sealing.{IsSealOf}
use Rattle.permit_replay.specs.TablesText.{desk_line, file_lines, interest_line, parcel_line, party_line, tables_text}
use Rattle.permit_replay.proofs.OneOrder.{one_list}

-- what is written of each is the same
same_lines : {A : Type 0} (one two : A → List ℕ) → ((a : A) → one a ≡ two a) → (rows : List A) → flat_map one rows ≡ flat_map two rows
same_lines one two same [] = refl
same_lines one two same (a ∷ rows) =
    flat_map-cons one a rows ∙ ap (λ t. t ++ flat_map one rows) (same a) ∙ ap (λ t. two a ++ t) (same_lines one two same rows) ∙ sym (flat_map-cons two a rows)

module _ (t u : Tables) (same : AreAlike t u) where
  same_files : flat_map (λ f. file_lines f (papers_in t f.id)) t.files ≡ flat_map (λ f. file_lines f (papers_in u f.id)) u.files
  same_files =
      same_lines (λ f. file_lines f (papers_in t f.id)) (λ f. file_lines f (papers_in u f.id)) (λ f. ap (file_lines f) (same.papers f.id)) t.files
      ∙ ap (flat_map (λ (f : FileRow). file_lines f (papers_in u f.id))) same.files

  same_text : (xs ys : List Interest) → xs ≡ ys → tables_text t xs ≡ tables_text u ys
  same_text xs ys listed =
      ap (λ d. desk_line d ++ flat_map party_line t.parties ++ flat_map parcel_line t.parcels ++ flat_map interest_line xs
      ++ flat_map (λ f. file_lines f (papers_in t f.id)) t.files) same.desk
      ∙ ap (λ ps. desk_line u.desk ++ flat_map party_line ps ++ flat_map parcel_line t.parcels ++ flat_map interest_line xs
      ++ flat_map (λ f. file_lines f (papers_in t f.id)) t.files) same.parties
      ∙ ap (λ ps. desk_line u.desk ++ flat_map party_line u.parties ++ flat_map parcel_line ps ++ flat_map interest_line xs
      ++ flat_map (λ f. file_lines f (papers_in t f.id)) t.files) same.parcels
      ∙ ap (λ is. desk_line u.desk ++ flat_map party_line u.parties ++ flat_map parcel_line u.parcels ++ flat_map interest_line is
      ++ flat_map (λ f. file_lines f (papers_in t f.id)) t.files) listed
      ∙ ap (λ text. desk_line u.desk ++ flat_map party_line u.parties ++ flat_map parcel_line u.parcels ++ flat_map interest_line ys ++ text) same_files

  pub one_seal : (d e : List ℕ) → IsSealOf t d → IsSealOf u e → d ≡ e
  one_seal d e first second =
      let declared : DeclareSame first.interests second.interests =
      λ parcel party. first.declared parcel party ∙ same.interests parcel party ∙ sym (second.declared parcel party) in
      first.is ∙ ap digest_of (same_text first.interests second.interests (one_list first.interests second.interests first.rising second.rising declared))
      ∙ sym second.is

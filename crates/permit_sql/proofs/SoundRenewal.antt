-- Sound tables stay sound where a party's token is renewed.
use Rattle.std.proofs.Common.{◌≡◌, ℕ, ◌+◌, ◌==◌, Bool, true, false, cond, List, [], ◌∷◌, map, length, refl, ap, ap₂, ◌∙◌}
use Rattle.std.specs.Prelude.{not, ◌||◌, ◌&&◌, nat_le, is_some, IsTrue, Option, None, Some}
use Rattle.std.specs.List.{list_all}
use Rattle.std.proofs.lemmas.Bool.{and_parts, and_from}
use Rattle.std.proofs.lemmas.List.{length-map}
use Rattle.permit_base.specs.declared.words.Role.{Role}
use Rattle.permit_base.specs.declared.words.Role.TheVariants.{Reviewer, Inspector, Official}
use Rattle.permit_base.specs.Limits.{is_between, latest_day, is_cents}
use Rattle.permit_base.specs.Texts.{is_printable, is_lot, is_digest}
use Rattle.permit_model.specs.Caller.{Party, has_role}
use Rattle.permit_model.specs.Numbering.{is_numbered_from}
use Rattle.permit_model.specs.Parcels.{Parcel, Interest}
use Rattle.permit_model.specs.Tables.{State, FileRow, Paper, Tables, is_notice}
use Rattle.permit_model.specs.Renewal.{with_digest, with_renewed}
use Rattle.permit_model.specs.Sound
use Rattle.permit_model.specs.Sound.{IsSoundTables}
use Rattle.permit_store.proofs.Renewals.{number_alike, role_alike, found_alike, some_mapped}

all_alike : {A : Type 0} (p q : A → Bool) → ((x : A) → p x ≡ q x) → (xs : List A) → list_all p xs ≡ list_all q xs
all_alike p q same [] = refl
all_alike p q same (x ∷ xs) = ap₂ ◌&&◌ (same x) (all_alike p q same xs)

any_alike : (p q : ℕ → Bool) → ((n : ℕ) → p n ≡ q n) → (o : Option ℕ) → Sound.if_any p o ≡ Sound.if_any q o
any_alike p q same None = refl
any_alike p q same (Some n) = same n

module _ (party : ℕ) (digest : List ℕ) where
  numbered_alike : (first : ℕ) (ps : List Party) →
      is_numbered_from (λ (p : Party). p.id) first (map (with_digest party digest) ps) ≡ is_numbered_from (λ (p : Party). p.id) first ps
  numbered_alike first [] = refl
  numbered_alike first (p ∷ ps) = ap₂ (λ n more. (n == first) && more) (number_alike party digest p) (numbered_alike (first + 1) ps)

  sound_by : (p : Party) (b : Bool) → is_digest digest ≡ true → Sound.is_sound_party p ≡ true →
      Sound.is_sound_party (cond b (record p { digest = digest }) p) ≡ true
  sound_by p true good sound = and_from (is_printable p.name) (is_digest digest) (and_parts (is_printable p.name) (is_digest p.digest) sound).0 good
  sound_by p false good sound = sound

  sound_parties : (ps : List Party) → is_digest digest ≡ true → list_all Sound.is_sound_party ps ≡ true →
      list_all Sound.is_sound_party (map (with_digest party digest) ps) ≡ true
  sound_parties [] good sound = refl
  sound_parties (p ∷ ps) good sound =
      let parts = and_parts (Sound.is_sound_party p) (list_all Sound.is_sound_party ps) sound in
      and_from _ _ (sound_by p (p.id == party) good parts.0) (sound_parties ps good parts.1)

  module _ (t : Tables) where
    abbrev after : Tables
    after = with_renewed party digest t

    has_party_alike : (id : ℕ) → Sound.has_party after id ≡ Sound.has_party t id
    has_party_alike id = ap is_some (found_alike party digest t.parties id) ∙ some_mapped (with_digest party digest) (Sound.party_in t id)

    has_party_of_alike : (role : Role) (id : ℕ) → Sound.has_party_of after role id ≡ Sound.has_party_of t role id
    has_party_of_alike role id = ap (has_role role) (found_alike party digest t.parties id) ∙ role_alike party digest role (Sound.party_in t id)

    parcel_alike : (p : Parcel) → Sound.is_sound_parcel after p ≡ Sound.is_sound_parcel t p
    parcel_alike p = ap (λ there. is_lot p.lot && is_printable p.address && there) (has_party_alike p.owner)

    interest_alike : (i : Interest) → Sound.is_sound_interest after i ≡ Sound.is_sound_interest t i
    interest_alike i = ap (λ there. Sound.has_parcel t i.parcel && there) (has_party_alike i.party)

    filing_alike : (f : FileRow) → Sound.is_sound_filing after f ≡ Sound.is_sound_filing t f
    filing_alike f =
        ap (λ there. Sound.has_parcel t f.state.parcel && there && is_cents f.valuation && is_printable f.description
        && is_between 1 t.desk.last f.state.filed) (has_party_alike f.state.applicant)

    people_alike : (s : State) → Sound.has_sound_people after s ≡ Sound.has_sound_people t s
    people_alike s =
        ap₂ (λ a b. a && b && Sound.if_any (Sound.has_party_of after Inspector) s.inspector)
        (any_alike (Sound.has_party after) (Sound.has_party t) has_party_alike s.contractor)
        (any_alike (Sound.has_party_of after Reviewer) (Sound.has_party_of t Reviewer) (has_party_of_alike Reviewer) s.reviewer)
        ∙ ap (λ c. Sound.if_any (Sound.has_party t) s.contractor && Sound.if_any (Sound.has_party_of t Reviewer) s.reviewer && c)
        (any_alike (Sound.has_party_of after Inspector) (Sound.has_party_of t Inspector) (has_party_of_alike Inspector) s.inspector)

    paper_alike : (p : Paper) → Sound.is_sound_paper after p ≡ Sound.is_sound_paper t p
    paper_alike p =
        ap (λ there. Sound.has_file t p.file && there && nat_le p.day t.desk.last && Sound.has_sound_days p && Sound.has_sound_text p
        && Sound.has_sound_terms p && (not p.is_open || is_notice p.sort))
        (has_party_alike p.author)

    pub sound_renewed : IsTrue (is_digest digest) → IsSoundTables t → IsSoundTables after
    sound_renewed good sound = record {
      desk = ap (λ n. is_between 1 latest_day t.desk.last && ((t.desk.parties == n) && (t.desk.parcels == length t.parcels)
          && (t.desk.files == length t.files)) && Sound.has_few_records t.desk && Sound.is_sound_upgrade t)
          (length-map t.parties (with_digest party digest)) ∙ sound.desk;
      numbering = ap (λ a. a && is_numbered_from (λ (p : Parcel). p.id) 1 t.parcels && is_numbered_from (λ (f : FileRow). f.id) 1 t.files)
          (numbered_alike 1 t.parties) ∙ sound.numbering;
      parties = let parts = and_parts (list_all Sound.is_sound_party t.parties) (Sound.has_party_of t Official 1) sound.parties in
          and_from _ _ (sound_parties t.parties good parts.0) (has_party_of_alike Official 1 ∙ parts.1);
      parcels = ap₂ ◌&&◌ (all_alike (Sound.is_sound_parcel after) (Sound.is_sound_parcel t) parcel_alike t.parcels)
          (all_alike (Sound.is_sound_interest after) (Sound.is_sound_interest t) interest_alike t.interests) ∙ sound.parcels;
      filings = all_alike (λ f. Sound.is_sound_filing after f && Sound.has_sound_people after f.state && Sound.has_own_edition after f)
          (λ f. Sound.is_sound_filing t f && Sound.has_sound_people t f.state && Sound.has_own_edition t f)
          (λ f. ap₂ (λ a b. a && b && Sound.has_own_edition t f) (filing_alike f) (people_alike f.state)) t.files ∙ sound.filings;
      stages = sound.stages;
      work = sound.work;
      papers = ap (λ a. a && list_all (λ (f : FileRow). Sound.are_sound_papers_of (Sound.papers_in t f.id) f.state) t.files)
          (all_alike (Sound.is_sound_paper after) (Sound.is_sound_paper t) paper_alike t.papers) ∙ sound.papers;
    }

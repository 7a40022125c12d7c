-- The desk, the numbering, the parties and the parcels of every history are sound.
use Rattle.std.proofs.Common.{◌≡◌, ◌≤◌, ◌<◌, ℕ, Bool, true, false, ◌==◌, List, [], ◌∷◌, ◌++◌, map, length, refl, sym, ◌∙◌, ap, arith, length-append}
use Rattle.std.specs.Prelude.{Option, None, Some, is_some, find, ◌&&◌, nat_le, IsTrue, unwrap_or}
use Rattle.std.specs.List.{list_all}
use Rattle.std.proofs.lemmas.Bool.{eq-eqb, le-leb, leb-false, and_from, and_parts}
use Rattle.std.proofs.lemmas.List.{length-map}
use Rattle.std.proofs.lemmas.List.Folds.{list_all-map}
use Rattle.permit_base.specs.Limits.{most_records, latest_day}
use Rattle.permit_base.specs.Texts.{is_printable, is_lot}
use Rattle.permit_base.proofs.DigestLetters.{is_digest-digest_of}
use Rattle.permit_base.specs.declared.words.Role.{Role}
use Rattle.permit_base.specs.declared.words.Role.TheVariants.{Official}
use Rattle.permit_base.specs.declared.words.Edition.{Edition}
use Rattle.permit_model.specs.Codes.{is_edition}
use Rattle.permit_model.specs.Search.{in_order, add_last, latest}
use Rattle.permit_model.specs.History.{Deed, Entry, History, edition, last_day}
use Rattle.permit_model.specs.Caller.{Party, party_by, party_made, parties, party_numbered, is_party, has_role}
use Rattle.permit_model.specs.Parcels.{Parcel, parcel_added, parcel_by, parcel_now, parcels, parcel_numbered, receiver_by, Interest, interest_by, interests}
use Rattle.permit_model.specs.Files.{filings, case_file, case_files}
use Rattle.permit_model.specs.Tables.{file_row, tables, edition_by, files_at_upgrade}
use Rattle.permit_model.specs.Machine.{MayFollow, IsFounding, IsHistory}
use Rattle.permit_model.specs.Within.{is_deed_within, AreWithinLimits}
use Rattle.permit_model.specs.Sound.{if_any, is_sound_desk, are_numbered, is_sound_party, are_sound_parties, is_sound_parcel, are_sound_parcels}
use Rattle.permit_model.proofs.Lists.{find_mapped, numbered_mapped}
use Rattle.permit_model.proofs.Fronts.{all_pass}
use Rattle.permit_model.proofs.Numbers.{parties_numbered, parcels_numbered, case_files_numbered}
use Rattle.permit_model.proofs.Editions.{counted, IsWithin}
use Rattle.permit_model.proofs.SoundLists.{between, numbered_test, all_last, all_more, found_last, there_last, mapped_there}

abbrev pub entry_by : (caller day : ℕ) → Deed → Option ℕ → Entry
entry_by caller day deed number = record { caller = caller; day = day; deed = deed; number = number }

-- ---- what is there stays

role_by : (role : Role) (old new : Option Party) → ((p : Party) → old ≡ Some p → new ≡ Some p) → has_role role old ≡ true → has_role role new ≡ true
role_by role old new stays e = grind arith

pub role_stays : (h : History) (entry : Entry) (role : Role) (id : ℕ) → has_role role (party_numbered h id) ≡ true →
    has_role role (party_numbered (entry ∷ h) id) ≡ true
role_stays h entry role id e = grind (arith, role_by, found_last)

pub party_stays : (h : History) (entry : Entry) (id : ℕ) → is_party h id ≡ true → is_party (entry ∷ h) id ≡ true
party_stays h entry id e = there_last (λ (p : Party). p.id == id) (parties h) (party_made entry) e

-- a parcel is there now where it was added
added_there : (h : History) (id : ℕ) → is_some (parcel_numbered h id) ≡ is_some (find (λ (p : Parcel). p.id == id) (in_order parcel_added h))
added_there h id = ap is_some (find_mapped (parcel_now h) (λ (p : Parcel). p.id == id) (λ (p : Parcel). p.id == id) (λ p. refl) (in_order parcel_added h))
    ∙ mapped_there (parcel_now h) (find (λ (p : Parcel). p.id == id) (in_order parcel_added h))

pub parcel_stays : (h : History) (entry : Entry) (id : ℕ) → is_some (parcel_numbered h id) ≡ true → is_some (parcel_numbered (entry ∷ h) id) ≡ true
parcel_stays h entry id e = added_there (entry ∷ h) id
    ∙ there_last (λ (p : Parcel). p.id == id) (in_order parcel_added h) (parcel_added entry) (sym (added_there h id) ∙ e)

-- ---- the desk

-- the day of a founding is above 0, and days never fall
begun_deed : (h : History) (caller day : ℕ) (deed : Deed) (number : Option ℕ) → MayFollow h (entry_by caller day deed number) deed → 0 < last_day h → 0 < day
begun_deed h caller day deed number may ih = grind arith

begun_first : (caller day : ℕ) (deed : Deed) (number : Option ℕ) → IsFounding (entry_by caller day deed number) deed → 0 < day
begun_first caller day deed number is = grind arith

pub begun : (h : History) → IsHistory h → 0 < last_day h
begun [] is = absurd is
begun (entry ∷ []) is = begun_first entry.caller entry.day entry.deed entry.number is
begun (entry ∷ last ∷ before) is = begun_deed (last ∷ before) entry.caller entry.day entry.deed entry.number is.0 (begun (last ∷ before) is.1)

-- one record more, where there are fewer than the most
few_last : {A : Type 0} (xs : List A) (x : A) (most : ℕ) → nat_le most (length xs) ≡ false → length (xs ++ x ∷ []) ≤ most
few_last xs x most e = omega (arith, length-append xs (x ∷ []), leb-false most (length xs) e)

-- between one and the most
abbrev pub AreSome : ℕ → Type 0
AreSome count = (1 ≤ count) × (count ≤ most_records)

parties_deed : (h : History) (caller day : ℕ) (deed : Deed) (number : Option ℕ) → MayFollow h (entry_by caller day deed number) deed →
    AreSome (length (parties h)) → AreSome (length (parties (entry_by caller day deed number ∷ h)))
parties_deed h caller day deed number may ih = grind (arith, all_pass, length-append, few_last)

parties_first : (caller day : ℕ) (deed : Deed) (number : Option ℕ) → IsFounding (entry_by caller day deed number) deed →
    AreSome (length (parties (entry_by caller day deed number ∷ [])))
parties_first caller day deed number is = grind arith

-- there is a party, and there are at most so many
pub some_parties : (h : History) → IsHistory h → AreSome (length (parties h))
some_parties [] is = absurd is
some_parties (entry ∷ []) is = parties_first entry.caller entry.day entry.deed entry.number is
some_parties (entry ∷ last ∷ before) is = parties_deed (last ∷ before) entry.caller entry.day entry.deed entry.number is.0
    (some_parties (last ∷ before) is.1)

parcels_deed : (h : History) (caller day : ℕ) (deed : Deed) (number : Option ℕ) → MayFollow h (entry_by caller day deed number) deed →
    length (in_order parcel_added h) ≤ most_records → length (in_order parcel_added (entry_by caller day deed number ∷ h)) ≤ most_records
parcels_deed h caller day deed number may ih = grind (arith, all_pass, leb-false, length-append, length-map)

parcels_first : (caller day : ℕ) (deed : Deed) (number : Option ℕ) → IsFounding (entry_by caller day deed number) deed →
    length (in_order parcel_added (entry_by caller day deed number ∷ [])) ≤ most_records
parcels_first caller day deed number is = grind arith

few_added : (h : History) → IsHistory h → length (in_order parcel_added h) ≤ most_records
few_added [] is = absurd is
few_added (entry ∷ []) is = parcels_first entry.caller entry.day entry.deed entry.number is
few_added (entry ∷ last ∷ before) is = parcels_deed (last ∷ before) entry.caller entry.day entry.deed entry.number is.0 (few_added (last ∷ before) is.1)

-- there are at most so many parcels
pub few_parcels : (h : History) → IsHistory h → length (parcels h) ≤ most_records
few_parcels h is = omega (arith, few_added h is, length-map (in_order parcel_added h) (parcel_now h))

filings_deed : (h : History) (caller day : ℕ) (deed : Deed) (number : Option ℕ) → MayFollow h (entry_by caller day deed number) deed →
    length (filings h) ≤ most_records → length (filings (entry_by caller day deed number ∷ h)) ≤ most_records
filings_deed h caller day deed number may ih = grind (arith, few_last, all_pass)

filings_first : (caller day : ℕ) (deed : Deed) (number : Option ℕ) → IsFounding (entry_by caller day deed number) deed →
    length (filings (entry_by caller day deed number ∷ [])) ≤ most_records
filings_first caller day deed number is = grind arith

few_filings : (h : History) → IsHistory h → length (filings h) ≤ most_records
few_filings [] is = absurd is
few_filings (entry ∷ []) is = filings_first entry.caller entry.day entry.deed entry.number is
few_filings (entry ∷ last ∷ before) is = filings_deed (last ∷ before) entry.caller entry.day entry.deed entry.number is.0 (few_filings (last ∷ before) is.1)

same_edition : (e : Edition) → is_edition e e ≡ true
same_edition e = grind arith

pub edition_told : (e at : Edition) → e ≡ at → is_edition e at ≡ true
edition_told e at same = ap (is_edition e) (sym same) ∙ same_edition e

upto_now : (at : Option ℕ) (made files : ℕ) → IsWithin at made → files ≡ made → if_any (λ count. nat_le count files) at ≡ true
upto_now at made files within same = grind arith

pub desk_sound : (h : History) → IsHistory h → last_day h ≤ latest_day → IsTrue (is_sound_desk (tables h))
desk_sound h is early =
    let files : length (case_files h) ≡ length (filings h) = length-map (filings h) (case_file h) in
    let day = between 1 latest_day (last_day h) (omega (arith, begun h is)) early in
    let counts = and_from _ _ (and_from _ _ (eq-eqb (length (parties h)) (length (parties h)) refl)
    (eq-eqb (length (parcels h)) (length (parcels h)) refl))
    (eq-eqb (length (case_files h)) (length (map file_row (case_files h))) (sym (length-map (case_files h) file_row))) in
    let few = and_from _ _ (and_from _ _ (between 1 most_records (length (parties h)) (some_parties h is).0 (some_parties h is).1)
    (le-leb (length (parcels h)) most_records (few_parcels h is)))
    (le-leb (length (case_files h)) most_records (omega (arith, files, few_filings h is))) in
    let upgrade = and_from _ _ (edition_told (edition h) (edition_by (files_at_upgrade h)) (counted h).now)
    (upto_now (files_at_upgrade h) (length (filings h)) (length (case_files h)) (counted h).within files) in
    and_from _ _ (and_from _ _ (and_from _ _ day counts) few) upgrade

-- ---- numbering

pub numbering_sound : (h : History) → IsHistory h → IsTrue (are_numbered (tables h))
numbering_sound h is = grind (arith, and_from, numbered_test, parties_numbered, parcels_numbered, numbered_mapped, case_files_numbered)

-- ---- parties

party_within : (h : History) (caller day : ℕ) (deed : Deed) (number : Option ℕ) → is_deed_within deed ≡ true → (p : Party) →
    party_by deed number ≡ Some p → is_sound_party p ≡ true
party_within h caller day deed number within p made = grind (arith, and_from, is_digest-digest_of)

all_parties : (h : History) → AreWithinLimits h → list_all is_sound_party (parties h) ≡ true
all_parties [] within = refl
all_parties (entry ∷ before) within =
    let parts = and_parts (is_deed_within entry.deed) (list_all (λ e. is_deed_within e.deed) before) within in
    all_last is_sound_party (parties before) (party_made entry) (all_parties before parts.1)
    (party_within before entry.caller entry.day entry.deed entry.number parts.0)

official_first : (caller day : ℕ) (deed : Deed) (number : Option ℕ) → IsFounding (entry_by caller day deed number) deed →
    has_role Official (party_numbered (entry_by caller day deed number ∷ []) 1) ≡ true
official_first caller day deed number is = grind arith

-- party 1 is an official
pub official : (h : History) → IsHistory h → has_role Official (party_numbered h 1) ≡ true
official [] is = absurd is
official (entry ∷ []) is = official_first entry.caller entry.day entry.deed entry.number is
official (entry ∷ last ∷ before) is = role_stays (last ∷ before) entry Official 1 (official (last ∷ before) is.1)

pub parties_sound : (h : History) → IsHistory h → AreWithinLimits h → IsTrue (are_sound_parties (tables h))
parties_sound h is within = and_from _ _ (all_parties h within) (official h is)

-- ---- parcels

-- a parcel as it was added, with its first owner
abbrev pub is_added : History → Parcel → Bool
is_added h p = is_lot p.lot && is_printable p.address && is_party h p.owner

added_stays : (h : History) (entry : Entry) (p : Parcel) → is_added h p ≡ true → is_added (entry ∷ h) p ≡ true
added_stays h entry p e = grind (arith, and_parts, and_from, party_stays)

new_added : (h : History) (caller day : ℕ) (deed : Deed) (number : Option ℕ) → MayFollow h (entry_by caller day deed number) deed → is_deed_within deed ≡ true →
    (p : Parcel) → parcel_by deed number ≡ Some p → is_added h p ≡ true
new_added h caller day deed number may within p made = grind arith

added_first : (caller day : ℕ) (deed : Deed) (number : Option ℕ) → IsFounding (entry_by caller day deed number) deed → parcel_by deed number ≡ None
added_first caller day deed number is = grind arith

added_more : (h : History) (entry : Entry) → MayFollow h entry entry.deed → is_deed_within entry.deed ≡ true →
    list_all (is_added h) (in_order parcel_added h) ≡ true → list_all (is_added (entry ∷ h)) (in_order parcel_added (entry ∷ h)) ≡ true
added_more h entry may within ih = grind (arith, all_last, all_more, added_stays, new_added)

all_added : (h : History) → IsHistory h → AreWithinLimits h → list_all (is_added h) (in_order parcel_added h) ≡ true
all_added [] is within = absurd is
all_added (entry ∷ []) is within =
    ap (λ o. list_all (is_added (entry ∷ [])) (add_last [] o)) (added_first entry.caller entry.day entry.deed entry.number is)
all_added (entry ∷ last ∷ before) is within =
    let parts = and_parts (is_deed_within entry.deed) (list_all (λ e. is_deed_within e.deed) (last ∷ before)) within in
    added_more (last ∷ before) entry is.0 parts.0 (all_added (last ∷ before) is.1 parts.1)

receiver_deed : (h : History) (id caller day : ℕ) (deed : Deed) (number : Option ℕ) (party : ℕ) → MayFollow h (entry_by caller day deed number) deed →
    latest (λ (e : Entry). receiver_by id e.deed) (entry_by caller day deed number ∷ h) ≡ Some party →
    (latest (λ (e : Entry). receiver_by id e.deed) h ≡ Some party → is_party h party ≡ true) → is_party h party ≡ true
receiver_deed h id caller day deed number party may e ih = grind arith

receiver_first : (id caller day : ℕ) (deed : Deed) (number : Option ℕ) → IsFounding (entry_by caller day deed number) deed →
    latest (λ (e : Entry). receiver_by id e.deed) (entry_by caller day deed number ∷ []) ≡ None
receiver_first id caller day deed number is = grind arith

nobody : (o : Option ℕ) (party : ℕ) → o ≡ None → o ≡ Some party → ⊥
nobody o party none e = grind arith

receiver_there : (h : History) (id party : ℕ) → IsHistory h → latest (λ (e : Entry). receiver_by id e.deed) h ≡ Some party → is_party h party ≡ true
receiver_there [] id party is e = absurd is
receiver_there (entry ∷ []) id party is e =
    absurd (nobody _ party (receiver_first id entry.caller entry.day entry.deed entry.number is) e)
receiver_there (entry ∷ last ∷ before) id party is e =
    party_stays (last ∷ before) entry party (receiver_deed (last ∷ before) id entry.caller entry.day entry.deed entry.number party is.0 e
    (receiver_there (last ∷ before) id party is.1))

owner_there : (h : History) (o : Option ℕ) (first : ℕ) → ((party : ℕ) → o ≡ Some party → is_party h party ≡ true) → is_party h first ≡ true →
    is_party h (unwrap_or o first) ≡ true
owner_there h o first each there = grind arith

parcel_sound : (h : History) → IsHistory h → (p : Parcel) → is_added h p ≡ true → is_sound_parcel (tables h) (parcel_now h p) ≡ true
parcel_sound h is p e =
    let parts = and_parts (is_lot p.lot && is_printable p.address) (is_party h p.owner) e in
    and_from _ _ parts.0
    (owner_there h (latest (λ (e : Entry). receiver_by p.id e.deed) h) p.owner (λ party. receiver_there h p.id party is) parts.1)

-- ---- interests

abbrev pub is_declared : History → Interest → Bool
is_declared h i = is_some (parcel_numbered h i.parcel) && is_party h i.party

declared_stays : (h : History) (entry : Entry) (i : Interest) → is_declared h i ≡ true → is_declared (entry ∷ h) i ≡ true
declared_stays h entry i e = grind (arith, and_parts, and_from, parcel_stays, party_stays)

new_declared : (h : History) (caller day : ℕ) (deed : Deed) (number : Option ℕ) → MayFollow h (entry_by caller day deed number) deed →
    (i : Interest) → interest_by deed caller ≡ Some i → is_declared h i ≡ true
new_declared h caller day deed number may i made = grind arith

declared_first : (caller day : ℕ) (deed : Deed) (number : Option ℕ) → IsFounding (entry_by caller day deed number) deed → interest_by deed caller ≡ None
declared_first caller day deed number is = grind arith

declared_more : (h : History) (entry : Entry) → MayFollow h entry entry.deed → list_all (is_declared h) (interests h) ≡ true →
    list_all (is_declared (entry ∷ h)) (interests (entry ∷ h)) ≡ true
declared_more h entry may ih = grind (arith, all_last, all_more, declared_stays, new_declared)

all_declared : (h : History) → IsHistory h → list_all (is_declared h) (interests h) ≡ true
all_declared [] is = absurd is
all_declared (entry ∷ []) is =
    ap (λ o. list_all (is_declared (entry ∷ [])) (add_last [] o)) (declared_first entry.caller entry.day entry.deed entry.number is)
all_declared (entry ∷ last ∷ before) is = declared_more (last ∷ before) entry is.0 (all_declared (last ∷ before) is.1)

pub parcels_sound : (h : History) → IsHistory h → AreWithinLimits h → IsTrue (are_sound_parcels (tables h))
parcels_sound h is within =
    and_from _ _ (list_all-map (is_sound_parcel (tables h)) (parcel_now h) (in_order parcel_added h)
    ∙ all_more (is_added h) (λ p. is_sound_parcel (tables h) (parcel_now h p)) (in_order parcel_added h) (parcel_sound h is) (all_added h is within))
    (all_declared h is)

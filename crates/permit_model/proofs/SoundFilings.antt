-- The filings, the people, the stages and the deadlines of the files of every history are sound.
use Rattle.std.proofs.Common.{◌≡◌, ◌≤◌, ℕ, ◌+◌, Bool, true, List, [], ◌∷◌, map, ◌∙◌, ap, arith}
use Rattle.std.specs.Prelude.{Option, Some, is_some, ◌&&◌, IsTrue}
use Rattle.std.specs.List.{list_all}
use Rattle.std.proofs.lemmas.Bool.{and_from, and_parts}
use Rattle.std.proofs.lemmas.List.Folds.{list_all-map}
use Rattle.permit_base.specs.Limits.{is_between, is_cents, latest_day, latest_deadline}
use Rattle.permit_base.specs.Texts.{is_printable}
use Rattle.permit_base.specs.declared.words.Role.TheVariants.{Reviewer, Inspector}
use Rattle.permit_model.specs.Days.{term}
use Rattle.permit_model.specs.History.{Deed, Entry, History, edition, last_day}
use Rattle.permit_model.specs.Caller.{is_party, party_numbered, has_role}
use Rattle.permit_model.specs.Parcels.{parcel_numbered}
use Rattle.permit_model.specs.Files.{Filing, Act, acts_on, CaseFile, filing_by, filing_made, filings, case_file, case_files, case_numbered}
use Rattle.permit_model.specs.People.{contractor, reviewer, inspector}
use Rattle.permit_model.specs.BaseStage.{base_stage}
use Rattle.permit_model.specs.Deadline.{deadline}
use Rattle.permit_model.specs.Tables.{FileRow, file_row, state_of, tables}
use Rattle.permit_model.specs.Machine.{MayFollow, IsFounding, IsHistory}
use Rattle.permit_model.specs.Laws.{OfEachFile}
use Rattle.permit_model.specs.Within.{is_deed_within, AreWithinLimits}
use Rattle.permit_model.specs.Sound.{if_any, is_sound_filing, has_sound_people, has_own_edition, are_sound_filings, has_sound_stage, are_sound_stages}
use Rattle.permit_model.proofs.Numbers.{all_files}
use Rattle.permit_model.proofs.Editions.{edition_by_number}
use Rattle.permit_model.proofs.SoundStates.{base_stored, stands_in, anchored}
use Rattle.permit_model.proofs.FileLaws.{deadline_least, deadline_most}
use Rattle.permit_model.proofs.SoundLists.{between, any_from, any_more, all_last, all_more, all_passing, all_two, between_later}
use Rattle.permit_model.proofs.SoundOffice.{entry_by, party_stays, role_stays, parcel_stays, begun, edition_told}

-- ---- filings

-- days never fall
pub later_day : (h : History) (caller day : ℕ) (deed : Deed) (number : Option ℕ) → MayFollow h (entry_by caller day deed number) deed → last_day h ≤ day
later_day h caller day deed number may = grind arith

abbrev pub is_filed : History → Filing → Bool
is_filed h f =
    is_some (parcel_numbered h f.parcel) && is_party h f.applicant && is_cents f.valuation && is_printable f.description && is_between 1 (last_day h) f.filed

filed_stays : (h : History) (entry : Entry) (f : Filing) → last_day h ≤ entry.day → is_filed h f ≡ true → is_filed (entry ∷ h) f ≡ true
filed_stays h entry f later e = grind (arith, and_parts, and_from, parcel_stays, party_stays, between_later)

new_filed : (h : History) (caller day : ℕ) (deed : Deed) (number : Option ℕ) → 1 ≤ last_day h → MayFollow h (entry_by caller day deed number) deed →
    is_deed_within deed ≡ true → (f : Filing) → filing_by (edition h) deed number caller day ≡ Some f → is_filed (entry_by caller day deed number ∷ h) f ≡ true
new_filed h caller day deed number h2 may within f made = grind arith

filed_more : (h : History) (entry : Entry) → 1 ≤ last_day h → MayFollow h entry entry.deed → is_deed_within entry.deed ≡ true →
    list_all (is_filed h) (filings h) ≡ true → list_all (is_filed (entry ∷ h)) (filings (entry ∷ h)) ≡ true
filed_more h entry begun may within ih =
    all_last (is_filed (entry ∷ h)) (filings h) (filing_made h entry)
    (all_more (is_filed h) (is_filed (entry ∷ h)) (filings h)
    (λ f. filed_stays h entry f (later_day h entry.caller entry.day entry.deed entry.number may)) ih)
    (new_filed h entry.caller entry.day entry.deed entry.number begun may within)

filed_first : (caller day : ℕ) (deed : Deed) (number : Option ℕ) → IsFounding (entry_by caller day deed number) deed →
    filings (entry_by caller day deed number ∷ []) ≡ []
filed_first caller day deed number is = grind arith

all_filed : (h : History) → IsHistory h → AreWithinLimits h → list_all (is_filed h) (filings h) ≡ true
all_filed [] is within = absurd is
all_filed (entry ∷ []) is within = ap (list_all (is_filed (entry ∷ []))) (filed_first entry.caller entry.day entry.deed entry.number is)
all_filed (entry ∷ last ∷ before) is within =
    let parts = and_parts (is_deed_within entry.deed) (list_all (λ e. is_deed_within e.deed) (last ∷ before)) within in
    filed_more (last ∷ before) entry (omega (arith, begun (last ∷ before) is.1)) is.0 parts.0 (all_filed (last ∷ before) is.1 parts.1)

-- ---- people

-- the people that are named are there, in their roles
pub record AreThere (h : History) (builds reviews inspects : Option ℕ) : Type 0 where
  pub contractor : if_any (is_party h) builds ≡ true
  pub reviewer : if_any (λ id. has_role Reviewer (party_numbered h id)) reviews ≡ true
  pub inspector : if_any (λ id. has_role Inspector (party_numbered h id)) inspects ≡ true

abbrev pub PeopleOf : History → List Act → Type 0
PeopleOf h acts = AreThere h (contractor acts) (reviewer acts) (inspector acts)

people_deed : (h : History) (id caller day : ℕ) (deed : Deed) (number : Option ℕ) → MayFollow h (entry_by caller day deed number) deed →
    PeopleOf h (acts_on id h) → PeopleOf h (acts_on id (entry_by caller day deed number ∷ h))
people_deed h id caller day deed number may p = grind arith

people_stay : (h : History) (entry : Entry) (acts : List Act) → PeopleOf h acts → PeopleOf (entry ∷ h) acts
people_stay h entry acts p = grind (arith, any_more, party_stays, role_stays)

people_first : (h : History) (id caller day : ℕ) (deed : Deed) (number : Option ℕ) → IsFounding (entry_by caller day deed number) deed →
    PeopleOf h (acts_on id (entry_by caller day deed number ∷ []))
people_first h id caller day deed number is = grind arith

-- whoever was named for a file is there
pub people : (h : History) (id : ℕ) → IsHistory h → PeopleOf h (acts_on id h)
people [] id is = absurd is
people (entry ∷ []) id is = people_first (entry ∷ []) id entry.caller entry.day entry.deed entry.number is
people (entry ∷ last ∷ before) id is = people_stay (last ∷ before) entry (acts_on id (entry ∷ last ∷ before))
    (people_deed (last ∷ before) id entry.caller entry.day entry.deed entry.number is.0 (people (last ∷ before) id is.1))

file_filed : (h : History) → IsHistory h → (f : Filing) → is_filed h f ≡ true →
    (is_sound_filing (tables h) (file_row (case_file h f)) && has_sound_people (tables h) (state_of (case_file h f))) ≡ true
file_filed h is f e =
    let p = people h f.id is in
    and_from _ _ e (and_from _ _ (and_from _ _ p.contractor p.reviewer) p.inspector)

-- what each file's row passes, all rows of the table pass
pub all_rows : (test : FileRow → Bool) (h : History) → IsHistory h →
    ((id : ℕ) (file : CaseFile) → case_numbered h id ≡ Some file → test (file_row file) ≡ true) → list_all test (map file_row (case_files h)) ≡ true
all_rows test h is each = list_all-map test file_row (case_files h)
    ∙ all_passing (λ file. test (file_row file)) (case_files h) (all_files (λ file. test (file_row file) ≡ true) h is each)

edition_sound : OfEachFile (λ h file. has_own_edition (tables h) (file_row file) ≡ true)
edition_sound h id file is there = grind (arith, edition_told, edition_by_number)

pub filings_sound : (h : History) → IsHistory h → AreWithinLimits h → IsTrue (are_sound_filings (tables h))
filings_sound h is within =
    let named = list_all-map (λ f. is_sound_filing (tables h) f && has_sound_people (tables h) f.state) file_row (case_files h)
    ∙ list_all-map (λ file. is_sound_filing (tables h) (file_row file) && has_sound_people (tables h) (state_of file)) (case_file h) (filings h)
    ∙ all_more (is_filed h) (λ f. is_sound_filing (tables h) (file_row (case_file h f)) && has_sound_people (tables h) (state_of (case_file h f))) (filings h)
    (file_filed h is) (all_filed h is within) in
    all_two (λ f. is_sound_filing (tables h) f && has_sound_people (tables h) f.state) (has_own_edition (tables h))
    (λ f. is_sound_filing (tables h) f && has_sound_people (tables h) f.state && has_own_edition (tables h) f) (tables h).files
    (λ f e g. and_from _ _ e g) named (all_rows (has_own_edition (tables h)) h is (λ id file there. edition_sound h id file is there))

-- ---- stages and deadlines

stage_sound : OfEachFile (λ h file. last_day h ≤ latest_day → has_sound_stage (state_of file) ≡ true)
stage_sound h id file is there early =
    and_from _ _ (and_from _ _ (base_stored file.acts) (stands_in (base_stage file.acts) file.filing.filed file.acts (anchored file.acts)))
    (any_from (is_between (file.filing.filed + term) latest_deadline) (deadline file)
    (λ d e. between (file.filing.filed + term) latest_deadline d (deadline_least h id file is there d e) (deadline_most h id file is there early d e)))

pub stages_sound : (h : History) → IsHistory h → last_day h ≤ latest_day → IsTrue (are_sound_stages (tables h))
stages_sound h is early = all_rows (λ f. has_sound_stage f.state) h is (λ id file there. stage_sound h id file is there early)

-- Typed tables are sound exactly where an open finds them so.
use Rattle.std.proofs.Common.{◌≡◌, ℕ, zero, suc, ◌+◌, ◌-◌, ◌≤◌, Bool, true, not, eqb, List, [], ◌∷◌, map, filter, find, length, refl, sym}
use Rattle.std.proofs.Common.{ap, subst, ◌∙◌, arith}
use Rattle.std.specs.Prelude.{◌&&◌, ◌||◌, ◌==◌, nat_lt, nat_le, Option, None, Some, is_some, is_none, IfSome, option_map, slice_get}
use Rattle.std.specs.List.{list_all, AllByRecursion}
use Rattle.std.proofs.lemmas.Bool.{and_parts, and_from, eq-eqb, le-leb}
use Rattle.std.proofs.lemmas.Bool.Decides.{nat_tests}
use Rattle.permit_base.specs.declared.words.Role.{Role}
use Rattle.permit_base.specs.declared.words.Role.TheVariants.{Reviewer, Inspector, Official}
use Rattle.permit_base.specs.declared.words.Edition.{Edition}
use Rattle.permit_base.specs.declared.words.Edition.TheVariants as edition
use Rattle.permit_base.specs.Limits.{is_between, most_papers, most_cents, latest_day, latest_deadline, is_cents}
use Rattle.permit_base.specs.Texts.{is_printable}
use Rattle.permit_model.specs.Codes.{is_edition}
use Rattle.permit_model.specs.Caller.{Party, has_role}
use Rattle.permit_model.specs.Parcels.{Parcel, Interest}
use Rattle.permit_model.specs.Numbering.{is_numbered_from}
use Rattle.permit_model.specs.Tables.{Tables, State, FileRow, Paper, edition_by, edition_numbered, next_in_row}
use Rattle.permit_model.specs.SoundState.{is_stored, is_sound_state, deadline_stands, is_for, request_dated, is_completed, is_certified, is_finished}
use Rattle.permit_model.specs.Steps.{required_steps, has_certificates}
use Rattle.permit_model.specs.Days.{term, longest_temporary}
use Rattle.permit_model.specs.Sound
use Rattle.permit_model.specs.Sound.{IsSoundTables, if_any, has_party, has_party_of, has_parcel, has_file, papers_in, has_few_records, is_done_in, is_begun}
use Rattle.permit_sql_rows.specs.Kept.{IsNamed, AreKeyed}
use Rattle.permit_sql_rows.specs.Typed.{IsObject, IsFile, IsParcel, IsInterest}
use Rattle.permit_sql.specs.Found.{IsNumbered, AreTyped}
use Rattle.permit_sql.specs.Tested
use Rattle.permit_sql.proofs.Numbered.{find_numbered, get_map}

-- ---- tests of lists

pub all_true : {A : Type 0} (test : A → Bool) (xs : List A) → list_all test xs ≡ true → AllByRecursion (λ x. test x ≡ true) xs
all_true test [] h = tt
all_true test (x ∷ xs) h = let parts = and_parts (test x) (list_all test xs) h in (parts.0, all_true test xs parts.1)

pub true_all : {A : Type 0} (test : A → Bool) (xs : List A) → AllByRecursion (λ x. test x ≡ true) xs → list_all test xs ≡ true
true_all test [] h = refl
true_all test (x ∷ xs) h = and_from (test x) (list_all test xs) h.0 (true_all test xs h.1)

-- two facts of each give a third
pub all_by_two : {A : Type 0} {P Q R : A → Type 0} → ((x : A) → P x → Q x → R x) → (xs : List A) → AllByRecursion P xs → AllByRecursion Q xs →
    AllByRecursion R xs
all_by_two f [] p q = tt
all_by_two f (x ∷ xs) p q = (f x p.0 q.0, all_by_two f xs p.1 q.1)

pub all_by_one : {A : Type 0} {P R : A → Type 0} → ((x : A) → P x → R x) → (xs : List A) → AllByRecursion P xs → AllByRecursion R xs
all_by_one f [] p = tt
all_by_one f (x ∷ xs) p = (f x p.0, all_by_one f xs p.1)

-- ---- numbers of objects

there_at : {A : Type 0} (xs : List A) (at : ℕ) → is_some (slice_get xs at) ≡ nat_lt at (length xs)
there_at [] at = grind (arith, nat_tests)
there_at (x ∷ xs) zero = grind (arith, nat_tests)
there_at (x ∷ xs) (suc at) = there_at xs at ∙ grind (arith, nat_tests)

below_next : (id n : ℕ) → 1 ≤ id → nat_lt (id - 1) n ≡ nat_le id n
below_next id n low = grind (arith, nat_tests)

-- an object is there where its number is among so many
there_numbered : {A : Type 0} (number : A → ℕ) (xs : List A) → IsNumbered number 1 xs → (id : ℕ) → 1 ≤ id →
    is_some (find (λ x. eqb (number x) id) xs) ≡ nat_le id (length xs)
there_numbered number xs up id low = ap is_some (find_numbered number 1 xs up id low) ∙ there_at xs (id - 1) ∙ below_next id (length xs) low

numbered_is : {A : Type 0} (number : A → ℕ) (n : ℕ) (xs : List A) → IsNumbered number n xs → is_numbered_from number n xs ≡ true
numbered_is number n [] up = refl
numbered_is number n (x ∷ xs) up =
    let next : suc n ≡ n + 1 = omega arith in
    and_from _ _ (eq-eqb (number x) n up.0) (subst (λ m. is_numbered_from number m xs ≡ true) next (numbered_is number (suc n) xs up.1))

-- ---- roles

role_at : (role : Role) (o : Option Party) → has_role role o ≡ Tested.is_that_role role (option_map (λ p. p.role) o)
role_at role None = refl
role_at role (Some p) = refl

module _ (t : Tables) (typed : AreTyped t) where
  party_there : (id : ℕ) → IsObject id → has_party t id ≡ nat_le id (length t.parties)
  party_there id is = there_numbered (λ p. p.id) t.parties typed.party_numbers id is.0

  pub role_there : (role : Role) (id : ℕ) → 1 ≤ id → has_party_of t role id ≡ Tested.has_role_at (map (λ p. p.role) t.parties) role id
  role_there role id low =
      ap (has_role role) (find_numbered (λ p. p.id) 1 t.parties typed.party_numbers id low)
      ∙ role_at role (slice_get t.parties (id - 1))
      ∙ ap (Tested.is_that_role role) (sym (get_map (λ (p : Party). p.role) t.parties (id - 1)))

  pub parcel_there : (id : ℕ) → IsObject id → has_parcel t id ≡ nat_le id t.desk.parcels
  parcel_there id is = there_numbered (λ p. p.id) t.parcels typed.parcel_numbers id is.0 ∙ ap (nat_le id) typed.parcel_count

  pub file_there : (id : ℕ) → IsObject id → has_file t id ≡ nat_le id t.desk.files
  file_there id is = there_numbered (λ f. f.id) t.files typed.file_numbers id is.0 ∙ ap (nat_le id) typed.file_count

  pub among : (id : ℕ) → IsObject id → has_party t id ≡ nat_le id t.desk.parties
  among id is = party_there id is ∙ ap (nat_le id) typed.party_count

-- ---- what a row's type says

any_same : (P Q : ℕ → Bool) (o : Option ℕ) → ((n : ℕ) → o ≡ Some n → P n ≡ Q n) → if_any P o ≡ if_any Q o
any_same P Q None each = refl
any_same P Q (Some n) each = each n refl

object_in : (o : Option ℕ) → IfSome o IsObject → (n : ℕ) → o ≡ Some n → IsObject n
object_in None some n e = absurd (let is = e in cc)
object_in (Some m) some n e = let same : m ≡ n = cc in subst IsObject same some

same_edition : (a b : Edition) → a ≡ b → is_edition a b ≡ true
same_edition a b e = subst (λ x. is_edition a x ≡ true) e (go a)
  where
    go : (x : Edition) → is_edition x x ≡ true
    go edition.First = refl
    go edition.Second = refl

-- what a sound state keeps to
record OfState (s : State) : Type 0 where
  stored : is_stored s.stage ≡ true
  stands : deadline_stands s ≡ true
  asked : is_for s.request (next_in_row s) ≡ true
  dated : request_dated s ≡ true

of_state : (s : State) → is_sound_state s ≡ true → OfState s
of_state s h =
    let one = and_parts _ (not (is_certified s.stage) || not s.stopped) h in
    let two = and_parts _ (not (is_completed s.stage) || is_finished s) one.0 in
    let three = and_parts _ (request_dated s) two.0 in
    let four = and_parts _ (is_for s.request (next_in_row s)) three.0 in
    let five = and_parts _ (deadline_stands s) four.0 in
    let six = and_parts (is_stored s.stage) _ five.0 in
    record { stored = six.0; stands = five.1; asked = four.1; dated = three.1 }

-- ---- the files

module _ (t : Tables) (typed : AreTyped t) (keyed : AreKeyed t) where
  abbrev roles : List Role
  roles = map (λ (p : Party). p.role) t.parties

  long_roles : (ps : List Party) → length (map (λ (p : Party). p.role) ps) ≡ length ps
  long_roles [] = refl
  long_roles (p ∷ ps) = ap suc (long_roles ps)

  pub by_roles : (id : ℕ) → IsObject id → has_party t id ≡ nat_le id (length roles)
  by_roles id is = party_there t typed id is ∙ ap (nat_le id) (sym (long_roles t.parties))

  pub contractor_there : (s : State) → IfSome s.contractor IsObject → if_any (has_party t) s.contractor ≡ if_any (λ id. nat_le id (length roles)) s.contractor
  contractor_there s is = any_same (has_party t) (λ id. nat_le id (length roles)) s.contractor (λ n e. by_roles n (object_in s.contractor is n e))

  pub of_role_there : (role : Role) (o : Option ℕ) → IfSome o IsObject → if_any (has_party_of t role) o ≡ if_any (Tested.has_role_at roles role) o
  of_role_there role o is = any_same (has_party_of t role) (Tested.has_role_at roles role) o (λ n e. role_there t typed role n (object_in o is n e).0)

  abbrev IsSoundFile : FileRow → Type 0
  IsSoundFile f = ((Sound.is_sound_filing t f && Sound.has_sound_people t f.state && Sound.has_own_edition t f) ≡ true)
      × (Sound.has_sound_stage f.state ≡ true) × (Sound.has_sound_work t f ≡ true) × (Sound.are_sound_papers_of (papers_in t f.id) f.state ≡ true)

  abbrev is_filled : FileRow → Bool
  is_filled f = Sound.are_sound_papers_of (papers_in t f.id) f.state && (f.state.notices == length (filter (λ p. p.is_open) (papers_in t f.id)))

  abbrev IsFittingFile : FileRow → Type 0
  IsFittingFile f = (Tested.fits_file roles t.desk.parcels t.desk.last f.state ≡ true) × (is_filled f ≡ true)

  to_fit : (f : FileRow) → IsFile f → IsSoundFile f → IsFittingFile f
  to_fit f good sound =
      let s = f.state in
      let st = good.state in
      let a1 = and_parts (Sound.is_sound_filing t f && Sound.has_sound_people t s) (Sound.has_own_edition t f) sound.0 in
      let a2 = and_parts (Sound.is_sound_filing t f) (Sound.has_sound_people t s) a1.0 in
      let f1 = and_parts (has_parcel t s.parcel && has_party t s.applicant && is_cents f.valuation && is_printable f.description)
      (is_between 1 t.desk.last s.filed) a2.0 in
      let f2 = and_parts (has_parcel t s.parcel && has_party t s.applicant && is_cents f.valuation) (is_printable f.description) f1.0 in
      let f3 = and_parts (has_parcel t s.parcel && has_party t s.applicant) (is_cents f.valuation) f2.0 in
      let f4 = and_parts (has_parcel t s.parcel) (has_party t s.applicant) f3.0 in
      let p1 = and_parts (if_any (has_party t) s.contractor && if_any (has_party_of t Reviewer) s.reviewer)
      (if_any (has_party_of t Inspector) s.inspector) a2.1 in
      let p2 = and_parts (if_any (has_party t) s.contractor) (if_any (has_party_of t Reviewer) s.reviewer) p1.0 in
      let b1 = and_parts (is_stored s.stage && deadline_stands s) (if_any (is_between (s.filed + term) latest_deadline) s.deadline) sound.1 in
      let c1 = and_parts _ (Sound.has_sound_notices (papers_in t f.id) s) sound.2 in
      let c2 = and_parts _ (Sound.has_sound_certificate t.desk.last s) c1.0 in
      let c3 = and_parts _ (if_any (is_between 1 (Sound.longest_ask s.stage)) s.ask) c2.0 in
      let c4 = and_parts _ (not s.stopped || Sound.may_be_stopped s.stage) c3.0 in
      let c5 = and_parts _ (Sound.has_sound_request t.desk.last s) c4.0 in
      let r1 = and_parts _ (if_any (is_between s.filed t.desk.last) s.requested) c5.1 in
      let r2 = and_parts _ (is_none s.request || is_begun s.stage) r1.0 in
      let t1 = and_parts (if_any (is_between (s.filed + 1) (t.desk.last + longest_temporary)) s.temporary) _ c2.1 in
      let n1 = and_parts (s.notices == length (filter (λ p. p.is_open) (papers_in t f.id))) _ c1.1 in
      let d1 = and_parts _ (Sound.never_fall s.filed (map (λ p. p.day) (papers_in t f.id))) sound.3 in
      let d2 = and_parts _ (is_numbered_from (λ (p : Paper). p.number) 1 (papers_in t f.id)) d1.0 in
      let d3 = and_parts (s.papers == length (papers_in t f.id)) (nat_le s.papers most_papers) d2.0 in
      let names : Tested.names_known roles t.desk.parcels s ≡ true = and_from _ _ (and_from _ _ (and_from _ _ (and_from _ _
      (sym (parcel_there t typed s.parcel st.parcel) ∙ f4.0) (sym (by_roles s.applicant st.applicant) ∙ f4.1))
      (sym (contractor_there s st.contractor) ∙ p2.0)) (sym (of_role_there Reviewer s.reviewer st.reviewer) ∙ p2.1))
      (sym (of_role_there Inspector s.inspector st.inspector) ∙ p1.1) in
      let days : Tested.fits_days t.desk.last s ≡ true = and_from _ _ (and_from _ _ (and_from _ _ f1.1 b1.1) r1.1) t1.0 in
      let work : Tested.fits_work s ≡ true = and_from _ _ (and_from _ _ (and_from _ _ (and_from _ _ (and_from _ _ c5.0 r2.1) c4.1) c3.1) t1.1) n1.1 in
      (and_from _ _ (and_from _ _ (and_from _ _ names days) work) d3.1, and_from _ _ sound.3 n1.0)

  from_fit : (f : FileRow) → IsFile f → IsNamed t.upgrade f.id f.state → IsFittingFile f → IsSoundFile f
  from_fit f good named fit =
      let s = f.state in
      let st = good.state in
      let of = of_state s good.sound in
      let w1 = and_parts _ (nat_le s.papers most_papers) fit.0 in
      let w2 = and_parts _ (Tested.fits_work s) w1.0 in
      let w3 = and_parts (Tested.names_known roles t.desk.parcels s) (Tested.fits_days t.desk.last s) w2.0 in
      let a1 = and_parts _ (if_any (Tested.has_role_at roles Inspector) s.inspector) w3.0 in
      let a2 = and_parts _ (if_any (Tested.has_role_at roles Reviewer) s.reviewer) a1.0 in
      let a3 = and_parts _ (if_any (λ id. nat_le id (length roles)) s.contractor) a2.0 in
      let a4 = and_parts (nat_le s.parcel t.desk.parcels) (nat_le s.applicant (length roles)) a3.0 in
      let d1 = and_parts _ (if_any (is_between (s.filed + 1) (t.desk.last + longest_temporary)) s.temporary) w3.1 in
      let d2 = and_parts _ (if_any (is_between s.filed t.desk.last) s.requested) d1.0 in
      let d3 = and_parts (is_between 1 t.desk.last s.filed) (if_any (is_between (s.filed + term) latest_deadline) s.deadline) d2.0 in
      let k1 = and_parts _ ((s.notices == 0) || is_begun s.stage) w2.1 in
      let k2 = and_parts _ (is_none s.temporary || (Sound.is_occupied s.stage && has_certificates s.kind)) k1.0 in
      let k3 = and_parts _ (if_any (is_between 1 (Sound.longest_ask s.stage)) s.ask) k2.0 in
      let k4 = and_parts _ (not s.stopped || Sound.may_be_stopped s.stage) k3.0 in
      let k5 = and_parts (is_done_in s.stage (length (required_steps s.edition s.kind)) s.done)
      (is_none s.request || is_begun s.stage) k4.0 in
      let e1 = and_parts (Sound.are_sound_papers_of (papers_in t f.id) s) _ fit.1 in
      let cents : is_cents f.valuation ≡ true = and_from _ _ (le-leb 0 f.valuation (omega arith)) (le-leb f.valuation most_cents good.valuation) in
      let filing : Sound.is_sound_filing t f ≡ true = and_from _ _ (and_from _ _ (and_from _ _ (and_from _ _
      (parcel_there t typed s.parcel st.parcel ∙ a4.0) (by_roles s.applicant st.applicant ∙ a4.1)) cents) good.description) d3.0 in
      let people : Sound.has_sound_people t s ≡ true = and_from _ _ (and_from _ _ (contractor_there s st.contractor ∙ a3.1)
      (of_role_there Reviewer s.reviewer st.reviewer ∙ a2.1)) (of_role_there Inspector s.inspector st.inspector ∙ a1.1) in
      let own : Sound.has_own_edition t f ≡ true = same_edition s.edition (edition_numbered t.upgrade f.id) named.edition in
      let request : Sound.has_sound_request t.desk.last s ≡ true = and_from _ _ (and_from _ _ (and_from _ _ of.asked of.dated) k5.1) d2.1 in
      let certificate : Sound.has_sound_certificate t.desk.last s ≡ true = and_from _ _ d1.1 k2.1 in
      let notices : Sound.has_sound_notices (papers_in t f.id) s ≡ true = and_from _ _ e1.1 k1.1 in (
        and_from _ _ (and_from _ _ filing people) own,
        and_from _ _ (and_from _ _ of.stored of.stands) d3.1,
        and_from _ _ (and_from _ _ (and_from _ _ (and_from _ _ (and_from _ _ k5.0 request) k4.1) k3.1) certificate) notices,
        e1.0,
      )

  -- ---- all tables

  -- what an open tests of typed tables
  pub record AreTested : Type 0 where
    pub desk : Tested.fits_desk t.desk ≡ true
    pub official : Tested.has_role_at roles Official 1 ≡ true
    pub parcels : Tested.fits_parcels t ≡ true
    pub cases : Tested.fits_cases roles t ≡ true

  parcel_fits : (p : Parcel) → IsParcel p → Sound.is_sound_parcel t p ≡ true → Tested.fits_parcel t.desk.parties p ≡ true
  parcel_fits p good sound = sym (among t typed p.owner good.owner) ∙ (and_parts _ (has_party t p.owner) sound).1

  fit_parcel : (p : Parcel) → IsParcel p → Tested.fits_parcel t.desk.parties p ≡ true → Sound.is_sound_parcel t p ≡ true
  fit_parcel p good fit = and_from _ _ (and_from _ _ good.lot good.address) (among t typed p.owner good.owner ∙ fit)

  interest_fits : (i : Interest) → IsInterest i → Sound.is_sound_interest t i ≡ true → Tested.fits_interest t.desk.parcels t.desk.parties i ≡ true
  interest_fits i good sound =
      let parts = and_parts (has_parcel t i.parcel) (has_party t i.party) sound in
      and_from _ _ (sym (parcel_there t typed i.parcel good.parcel) ∙ parts.0) (sym (among t typed i.party good.party) ∙ parts.1)

  fit_interest : (i : Interest) → IsInterest i → Tested.fits_interest t.desk.parcels t.desk.parties i ≡ true → Sound.is_sound_interest t i ≡ true
  fit_interest i good fit =
      let parts = and_parts (nat_le i.parcel t.desk.parcels) (nat_le i.party t.desk.parties) fit in
      and_from _ _ (parcel_there t typed i.parcel good.parcel ∙ parts.0) (among t typed i.party good.party ∙ parts.1)

  pub tested : IsSoundTables t → AreTested
  tested sound =
      let d1 = and_parts _ (Sound.is_sound_upgrade t) sound.desk in
      let d2 = and_parts _ (has_few_records t.desk) d1.0 in
      let d3 = and_parts (is_between 1 latest_day t.desk.last) (Sound.is_counted t) d2.0 in
      let d4 = and_parts (nat_le 1 t.desk.last) (nat_le t.desk.last latest_day) d3.0 in
      let p1 = and_parts _ (has_party_of t Official 1) sound.parties in
      let q1 = and_parts (list_all (Sound.is_sound_parcel t) t.parcels) (list_all (Sound.is_sound_interest t) t.interests) sound.parcels in
      let y1 = and_parts (list_all (Sound.is_sound_paper t) t.papers)
      (list_all (λ f. Sound.are_sound_papers_of (papers_in t f.id) f.state) t.files) sound.papers in
      let a = all_true (λ f. Sound.is_sound_filing t f && Sound.has_sound_people t f.state && Sound.has_own_edition t f) t.files sound.filings in
      let b = all_true (λ f. Sound.has_sound_stage f.state) t.files sound.stages in
      let c = all_true (Sound.has_sound_work t) t.files sound.work in
      let d = all_true (λ f. Sound.are_sound_papers_of (papers_in t f.id) f.state) t.files y1.1 in
      let fit = fitting t.files typed.files a b c d in
      record {
        desk = and_from _ _ d4.0 d2.1;
        official = sym (role_there t typed Official 1 (omega arith)) ∙ p1.1;
        parcels = and_from _ _
            (true_all (Tested.fits_parcel t.desk.parties) t.parcels
            (all_by_two parcel_fits t.parcels typed.parcels (all_true (Sound.is_sound_parcel t) t.parcels q1.0)))
            (true_all (Tested.fits_interest t.desk.parcels t.desk.parties) t.interests
            (all_by_two interest_fits t.interests typed.interests (all_true (Sound.is_sound_interest t) t.interests q1.1)));
        cases = and_from _ _
            (true_all (λ f. Tested.fits_file roles t.desk.parcels t.desk.last f.state) t.files (all_by_one (λ f h. h.0) t.files fit))
            (and_from _ _ y1.0 (true_all is_filled t.files (all_by_one (λ f h. h.1) t.files fit)));
      }
    where
      fitting : (fs : List FileRow) → AllByRecursion (λ f. IsFile f) fs →
          AllByRecursion (λ f. (Sound.is_sound_filing t f && Sound.has_sound_people t f.state && Sound.has_own_edition t f) ≡ true) fs →
          AllByRecursion (λ f. Sound.has_sound_stage f.state ≡ true) fs → AllByRecursion (λ f. Sound.has_sound_work t f ≡ true) fs →
          AllByRecursion (λ f. Sound.are_sound_papers_of (papers_in t f.id) f.state ≡ true) fs → AllByRecursion IsFittingFile fs
      fitting [] good a b c d = tt
      fitting (f ∷ fs) good a b c d = (to_fit f good.0 (a.0, b.0, c.0, d.0), fitting fs good.1 a.1 b.1 c.1 d.1)

  pub sound_by : AreTested → IsSoundTables t
  sound_by h =
      let d1 = and_parts (nat_le 1 t.desk.last) (has_few_records t.desk) h.desk in
      let q1 = and_parts (list_all (Tested.fits_parcel t.desk.parties) t.parcels)
      (list_all (Tested.fits_interest t.desk.parcels t.desk.parties) t.interests) h.parcels in
      let y1 = and_parts (list_all (λ f. Tested.fits_file roles t.desk.parcels t.desk.last f.state) t.files) (Tested.fits_papers t) h.cases in
      let y2 = and_parts (list_all (Sound.is_sound_paper t) t.papers) (list_all is_filled t.files) y1.1 in
      let sound = sounding t.files typed.files keyed.named
      (all_true (λ f. Tested.fits_file roles t.desk.parcels t.desk.last f.state) t.files y1.0) (all_true is_filled t.files y2.1) in
      let counted : Sound.is_counted t ≡ true = and_from _ _ (and_from _ _ (eq-eqb t.desk.parties (length t.parties) (sym typed.party_count))
      (eq-eqb t.desk.parcels (length t.parcels) (sym typed.parcel_count))) (eq-eqb t.desk.files (length t.files) (sym typed.file_count)) in
      record {
        desk = and_from _ _ (and_from _ _ (and_from _ _ (and_from _ _ d1.0 (le-leb t.desk.last latest_day typed.desk.last)) counted) d1.1)
            (and_from _ _ (same_edition t.desk.edition (edition_by t.upgrade) keyed.edition) (upgraded t.upgrade keyed.upgraded));
        numbering = and_from _ _ (and_from _ _ (numbered_is (λ (p : Party). p.id) 1 t.parties typed.party_numbers)
            (numbered_is (λ (p : Parcel). p.id) 1 t.parcels typed.parcel_numbers)) (numbered_is (λ (f : FileRow). f.id) 1 t.files typed.file_numbers);
        parties = and_from _ _ (true_all Sound.is_sound_party t.parties (all_by_one (λ p good. and_from _ _ good.name good.digest) t.parties typed.parties))
            (role_there t typed Official 1 (omega arith) ∙ h.official);
        parcels = and_from _ _
            (true_all (Sound.is_sound_parcel t) t.parcels
            (all_by_two fit_parcel t.parcels typed.parcels (all_true (Tested.fits_parcel t.desk.parties) t.parcels q1.0)))
            (true_all (Sound.is_sound_interest t) t.interests (all_by_two fit_interest t.interests typed.interests
            (all_true (Tested.fits_interest t.desk.parcels t.desk.parties) t.interests q1.1)));
        filings = true_all (λ f. Sound.is_sound_filing t f && Sound.has_sound_people t f.state && Sound.has_own_edition t f) t.files
            (all_by_one (λ f s. s.0) t.files sound);
        stages = true_all (λ f. Sound.has_sound_stage f.state) t.files (all_by_one (λ f s. s.1) t.files sound);
        work = true_all (Sound.has_sound_work t) t.files (all_by_one (λ f s. s.2) t.files sound);
        papers = and_from _ _ y2.0 (true_all (λ f. Sound.are_sound_papers_of (papers_in t f.id) f.state) t.files (all_by_one (λ f s. s.3) t.files sound));
      }
    where
      upgraded : (o : Option ℕ) → IfSome o (λ files. files ≤ t.desk.files) → if_any (λ count. nat_le count t.desk.files) o ≡ true
      upgraded None low = refl
      upgraded (Some files) low = le-leb files t.desk.files low

      sounding : (fs : List FileRow) → AllByRecursion (λ f. IsFile f) fs → AllByRecursion (λ f. IsNamed t.upgrade f.id f.state) fs →
          AllByRecursion (λ f. Tested.fits_file roles t.desk.parcels t.desk.last f.state ≡ true) fs → AllByRecursion (λ f. is_filled f ≡ true) fs →
          AllByRecursion IsSoundFile fs
      sounding [] good named a b = tt
      sounding (f ∷ fs) good named a b = (from_fit f good.0 named.0 (a.0, b.0), sounding fs good.1 named.1 a.1 b.1)

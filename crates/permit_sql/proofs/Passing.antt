-- What the tests of soundness report of typed tables.
use Rattle.std.proofs.Common.{◌≡◌, inl, inr, ℕ, zero, suc, ◌-◌, ◌<◌, ◌≤◌, Bool, true, false, Some, None, List}
use Rattle.std.proofs.Common.{[], ◌∷◌, ◌++◌, map, length, refl, sym, ap, subst}
use Rattle.std.proofs.Common.{◌∙◌, arith, append-nil, append_assoc, true≢false, IsPermutation}
use Rattle.std.specs.Prelude.{◌⊎◌, ◌&&◌, IsTrue, MatchBool, slice_get, slice_set, nat_le, if◌then◌else◌}
use Rattle.std.specs.List.{list_all, AllByRecursion}
use Rattle.std.proofs.lemmas.Bool.{and_parts, and_from}
use Rattle.std.proofs.lemmas.List.Sorted.{IsPermutation-sym}
use Rattle.sqlite_value.specs.Order.{Row}
use Rattle.sqlite_trees.specs.declared.store.Store.{Ghosts}
use Rattle.sqlite_trees.proofs.ListLemmas.{all-permutation}
use Rattle.sqlite.specs.State.{State, Shown}
use Rattle.sqlite.specs.Held.{Held, state}
use Rattle.permit_base.specs.Limits.{most_papers}
use Rattle.permit_base.specs.declared.words.Edition.{Edition}
use Rattle.permit_base.specs.declared.words.Role.{Role}
use Rattle.permit_model.specs.Caller.{Party}
use Rattle.permit_model.specs.Parcels.{Parcel, Interest}
use Rattle.permit_model.specs.Tables.{Tables, FileRow, Paper}
use Rattle.permit_sql_rows.specs.Rows.{shown_party, shown_parcel, shown_file, shown_interest, shown_paper}
use Rattle.permit_sql_rows.specs.Kept.{KeepsUnder, IsNamed}
use Rattle.permit_sql_rows.specs.Typed.{IsParty, IsParcel, IsInterest, IsFile, IsPaper}
use Rattle.permit_sql.specs.Taken.{TookRows}
use Rattle.permit_sql.specs.Found.{AreTyped}
use Rattle.permit_sql.specs.Tested.{fits_parcel, fits_interest, fits_file, fits_paper, fits_papers, first_tally, next_tally, is_next, tally_after, is_ended}
use Rattle.permit_sql.specs.Passed.{PassesParty, StopsParty, PassesParcel, StopsParcel, PassesInterest, StopsInterest}
use Rattle.permit_sql.specs.Passed.{PassesFile, StopsFile, PassesPaper, StopsPaper}
use Rattle.permit_sql.specs.declared.tally.Tally.{Tally}
use Rattle.permit_sql.specs.declared.sound.Roles.{Roles}
use Rattle.permit_sql.specs.declared.sound.Owners.{Owners}
use Rattle.permit_sql.specs.declared.sound.Declarers.{Declarers}
use Rattle.permit_sql.specs.declared.sound_files.Filed.{Filed}
use Rattle.permit_sql.specs.declared.sound_files.Entered.{Entered}
use Rattle.permit_sql.specs.declared.texts.TheConstants.{EACH_PARTY, EACH_PARCEL, EACH_INTEREST, EACH_FILE, EACH_PAPER}
use Rattle.permit_sql.proofs.WholeMeanings.{each_party_text, each_parcel_text, each_interest_text, each_file_text, each_paper_text}
use Rattle.permit_sql.proofs.Answered.{parties_shown, parcels_shown, files_shown}
use Rattle.permit_sql.proofs.PapersAnswered.{interests_shown, papers_shown}
use Rattle.permit_sql.proofs.Refused.{all_or_stopped}
use Rattle.permit_sql.proofs.Soundness.{all_true, true_all}
use Rattle.permit_sql.proofs.Tallies.{next_is, long_set, AreLeft, next_left, left_after, left_before, all_ended, ended_left}
use Rattle.permit_sql.proofs.FilesFilled.{left_first, first_left}

abbrev pub role_took : Roles → Row → Roles → Bool → Type 0
role_took a row b good = MatchBool good (PassesParty a.roles.items row b.roles.items) (StopsParty row b.lacks_memory)

abbrev pub owner_took : Owners → Row → Owners → Bool → Type 0
owner_took a row b good = MatchBool good (PassesParcel a.parties row × (b.parties ≡ a.parties)) (StopsParcel a.parties row)

abbrev pub declarer_took : Declarers → Row → Declarers → Bool → Type 0
declarer_took a row b good = MatchBool good (PassesInterest a.parcels a.parties row × ((b.parcels ≡ a.parcels) × (b.parties ≡ a.parties)))
    (StopsInterest a.parcels a.parties row)

abbrev pub filed_took : Filed → Row → Filed → Bool → Type 0
filed_took a row b good = MatchBool good
    (PassesFile a.upgrade a.roles.items a.parcels a.last a.tallies.items row b.tallies.items
    × ((b.upgrade ≡ a.upgrade) × ((b.roles.items ≡ a.roles.items) × ((b.parcels ≡ a.parcels) × (b.last ≡ a.last)))))
    (StopsFile a.upgrade a.roles.items a.parcels a.last row b.lacks_memory)

abbrev pub entered_took : Entered → Row → Entered → Bool → Type 0
entered_took a row b good = MatchBool good
    (PassesPaper a.parties a.last a.tallies.items row b.tallies.items × ((b.parties ≡ a.parties) × (b.last ≡ a.last)))
    (StopsPaper a.parties a.last a.tallies.items row b.lacks_memory)

-- two tests that follow from one another are one
pub same_test : (a b : Bool) → (a ≡ true → b ≡ true) → (b ≡ true → a ≡ true) → a ≡ b
same_test true b on back = sym (on refl)
same_test false true on back = back refl
same_test false false on back = refl

all_same : {A : Type 0} (test : A → Bool) (xs ys : List A) → IsPermutation xs ys → list_all test ys ≡ list_all test xs
all_same test xs ys same = same_test (list_all test ys) (list_all test xs)
    (λ h. true_all test xs (all-permutation (λ x. test x ≡ true) ys xs (IsPermutation-sym _ _ same) (all_true test ys h)))
    (λ h. true_all test ys (all-permutation (λ x. test x ≡ true) xs ys same (all_true test xs h)))

one_passed : (first rest total : Bool) → first ≡ true → (first && rest) ≡ total → rest ≡ total
one_passed true rest total is h = h
one_passed false rest total is h = absurd (true≢false (sym is))

one_failed : (first rest total : Bool) → first ≡ false → (first && rest) ≡ total → total ≡ false
one_failed true rest total is h = absurd (true≢false is)
one_failed false rest total is h = sym h

module _ (edition : Edition) {S : Type 0} (g : Ghosts S) (old new : Held S) (t : Tables) (typed : AreTyped t) (k : KeepsUnder edition t (state g old).now) where
  abbrev roles_of : List Party → List Role
  roles_of = map (λ p. p.role)

  pub roles_taken : (a b : Roles) (all : Bool) → a.roles.items ≡ [] → TookRows role_took g EACH_PARTY.now [] old new a b all →
      ((all ≡ true) × (b.roles.items ≡ roles_of t.parties)) ⊎ IsTrue b.lacks_memory
  roles_taken a b all none h =
      after (all_or_stopped edition g old new t k EACH_PARTY.now _ (each_party_text edition) shown_party role_took Fits (λ d. IsTrue d.lacks_memory) next
      (λ d e p ps fits stops. stops p fits.0.0 refl) a b all answer h)
    where
      Fits : Roles → List Party → Type 0
      Fits d ps = AllByRecursion IsParty ps × (d.roles.items ++ roles_of ps ≡ roles_of t.parties)

      next : (d e : Roles) (p : Party) (ps : List Party) → Fits d (p ∷ ps) → role_took d (shown_party p) e true → Fits e ps
      next d e p ps fits h = (
        fits.0.1,
        ap (λ l. l ++ roles_of ps) (h p fits.0.0 refl) ∙ append_assoc d.roles.items (p.role ∷ []) (roles_of ps) ∙ fits.1,
      )

      answer : (was late : State) → KeepsUnder edition t was.now → (rows : List Row) → Shown EACH_PARTY.now [] was late rows → (ps : List Party)
          × (rows ≡ map shown_party ps) × Fits a ps
      answer was late kept rows h = (t.parties, parties_shown edition was late t typed kept rows h, (typed.parties, ap (λ l. l ++ roles_of t.parties) none))

      after : ((all ≡ true) × Fits b []) ⊎ ((all ≡ false) × IsTrue b.lacks_memory) →
          ((all ≡ true) × (b.roles.items ≡ roles_of t.parties)) ⊎ IsTrue b.lacks_memory
      after (inl it) = inl (it.0, sym (append-nil b.roles.items) ∙ it.1.1)
      after (inr lacks) = inr lacks.1

  pub owners_taken : (a b : Owners) (all : Bool) → TookRows owner_took g EACH_PARCEL.now [] old new a b all → all ≡ list_all (fits_parcel a.parties) t.parcels
  owners_taken a b all h =
      after (all_or_stopped edition g old new t k EACH_PARCEL.now _ (each_parcel_text edition) shown_parcel owner_took Fits
      (λ d. total ≡ false) next stop a b all answer h)
    where
      total : Bool
      total = list_all (fits_parcel a.parties) t.parcels

      Fits : Owners → List Parcel → Type 0
      Fits d ps = AllByRecursion IsParcel ps × (d.parties ≡ a.parties) × (list_all (fits_parcel a.parties) ps ≡ total)

      next : (d e : Owners) (p : Parcel) (ps : List Parcel) → Fits d (p ∷ ps) → owner_took d (shown_parcel p) e true → Fits e ps
      next d e p ps fits h =
          let is : fits_parcel a.parties p ≡ true = subst (λ n. fits_parcel n p ≡ true) fits.1 (h.0 p fits.0.0 refl) in
          (fits.0.1, h.1 ∙ fits.1, one_passed (fits_parcel a.parties p) _ total is fits.2)

      stop : (d e : Owners) (p : Parcel) (ps : List Parcel) → Fits d (p ∷ ps) → owner_took d (shown_parcel p) e false → total ≡ false
      stop d e p ps fits h =
          let is : fits_parcel a.parties p ≡ false = subst (λ n. fits_parcel n p ≡ false) fits.1 (h p fits.0.0 refl) in
          one_failed (fits_parcel a.parties p) _ total is fits.2

      answer : (was late : State) → KeepsUnder edition t was.now → (rows : List Row) → Shown EACH_PARCEL.now [] was late rows → (ps : List Parcel)
          × (rows ≡ map shown_parcel ps) × Fits a ps
      answer was late kept rows h = (t.parcels, parcels_shown edition was late t typed kept rows h, (typed.parcels, refl, refl))

      after : ((all ≡ true) × Fits b []) ⊎ ((all ≡ false) × (total ≡ false)) → all ≡ total
      after (inl it) = it.0 ∙ it.1.2
      after (inr it) = it.0 ∙ sym it.1

  pub declarers_taken : (a b : Declarers) (all : Bool) → TookRows declarer_took g EACH_INTEREST.now [] old new a b all →
      all ≡ list_all (fits_interest a.parcels a.parties) t.interests
  declarers_taken a b all h =
      after (all_or_stopped edition g old new t k EACH_INTEREST.now _ (each_interest_text edition) shown_interest declarer_took Fits
      (λ d. total ≡ false) next stop a b all
      answer h)
    where
      total : Bool
      total = list_all (fits_interest a.parcels a.parties) t.interests

      Fits : Declarers → List Interest → Type 0
      Fits d is = AllByRecursion IsInterest is × (d.parcels ≡ a.parcels) × (d.parties ≡ a.parties) × (list_all (fits_interest a.parcels a.parties) is ≡ total)

      next : (d e : Declarers) (i : Interest) (is : List Interest) → Fits d (i ∷ is) → declarer_took d (shown_interest i) e true → Fits e is
      next d e i is fits h =
          let it : fits_interest a.parcels a.parties i ≡ true = subst (λ m. fits_interest a.parcels m i ≡ true) fits.2
          (subst (λ n. fits_interest n d.parties i ≡ true) fits.1 (h.0 i fits.0.0 refl)) in
          (fits.0.1, h.1.0 ∙ fits.1, h.1.1 ∙ fits.2, one_passed (fits_interest a.parcels a.parties i) _ total it fits.3)

      stop : (d e : Declarers) (i : Interest) (is : List Interest) → Fits d (i ∷ is) → declarer_took d (shown_interest i) e false → total ≡ false
      stop d e i is fits h =
          let it : fits_interest a.parcels a.parties i ≡ false = subst (λ m. fits_interest a.parcels m i ≡ false) fits.2
          (subst (λ n. fits_interest n d.parties i ≡ false) fits.1 (h i fits.0.0 refl)) in
          one_failed (fits_interest a.parcels a.parties i) _ total it fits.3

      answer : (was late : State) → KeepsUnder edition t was.now → (rows : List Row) → Shown EACH_INTEREST.now [] was late rows → (is : List Interest)
          × (rows ≡ map shown_interest is) × Fits a is
      answer was late kept rows h =
          let it = interests_shown edition was late t typed kept rows h in
          (it.0, it.1, (it.2, refl, refl, all_same (fits_interest a.parcels a.parties) t.interests it.0 it.3))

      after : ((all ≡ true) × Fits b []) ⊎ ((all ≡ false) × (total ≡ false)) → all ≡ total
      after (inl it) = it.0 ∙ it.1.3
      after (inr it) = it.0 ∙ sym it.1

  abbrev first_of : List FileRow → List Tally
  first_of = map (λ f. first_tally f.state)

  pub filed_taken : (a b : Filed) (all : Bool) → a.tallies.items ≡ [] → a.upgrade ≡ t.upgrade → TookRows filed_took g EACH_FILE.now [] old new a b all →
      ((all ≡ list_all (λ f. fits_file a.roles.items a.parcels a.last f.state) t.files) ×
      (all ≡ true → b.tallies.items ≡ first_of t.files)) ⊎ IsTrue b.lacks_memory
  filed_taken a b all none same h =
      after (all_or_stopped edition g old new t k EACH_FILE.now _ (each_file_text edition) shown_file filed_took Fits
      (λ d. (total ≡ false) ⊎ IsTrue d.lacks_memory) next
      stop a b all answer h)
    where
      total : Bool
      total = list_all (λ f. fits_file a.roles.items a.parcels a.last f.state) t.files

      Fits : Filed → List FileRow → Type 0
      Fits d fs = AllByRecursion (λ f. IsFile f × IsNamed t.upgrade f.id f.state) fs
          × ((d.upgrade ≡ t.upgrade) × ((d.roles.items ≡ a.roles.items) × ((d.parcels ≡ a.parcels) × (d.last ≡ a.last))))
          × (list_all (λ f. fits_file a.roles.items a.parcels a.last f.state) fs ≡ total) × (d.tallies.items ++ first_of fs ≡ first_of t.files)

      -- what holds of the taker's values holds of the first ones
      moved : (d : Filed) (f : FileRow) (good : Bool) → d.roles.items ≡ a.roles.items → d.parcels ≡ a.parcels → d.last ≡ a.last →
          fits_file d.roles.items d.parcels d.last f.state ≡ good → fits_file a.roles.items a.parcels a.last f.state ≡ good
      moved d f good roles parcels last told =
          subst (λ l. fits_file a.roles.items a.parcels l f.state ≡ good) last
          (subst (λ n. fits_file a.roles.items n d.last f.state ≡ good) parcels (subst (λ r. fits_file r d.parcels d.last f.state ≡ good) roles told))

      next : (d e : Filed) (f : FileRow) (fs : List FileRow) → Fits d (f ∷ fs) → filed_took d (shown_file f) e true → Fits e fs
      next d e f fs fits h =
          let named = subst (λ u. IsNamed u f.id f.state) (sym fits.1.0) fits.0.0.1 in
          let it = h.0 f fits.0.0.0 named refl in
          let is = moved d f true fits.1.1.0 fits.1.1.1.0 fits.1.1.1.1 it.0 in (
            fits.0.1,
            (h.1.0 ∙ fits.1.0, (h.1.1.0 ∙ fits.1.1.0, (h.1.1.1.0 ∙ fits.1.1.1.0, h.1.1.1.1 ∙ fits.1.1.1.1))),
            one_passed (fits_file a.roles.items a.parcels a.last f.state) _ total is fits.2,
            ap (λ l. l ++ first_of fs) it.1 ∙ append_assoc d.tallies.items (first_tally f.state ∷ []) (first_of fs) ∙ fits.3,
          )

      stop : (d e : Filed) (f : FileRow) (fs : List FileRow) → Fits d (f ∷ fs) → filed_took d (shown_file f) e false →
          (total ≡ false) ⊎ IsTrue e.lacks_memory
      stop d e f fs fits h =
          let named = subst (λ u. IsNamed u f.id f.state) (sym fits.1.0) fits.0.0.1 in
          elim (h f fits.0.0.0 named refl) [
            | inl failed ↦
                let is = moved d f false fits.1.1.0 fits.1.1.1.0 fits.1.1.1.1 failed in
                inl (one_failed (fits_file a.roles.items a.parcels a.last f.state) _ total is fits.2)
            | inr lacks ↦ inr lacks
          ]

      good : (fs : List FileRow) → AllByRecursion (λ f. IsFile f) fs → AllByRecursion (λ f. IsNamed t.upgrade f.id f.state) fs →
          AllByRecursion (λ f. IsFile f × IsNamed t.upgrade f.id f.state) fs
      good [] p q = tt
      good (f ∷ fs) p q = ((p.0, q.0), good fs p.1 q.1)

      answer : (was late : State) → KeepsUnder edition t was.now → (rows : List Row) → Shown EACH_FILE.now [] was late rows → (fs : List FileRow)
          × (rows ≡ map shown_file fs) × Fits a fs
      answer was late kept rows h = (
        t.files,
        files_shown edition was late t typed kept rows h,
        (good t.files typed.files k.keyed.named, (same, (refl, (refl, refl))), refl, ap (λ l. l ++ first_of t.files) none),
      )

      after : ((all ≡ true) × Fits b []) ⊎ ((all ≡ false) × ((total ≡ false) ⊎ IsTrue b.lacks_memory)) →
          ((all ≡ total) × (all ≡ true → b.tallies.items ≡ first_of t.files)) ⊎ IsTrue b.lacks_memory
      after (inl it) = inl (it.0 ∙ it.1.2, λ went. sym (append-nil b.tallies.items) ∙ it.1.3)
      after (inr (stopped, inl failed)) = inl (stopped ∙ sym failed, λ went. absurd (true≢false (sym went ∙ stopped)))
      after (inr (stopped, inr lacks)) = inr lacks

  -- ---- papers

  no_next : (p : Paper) (u : Tally) → is_next u p ≡ true → next_tally p (Some u) ≡ None → ⊥
  no_next p u is none = go (is_next u p) is none
    where
      go : (b : Bool) → b ≡ true → (if b then Some (tally_after u p) else None) ≡ None → ⊥
      go true is h = let e = h in cc
      go false is h = true≢false (sym is)

  at_place : (ts : List Tally) (i : ℕ) (u : Tally) → slice_get ts i ≡ Some u → i < length ts
  at_place [] i u got = absurd (let e = got in cc)
  at_place (x ∷ ts) zero u got = omega arith
  at_place (x ∷ ts) (suc i) u got = let low = at_place ts i u got in omega (arith, low)

  some_at : (ts : List Tally) (i : ℕ) → i < length ts → (u : Tally) × (slice_get ts i ≡ Some u)
  some_at [] i low = absurd (omega (arith, low))
  some_at (x ∷ ts) zero low = (x, refl)
  some_at (x ∷ ts) (suc i) low = some_at ts i (omega (arith, low))

  long_first : (fs : List FileRow) → length (first_of fs) ≡ length fs
  long_first [] = refl
  long_first (f ∷ fs) = ap suc (long_first fs)

  pub entered_taken : (a b : Entered) (all : Bool) → a.parties ≡ t.desk.parties → a.last ≡ t.desk.last → a.tallies.items ≡ first_of t.files →
      list_all (λ f. nat_le f.state.papers most_papers) t.files ≡ true → TookRows entered_took g EACH_PAPER.now [] old new a b all →
      ((all && list_all is_ended b.tallies.items) ≡ fits_papers t) ⊎ IsTrue b.lacks_memory
  entered_taken a b all parties last has few h =
      after (all_or_stopped edition g old new t k EACH_PAPER.now _ (each_paper_text edition) shown_paper entered_took Fits
      (λ d. (fits_papers t ≡ false) ⊎ IsTrue d.lacks_memory) next stop a b all answer h)
    where
      IsLeft : Entered → List Paper → Type 0
      IsLeft d ps = AreLeft t.desk.parties t.desk.last t.desk.files d.tallies.items ps

      Fits : Entered → List Paper → Type 0
      Fits d ps = AllByRecursion IsPaper ps × ((d.parties ≡ t.desk.parties) × ((d.last ≡ t.desk.last) × (length d.tallies.items ≡ t.desk.files)))
          × (IsLeft d ps → fits_papers t ≡ true) × (fits_papers t ≡ true → IsLeft d ps)

      moved : (d : Entered) (p : Paper) (good : Bool) → d.parties ≡ t.desk.parties → d.last ≡ t.desk.last → fits_paper d.parties d.last p ≡ good →
          fits_paper t.desk.parties t.desk.last p ≡ good
      moved d p good one two told = subst (λ l. fits_paper t.desk.parties l p ≡ good) two (subst (λ n. fits_paper n d.last p ≡ good) one told)

      next : (d e : Entered) (p : Paper) (ps : List Paper) → Fits d (p ∷ ps) → entered_took d (shown_paper p) e true → Fits e ps
      next d e p ps fits h =
          let it = h.0 p fits.0.0 refl in
          let is = moved d p true fits.1.0 fits.1.1.0 it.0 in
          let u = next_is p (slice_get d.tallies.items (p.file - 1)) it.1.0 it.1.1 in
          let low = fits.0.0.file.0 in
          let long = fits.1.1.1 in
          let place = at_place d.tallies.items (p.file - 1) u.0 u.1 in
          let there : p.file ≤ t.desk.files = omega (arith, low, long, place) in
          let now : e.tallies.items ≡ slice_set d.tallies.items (p.file - 1) (tally_after u.0 p) = it.1.2 ∙ ap (slice_set d.tallies.items (p.file - 1)) u.3 in (
            fits.0.1,
            (
              h.1.0 ∙ fits.1.0,
              (h.1.1 ∙ fits.1.1.0, ap length now ∙ long_set d.tallies.items (p.file - 1) (tally_after u.0 p) ∙ long),
            ),
            λ left. fits.2 (left_before t.desk.parties t.desk.last t.desk.files d.tallies.items p ps low u.0 u.1 is there u.2
                (subst (λ ts. AreLeft t.desk.parties t.desk.last t.desk.files ts ps) now left)),
            λ total. subst (λ ts. AreLeft t.desk.parties t.desk.last t.desk.files ts ps) (sym now)
                (left_after t.desk.parties t.desk.last t.desk.files d.tallies.items p ps low u.0 u.1 (fits.3 total)),
          )

      stop : (d e : Entered) (p : Paper) (ps : List Paper) → Fits d (p ∷ ps) → entered_took d (shown_paper p) e false →
          (fits_papers t ≡ false) ⊎ IsTrue e.lacks_memory
      stop d e p ps fits h = elim (h p fits.0.0 refl) [
        | inl failed ↦ inl (never (fits_papers t) (λ total. fails (fits.3 total) failed))
        | inr lacks ↦ inr lacks
      ]
        where
          never : (x : Bool) → (x ≡ true → ⊥) → x ≡ false
          never true denied = absurd (denied refl)
          never false denied = refl

          fails : IsLeft d (p ∷ ps) → (fits_paper d.parties d.last p ≡ false) ⊎ (next_tally p (slice_get d.tallies.items (p.file - 1)) ≡ None) → ⊥
          fails left (inl failed) = true≢false (sym left.alone.0 ∙ moved d p false fits.1.0 fits.1.1.0 failed)
          fails left (inr none) =
              let low = fits.0.0.file.0 in
              let long = fits.1.1.1 in
              let there : p.file ≤ t.desk.files = left.there.0 in
              let u = some_at d.tallies.items (p.file - 1) (omega (arith, low, long, there)) in
              no_next p u.0 (next_left t.desk.parties t.desk.last t.desk.files d.tallies.items p ps low u.0 u.1 left) (ap (next_tally p) (sym u.1) ∙ none)

      answer : (was late : State) → KeepsUnder edition t was.now → (rows : List Row) → Shown EACH_PAPER.now [] was late rows → (ps : List Paper)
          × (rows ≡ map shown_paper ps) × Fits a ps
      answer was late kept rows h =
          let it = papers_shown edition was late t typed kept rows h in (
            it.0,
            it.1,
            (
              it.2,
              (parties, (last, ap length has ∙ long_first t.files ∙ typed.file_count)),
              λ left. first_left t typed k.keyed it.0 it.5 it.3 few (subst (λ ts. AreLeft t.desk.parties t.desk.last t.desk.files ts it.0) has left),
              λ total. subst (λ ts. AreLeft t.desk.parties t.desk.last t.desk.files ts it.0) (sym has) (left_first t typed k.keyed it.0 it.5 it.3 few total),
            ),
          )

      after : ((all ≡ true) × Fits b []) ⊎ ((all ≡ false) × ((fits_papers t ≡ false) ⊎ IsTrue b.lacks_memory)) →
          ((all && list_all is_ended b.tallies.items) ≡ fits_papers t) ⊎ IsTrue b.lacks_memory
      after (inl it) = inl (ap (λ x. x && list_all is_ended b.tallies.items) it.0 ∙ same_test (list_all is_ended b.tallies.items) (fits_papers t)
          (λ ended. it.1.2 (ended_left t.desk.parties t.desk.last t.desk.files b.tallies.items ended))
          (λ total. all_ended t.desk.parties t.desk.last t.desk.files b.tallies.items (it.1.3 total)))
      after (inr (stopped, inl failed)) = inl (ap (λ x. x && list_all is_ended b.tallies.items) stopped ∙ sym failed)
      after (inr (stopped, inr lacks)) = inr lacks

-- what is said where memory wasn't refused
pub unless : {excused : Bool} {P : Type 0} → P ⊎ IsTrue excused → excused ≡ false → P
unless (inl it) none = it
unless (inr lacks) none = absurd (true≢false (sym lacks ∙ none))

-- files that fit have few papers
pub few_papers : (roles : List Role) (parcels last : ℕ) (fs : List FileRow) → list_all (λ f. fits_file roles parcels last f.state) fs ≡ true →
    list_all (λ f. nat_le f.state.papers most_papers) fs ≡ true
few_papers roles parcels last [] h = refl
few_papers roles parcels last (f ∷ fs) h =
    let parts = and_parts (fits_file roles parcels last f.state) (list_all (λ f. fits_file roles parcels last f.state) fs) h in
    and_from _ _ (and_parts _ (nat_le f.state.papers most_papers) parts.0).1 (few_papers roles parcels last fs parts.1)

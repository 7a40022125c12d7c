-- A taker that stops at the first fault of typed rows reports the first fault that they have.
use Rattle.std.proofs.Common.{◌≡◌, ◌⊎◌, inl, inr, ℕ, Bool, true, false, Some, None, Option, List, [], ◌∷◌, refl, sym, ap, subst}
use Rattle.std.proofs.Common.{◌∙◌, true≢false}
use Rattle.std.specs.Prelude.{IsSome, IsPermutation, MatchBool}
use Rattle.std.specs.List.{AllByRecursion}
use Rattle.sqlite_value.specs.Order.{Row}
use Rattle.sqlite_trees.specs.declared.store.Store.{Ghosts}
use Rattle.sqlite.specs.Held.{Held, state}
use Rattle.permit_base.specs.declared.words.Edition.{Edition}
use Rattle.permit_model.specs.Parcels.{Parcel, Interest}
use Rattle.permit_model.specs.Tables.{Tables, FileRow}
use Rattle.permit_sql_rows.specs.Rows.{shown_parcel, shown_interest, shown_file}
use Rattle.permit_sql_rows.specs.Kept.{KeepsUnder, IsNamed}
use Rattle.permit_sql_rows.specs.Typed.{IsParcel, IsInterest, IsFile}
use Rattle.permit_sql.specs.Taken.{TookRows}
use Rattle.permit_sql.specs.Found.{AreTyped, IsGoodFile}
use Rattle.permit_sql.specs.First.{or_else, first_in, of_parcel, of_interest, of_file, IsFirstInterest, Passes, Names}
use Rattle.permit_sql.specs.declared.fault.Fault.{Fault}
use Rattle.permit_sql.specs.declared.first_unsound.Owned.{Owned}
use Rattle.permit_sql.specs.declared.first_unsound.Declared.{Declared}
use Rattle.permit_sql.specs.declared.first_unsound.Tested.{Tested}
use Rattle.permit_sql.specs.declared.texts.TheConstants.{EACH_PARCEL, EACH_INTEREST, EACH_FILE}
use Rattle.permit_sql.proofs.WholeMeanings.{each_parcel_text, each_interest_text, each_file_text}
use Rattle.permit_sql.proofs.Answered.{parcels_shown, files_shown}
use Rattle.permit_sql.proofs.PapersAnswered.{interests_shown}
use Rattle.permit_sql.proofs.Refused.{all_or_stopped}

pub some_first : (o other : Option Fault) → IsSome o → or_else o other ≡ o
some_first None other some = absurd (true≢false (sym some))
some_first (Some f) other some = refl

-- what is there is first, whatever comes after it
pub is_first : {f : Fault} {o : Option Fault} (other : Option Fault) → Some f ≡ o → Some f ≡ or_else o other
is_first other is = ap (λ o. or_else o other) is

-- what holds of a taker of rows of a kind, and of the values that are left
module _ {X T : Type 0} (IsGood : X → Type 0) (shown : X → Row) (took : T → Row → T → Bool → Type 0) (IsSame : T → Type 0) (fault_of : X → Option Fault)
    (told : T → Option Fault)
    (next : (a b : T) (x : X) → IsSame a → IsGood x → took a (shown x) b true → IsSame b × (fault_of x ≡ None))
    (stop : (a b : T) (x : X) → IsSame a → IsGood x → took a (shown x) b false → (told b ≡ fault_of x) × IsSome (told b))
    (all : List X) where
  abbrev pub Left : T → List X → Type 0
  Left d xs = AllByRecursion IsGood xs × IsSame d × (first_in fault_of xs ≡ first_in fault_of all)

  pub left_next : (a b : T) (x : X) (xs : List X) → Left a (x ∷ xs) → took a (shown x) b true → Left b xs
  left_next a b x xs left h =
      let it = next a b x left.1 left.0.0 h in
      (left.0.1, it.0, sym (ap (λ o. or_else o (first_in fault_of xs)) it.1) ∙ left.2)

  pub left_stop : (a b : T) (x : X) (xs : List X) → Left a (x ∷ xs) → took a (shown x) b false → told b ≡ first_in fault_of all
  left_stop a b x xs left h =
      let it = stop a b x left.1 left.0.0 h in
      it.0 ∙ sym (some_first (fault_of x) (first_in fault_of xs) (subst IsSome it.0 it.1)) ∙ left.2

-- ---- what the takers report

abbrev pub owned_took : Owned → Row → Owned → Bool → Type 0
owned_took a row b good = MatchBool good
    ((b.parties ≡ a.parties) × Passes IsParcel shown_parcel (of_parcel a.parties) row)
    (Names IsParcel shown_parcel (of_parcel a.parties) row b.fault)

abbrev pub declared_took : Declared → Row → Declared → Bool → Type 0
declared_took a row b good = MatchBool good
    ((b.parcels ≡ a.parcels) × (b.parties ≡ a.parties) × Passes IsInterest shown_interest (of_interest a.parcels a.parties) row)
    (Names IsInterest shown_interest (of_interest a.parcels a.parties) row b.fault)

abbrev pub tested_took : Tested → Row → Tested → Bool → Type 0
tested_took a row b good = MatchBool good
    ((b.upgrade ≡ a.upgrade) × (b.roles.items ≡ a.roles.items) × (b.parcels ≡ a.parcels) × (b.last ≡ a.last)
    × Passes (IsGoodFile a.upgrade) shown_file (of_file a.roles.items a.parcels a.last) row)
    (Names (IsGoodFile a.upgrade) shown_file (of_file a.roles.items a.parcels a.last) row b.fault)

-- none was reported and all rows were taken, or the one that was reported
abbrev pub Told : Bool → Option Fault → (Option Fault → Type 0) → Type 0
Told all found IsIt = ((all ≡ true) × IsIt None) ⊎ ((all ≡ false) × IsIt found)

module _ (edition : Edition) {S : Type 0} (g : Ghosts S) (old new : Held S) (t : Tables) (typed : AreTyped t) (k : KeepsUnder edition t (state g old).now) where
  pub parcels_told : (a b : Owned) (all : Bool) → TookRows owned_took g EACH_PARCEL.now [] old new a b all →
      Told all b.fault (λ o. o ≡ first_in (of_parcel a.parties) t.parcels)
  parcels_told a b all h =
      after (all_or_stopped edition g old new t k EACH_PARCEL.now _ (each_parcel_text edition) shown_parcel owned_took Fits (λ d. d.fault ≡ first_in of t.parcels)
      (left_next IsParcel shown_parcel owned_took IsSame of (λ d. d.fault) next stop t.parcels)
      (left_stop IsParcel shown_parcel owned_took IsSame of (λ d. d.fault) next stop t.parcels)
      a b all (λ was late kept rows h. (t.parcels, parcels_shown edition was late t typed kept rows h, (typed.parcels, refl, refl))) h)
    where
      of : Parcel → Option Fault
      of = of_parcel a.parties

      IsSame : Owned → Type 0
      IsSame d = d.parties ≡ a.parties

      next : (d e : Owned) (p : Parcel) → IsSame d → IsParcel p → owned_took d (shown_parcel p) e true → IsSame e × (of p ≡ None)
      next d e p same good h = (h.0 ∙ same, ap (λ n. of_parcel n p) (sym same) ∙ h.1 p good refl)

      stop : (d e : Owned) (p : Parcel) → IsSame d → IsParcel p → owned_took d (shown_parcel p) e false → (e.fault ≡ of p) × IsSome e.fault
      stop d e p same good h = let it = h p good refl in (it.0 ∙ ap (λ n. of_parcel n p) same, it.1)

      Fits : Owned → List Parcel → Type 0
      Fits = Left IsParcel shown_parcel owned_took IsSame of (λ d. d.fault) next stop t.parcels

      after : ((all ≡ true) × Fits b []) ⊎ ((all ≡ false) × (b.fault ≡ first_in of t.parcels)) → Told all b.fault (λ o. o ≡ first_in of t.parcels)
      after (inl it) = inl (it.0, it.1.2)
      after (inr it) = inr it

  pub interests_told : (a b : Declared) (all : Bool) → TookRows declared_took g EACH_INTEREST.now [] old new a b all →
      Told all b.fault (IsFirstInterest a.parcels a.parties t.interests)
  interests_told a b all h =
      after (all_or_stopped edition g old new t k EACH_INTEREST.now _ (each_interest_text edition) shown_interest declared_took Fits
      (λ d. IsFirstInterest a.parcels a.parties t.interests d.fault)
      (λ d e i is fits h. (fits.0, fits.1, left_next IsInterest shown_interest declared_took IsSame of (λ d. d.fault) next stop fits.0 d e i is fits.2 h))
      (λ d e i is fits h. (fits.0, fits.1, left_stop IsInterest shown_interest declared_took IsSame of (λ d. d.fault) next stop fits.0 d e i is fits.2 h))
      a b all (λ was late kept rows h. let it = interests_shown edition was late t typed kept rows h in
      (it.0, it.1, (it.0, it.3, (it.2, (refl, refl), refl)))) h)
    where
      of : Interest → Option Fault
      of = of_interest a.parcels a.parties

      IsSame : Declared → Type 0
      IsSame d = (d.parcels ≡ a.parcels) × (d.parties ≡ a.parties)

      moved : (d : Declared) (i : Interest) → IsSame d → of_interest d.parcels d.parties i ≡ of i
      moved d i same = ap (λ n. of_interest n d.parties i) same.0 ∙ ap (λ n. of_interest a.parcels n i) same.1

      next : (d e : Declared) (i : Interest) → IsSame d → IsInterest i → declared_took d (shown_interest i) e true → IsSame e × (of i ≡ None)
      next d e i same good h = ((h.0 ∙ same.0, h.1 ∙ same.1), sym (moved d i same) ∙ h.2 i good refl)

      stop : (d e : Declared) (i : Interest) → IsSame d → IsInterest i → declared_took d (shown_interest i) e false → (e.fault ≡ of i) × IsSome e.fault
      stop d e i same good h = let it = h i good refl in (it.0 ∙ moved d i same, it.1)

      Fits : Declared → List Interest → Type 0
      Fits d is = (given : List Interest) × IsPermutation t.interests given
          × Left IsInterest shown_interest declared_took IsSame of (λ d. d.fault) next stop given d is

      after : ((all ≡ true) × Fits b []) ⊎ ((all ≡ false) × IsFirstInterest a.parcels a.parties t.interests b.fault) →
          Told all b.fault (IsFirstInterest a.parcels a.parties t.interests)
      after (inl (took, (given, same, left))) = inl (took, (given, same, left.2))
      after (inr it) = inr it

  pub files_told : (a b : Tested) (all : Bool) → a.upgrade ≡ t.upgrade → TookRows tested_took g EACH_FILE.now [] old new a b all →
      Told all b.fault (λ o. o ≡ first_in (of_file a.roles.items a.parcels a.last) t.files)
  files_told a b all upgrade h =
      after (all_or_stopped edition g old new t k EACH_FILE.now _ (each_file_text edition) shown_file tested_took Fits (λ d. d.fault ≡ first_in of t.files)
      (left_next (IsGoodFile a.upgrade) shown_file tested_took IsSame of (λ d. d.fault) next stop t.files)
      (left_stop (IsGoodFile a.upgrade) shown_file tested_took IsSame of (λ d. d.fault) next stop t.files)
      a b all (λ was late kept rows h. (
        t.files,
        files_shown edition was late t typed kept rows h,
        (good a.upgrade t.files typed.files (subst (λ u. AllByRecursion (λ f. IsNamed u f.id f.state) t.files) (sym upgrade) k.keyed.named), (refl, refl, refl, refl), refl),
      )) h)
    where
      of : FileRow → Option Fault
      of = of_file a.roles.items a.parcels a.last

      IsSame : Tested → Type 0
      IsSame d = (d.upgrade ≡ a.upgrade) × (d.roles.items ≡ a.roles.items) × (d.parcels ≡ a.parcels) × (d.last ≡ a.last)

      moved : (d : Tested) (f : FileRow) → IsSame d → of_file d.roles.items d.parcels d.last f ≡ of f
      moved d f same = ap (λ r. of_file r d.parcels d.last f) same.1 ∙ ap (λ n. of_file a.roles.items n d.last f) same.2
          ∙ ap (λ l. of_file a.roles.items a.parcels l f) same.3

      next : (d e : Tested) (f : FileRow) → IsSame d → IsGoodFile a.upgrade f → tested_took d (shown_file f) e true → IsSame e × (of f ≡ None)
      next d e f same good h = (
        (h.0 ∙ same.0, h.1 ∙ same.1, h.2 ∙ same.2, h.3 ∙ same.3),
        sym (moved d f same) ∙ h.4 f (subst (λ u. IsGoodFile u f) (sym same.0) good) refl,
      )

      stop : (d e : Tested) (f : FileRow) → IsSame d → IsGoodFile a.upgrade f → tested_took d (shown_file f) e false → (e.fault ≡ of f) × IsSome e.fault
      stop d e f same good h = let it = h f (subst (λ u. IsGoodFile u f) (sym same.0) good) refl in (it.0 ∙ moved d f same, it.1)

      Fits : Tested → List FileRow → Type 0
      Fits = Left (IsGoodFile a.upgrade) shown_file tested_took IsSame of (λ d. d.fault) next stop t.files

      good : (u : Option ℕ) (fs : List FileRow) → AllByRecursion (λ f. IsFile f) fs → AllByRecursion (λ f. IsNamed u f.id f.state) fs →
          AllByRecursion (IsGoodFile u) fs
      good u [] p q = tt
      good u (f ∷ fs) p q = ((p.0, q.0), good u fs p.1 q.1)

      after : ((all ≡ true) × Fits b []) ⊎ ((all ≡ false) × (b.fault ≡ first_in of t.files)) → Told all b.fault (λ o. o ≡ first_in of t.files)
      after (inl it) = inl (it.0, it.1.2)
      after (inr it) = inr it

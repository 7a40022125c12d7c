-- What is named first of typed tables is false of them.
use Rattle.std.proofs.Common.{◌≡◌, ℕ, Bool, true, false, not, Some, None, Option, List, [], ◌∷◌, ◌++◌, map, refl, sym, ap, subst, ◌∙◌, true≢false}
use Rattle.std.specs.Prelude.{◌&&◌, IsTrue, IfSome, IsPermutation, nat_le, option_map, if◌then◌else◌}
use Rattle.std.specs.List.{list_any, AllByRecursion}
use Rattle.std.proofs.lemmas.Bool.{and_from, or_left, or_right, eq-eqb}
use Rattle.std.proofs.lemmas.List.Sorted.{list_any-IsPermutation}
use Rattle.sqlite_trees.proofs.ListLemmas.{all-permutation}
use Rattle.permit_base.specs.declared.words.Role.TheVariants.{Reviewer, Inspector}
use Rattle.permit_model.specs.Caller.{Party}
use Rattle.permit_model.specs.Parcels.{Parcel, Interest}
use Rattle.permit_model.specs.Tables.{Tables, FileRow}
use Rattle.permit_model.specs.Sound.{has_party}
use Rattle.permit_sql_rows.specs.Kept.{AreKeyed}
use Rattle.permit_sql_rows.specs.Typed.{IsParcel, IsInterest, IsFile}
use Rattle.permit_sql.specs.Found.{AreTyped}
use Rattle.permit_sql.specs.Named.{breaks, is_it, holds_of_parcel, holds_of_interest, holds_of_file, fits_interest_rule, fits_file_rule}
use Rattle.permit_sql.specs.First.{first_broken, or_else, first_in, interest_rules, file_rules, roles_in, of_parcel, of_interest, of_file}
use Rattle.permit_sql.specs.declared.fault.Fault.{Fault}
use Rattle.permit_sql.specs.declared.fault.Fault.TheVariants as fault
use Rattle.permit_sql.specs.declared.fault.ParcelRule.TheVariants as parcel
use Rattle.permit_sql.specs.declared.fault.InterestRule.{InterestRule}
use Rattle.permit_sql.specs.declared.fault.InterestRule.TheVariants as interest
use Rattle.permit_sql.specs.declared.fault.FileRule.{FileRule}
use Rattle.permit_sql.specs.declared.fault.FileRule.TheVariants as file
use Rattle.permit_sql.proofs.Soundness.{among as among_parties, parcel_there, by_roles, contractor_there, of_role_there}

-- ---- parts of tests

pub negated : (b : Bool) → b ≡ false → not b ≡ true
negated true e = absurd (true≢false e)
negated false e = refl

pub first_fails : (a b : Bool) → a ≡ false → (a && b) ≡ false
first_fails true b e = absurd (true≢false e)
first_fails false b e = refl

second_fails : (a b : Bool) → b ≡ false → (a && b) ≡ false
second_fails true b e = e
second_fails false b e = refl

-- a number is the one that is named
pub itself : (n : ℕ) → is_it (Some n) n ≡ true
itself n = eq-eqb n n refl

-- what holds of a fault, where it is the one that was found
pub found_is : (t : Tables) (o : Option Fault) (f : Fault) → o ≡ Some f → breaks t f ≡ true → IfSome o (λ g. IsTrue (breaks t g))
found_is t o f is told = subst (λ x. IfSome x (λ g. breaks t g ≡ true)) (sym is) told

-- where the first fault of some rows is false of the tables, so is the one that was found
pub each_breaks : (t : Tables) (found first : Option Fault) → found ≡ first → ((f : Fault) → first ≡ Some f → breaks t f ≡ true) →
    IfSome found (λ f. IsTrue (breaks t f))
each_breaks t None first is h = tt
each_breaks t (Some f) first is h = h f (sym is)

-- each of the ones is among the others, for any test
abbrev pub Among : {A : Type 0} → List A → List A → Type 0
Among {A} xs all = (test : A → Bool) → list_any test xs ≡ true → list_any test all ≡ true

-- where the file breaks what is tested of its row, it breaks what the rule says
file_breaks : (t : Tables) (typed : AreTyped t) (keyed : AreKeyed t) (f : FileRow) → IsFile f → (rule : FileRule) →
    fits_file_rule (map (λ (p : Party). p.role) t.parties) t.desk.parcels t.desk.last rule f.state ≡ false → holds_of_file t rule f ≡ false
file_breaks t typed keyed f good file.Number h = absurd (true≢false h)
file_breaks t typed keyed f good file.Parcel h = parcel_there t typed f.state.parcel good.state.parcel ∙ h
file_breaks t typed keyed f good file.Applicant h = by_roles t typed keyed f.state.applicant good.state.applicant ∙ h
file_breaks t typed keyed f good file.Contractor h = contractor_there t typed keyed f.state good.state.contractor ∙ h
file_breaks t typed keyed f good file.Reviewer h = of_role_there t typed keyed Reviewer f.state.reviewer good.state.reviewer ∙ h
file_breaks t typed keyed f good file.Inspector h = of_role_there t typed keyed Inspector f.state.inspector good.state.inspector ∙ h
file_breaks t typed keyed f good file.Kind h = absurd (true≢false h)
file_breaks t typed keyed f good file.Valuation h = absurd (true≢false h)
file_breaks t typed keyed f good file.Description h = absurd (true≢false h)
file_breaks t typed keyed f good file.Filed h = h
file_breaks t typed keyed f good file.Stage h = absurd (true≢false h)
file_breaks t typed keyed f good file.NoDeadline h = absurd (true≢false h)
file_breaks t typed keyed f good file.EarlyDeadline h = h
file_breaks t typed keyed f good file.LateDeadline h = h
file_breaks t typed keyed f good file.Done h = h
file_breaks t typed keyed f good file.Request h = absurd (true≢false h)
file_breaks t typed keyed f good file.RequestStage h = h
file_breaks t typed keyed f good file.Requested h = second_fails _ _ h
file_breaks t typed keyed f good file.Ask h = h
file_breaks t typed keyed f good file.Stopped h = h
file_breaks t typed keyed f good file.Temporary h = h
file_breaks t typed keyed f good file.TemporaryStage h = h
file_breaks t typed keyed f good file.Notices h = absurd (true≢false h)
file_breaks t typed keyed f good file.NoticesStage h = h
file_breaks t typed keyed f good file.Papers h = second_fails _ _ h

-- ---- the first fault of some rows

-- a rule that is the first one broken
pub broken_fails : {R : Type 0} (holds : R → Bool) (rules : List R) (rule : R) → first_broken holds rules ≡ Some rule → holds rule ≡ false
broken_fails holds [] rule is = absurd (let e = is in cc)
broken_fails {R} holds (r ∷ rs) rule is = go (holds r) refl is (broken_fails holds rs rule)
  where
    go : (b : Bool) → holds r ≡ b → (if b then first_broken holds rs else Some r) ≡ Some rule → (first_broken holds rs ≡ Some rule → holds rule ≡ false) →
        holds rule ≡ false
    go true e is later = later is
    go false e is later = let same : r ≡ rule = cc in ap holds (sym same) ∙ e

-- a rule that is broken among the first of some rules, and one after rules that all hold
pub broken_in : {R : Type 0} (holds : R → Bool) (rules more : List R) (rule : R) → Some rule ≡ first_broken holds rules →
    Some rule ≡ first_broken holds (rules ++ more)
broken_in holds [] more rule is = absurd (let e = is in cc)
broken_in {R} holds (r ∷ rs) more rule is = go (holds r) is (broken_in holds rs more rule)
  where
    go : (b : Bool) → Some rule ≡ (if b then first_broken holds rs else Some r) →
        (Some rule ≡ first_broken holds rs → Some rule ≡ first_broken holds (rs ++ more)) →
        Some rule ≡ (if b then first_broken holds (rs ++ more) else Some r)
    go true is later = later is
    go false is later = is

pub broken_past : {R : Type 0} (holds : R → Bool) (rules more : List R) → None ≡ first_broken holds rules →
    first_broken holds more ≡ first_broken holds (rules ++ more)
broken_past holds [] more is = refl
broken_past {R} holds (r ∷ rs) more is = go (holds r) is (broken_past holds rs more)
  where
    go : (b : Bool) → None ≡ (if b then first_broken holds rs else Some r) →
        (None ≡ first_broken holds rs → first_broken holds more ≡ first_broken holds (rs ++ more)) →
        first_broken holds more ≡ (if b then first_broken holds (rs ++ more) else Some r)
    go true is later = later is
    go false is later = absurd (let e = is in cc)

pub mapped : {R : Type 0} (o : Option R) (make : R → Fault) (f : Fault) → option_map make o ≡ Some f → (r : R) × (o ≡ Some r) × (make r ≡ f)
mapped None make f is = absurd (let e = is in cc)
mapped (Some r) make f is = (r, refl, cc)

-- a row that breaks what is said of it breaks it among all
pub in_first : {X : Type 0} (IsGood : X → Type 0) (all : List X) (fault_of : X → Option Fault) (P : Type 0) (f : Fault) →
    ((x : X) → IsGood x → ((test : X → Bool) → test x ≡ true → list_any test all ≡ true) → fault_of x ≡ Some f → P) → (xs : List X) →
    AllByRecursion IsGood xs → Among xs all → first_in fault_of xs ≡ Some f → P
in_first IsGood all fault_of P f step [] good here is = absurd (let e = is in cc)
in_first {X} IsGood all fault_of P f step (x ∷ xs) good here is =
    go (fault_of x) refl is (in_first IsGood all fault_of P f step xs good.1 (λ test any. here test (or_right (test x) _ any)))
  where
    go : (o : Option Fault) → fault_of x ≡ o → or_else o (first_in fault_of xs) ≡ Some f → (first_in fault_of xs ≡ Some f → P) → P
    go None e is later = later is
    go (Some h) e is later = step x good.0 (λ test yes. here test (or_left (test x) _ yes)) (e ∙ is)

module _ (t : Tables) (typed : AreTyped t) (keyed : AreKeyed t) (f : Fault) where
  pub parcels_break : first_in (of_parcel t.desk.parties) t.parcels ≡ Some f → breaks t f ≡ true
  parcels_break = in_first IsParcel t.parcels (of_parcel t.desk.parties) (breaks t f ≡ true) f step t.parcels typed.parcels (λ test any. any)
    where
      step : (p : Parcel) → IsParcel p → ((test : Parcel → Bool) → test p ≡ true → list_any test t.parcels ≡ true) → of_parcel t.desk.parties p ≡ Some f →
          breaks t f ≡ true
      step p good among is = go (nat_le p.owner t.desk.parties) refl is
        where
          go : (b : Bool) → nat_le p.owner t.desk.parties ≡ b → (if b then None else Some (fault.Parcel (Some p.id) parcel.Owner)) ≡ Some f → breaks t f ≡ true
          go true e is = absurd (let h = is in cc)
          go false away is =
              let same : fault.Parcel (Some p.id) parcel.Owner ≡ f = cc in
              let none : has_party t p.owner ≡ false = among_parties t typed p.owner good.owner ∙ away in
              subst (λ x. breaks t x ≡ true) same (among (λ q. is_it (Some p.id) q.id && not (holds_of_parcel t parcel.Owner q))
              (and_from _ _ (itself p.id) (negated (has_party t p.owner) none)))

  pub interests_break : (given : List Interest) → IsPermutation t.interests given →
      first_in (of_interest t.desk.parcels t.desk.parties) given ≡ Some f → breaks t f ≡ true
  interests_break given perm = in_first IsInterest t.interests (of_interest t.desk.parcels t.desk.parties) (breaks t f ≡ true) f step given
      (all-permutation IsInterest t.interests given perm typed.interests) (λ test any. list_any-IsPermutation test t.interests given perm ∙ any)
    where
      broken : (i : Interest) → IsInterest i → (rule : InterestRule) → fits_interest_rule t.desk.parcels t.desk.parties rule i ≡ false →
          holds_of_interest t rule i ≡ false
      broken i good interest.Parcel h = parcel_there t typed i.parcel good.parcel ∙ h
      broken i good interest.Party h = among_parties t typed i.party good.party ∙ h

      step : (i : Interest) → IsInterest i → ((test : Interest → Bool) → test i ≡ true → list_any test t.interests ≡ true) →
          of_interest t.desk.parcels t.desk.parties i ≡ Some f → breaks t f ≡ true
      step i good among is =
          let it = mapped _ (fault.Interest (Some i.parcel) (Some i.party)) f is in
          let away = broken_fails (λ rule. fits_interest_rule t.desk.parcels t.desk.parties rule i) interest_rules it.0 it.1 in
          subst (λ x. breaks t x ≡ true) it.2
          (among (λ j. is_it (Some i.parcel) j.parcel && is_it (Some i.party) j.party && not (holds_of_interest t it.0 j))
          (and_from _ _ (and_from _ _ (itself i.parcel) (itself i.party)) (negated _ (broken i good it.0 away))))

  pub files_break : first_in (of_file (roles_in t) t.desk.parcels t.desk.last) t.files ≡ Some f → breaks t f ≡ true
  files_break =
      in_first (λ (g : FileRow). IsFile g) t.files (of_file (roles_in t) t.desk.parcels t.desk.last) (breaks t f ≡ true) f step t.files typed.files (λ test any. any)
    where
      step : (g : FileRow) → IsFile g → ((test : FileRow → Bool) → test g ≡ true → list_any test t.files ≡ true) →
          of_file (roles_in t) t.desk.parcels t.desk.last g ≡ Some f → breaks t f ≡ true
      step g good among is =
          let it = mapped _ (fault.File (Some g.id)) f is in
          let away = broken_fails (λ rule. fits_file_rule (roles_in t) t.desk.parcels t.desk.last rule g.state) file_rules it.0 it.1 in
          subst (λ x. breaks t x ≡ true) it.2
          (among (λ q. is_it (Some g.id) q.id && not (holds_of_file t it.0 q))
          (and_from _ _ (itself g.id) (negated _ (file_breaks t typed keyed g good it.0 away))))

-- What a denial makes of the outcome, and what an admitted command has.
use Rattle.std.proofs.Common.{◌≡◌, ℕ, ◌==◌, Bool, true, false, not, List, [], ◌∷◌, length, refl, sym, ◌∙◌, ap, arith}
use Rattle.std.specs.Prelude.{Option, None, Some, Result, Ok, Err, IfOk, find, is_some, is_none, IsTrue, nat_le, nat_lt, bytes_eq, ◌&&◌, if◌then◌else◌}
use Rattle.std.specs.List.{list_any}
use Rattle.std.proofs.lemmas.Bool.Decides.{nat_tests}
use Rattle.permit_base.specs.declared.words.Role.{Role}
use Rattle.permit_base.specs.declared.refusal.Reason.{Reason}
use Rattle.permit_base.specs.declared.refusal.Refusal.TheVariants as refusal
use Rattle.permit_base.specs.declared.request.Request.{Request}
use Rattle.permit_base.specs.declared.request.Request.TheVariants.{AddParty, AddParcel, File, Declare, Transfer}
use Rattle.permit_base.specs.Digests.{digest_of}
use Rattle.permit_base.specs.Limits.{most_records}
use Rattle.permit_base.specs.declared.words.Edition.{Edition}
use Rattle.permit_base.specs.declared.words.Edition.TheVariants.{First, Second}
use Rattle.permit_model.specs.Codes.{is_edition}
use Rattle.permit_model.specs.History.{History, edition}
use Rattle.permit_model.specs.Caller.{Party, parties, is_party}
use Rattle.permit_model.specs.Parcels.{Parcel, parcels, parcel_numbered, has_interest}
use Rattle.permit_model.specs.Files.{filings, case_file, case_files}
use Rattle.permit_base.specs.declared.words.Kind.{Kind}
use Rattle.std.proofs.lemmas.List.{length-map}
use Rattle.permit_model.specs.Policy.{Policy, Decision, is_allow}
use Rattle.permit_model.specs.Admission.{first_failing, reason_against}
use Rattle.permit_model.specs.Machine.{Outcome, outcome_by_decision, outcome_if_allowed, refused}
use Rattle.permit_policy.specs.Denial.{denied}
use Rattle.permit_office.specs.Answers.{reason_in}
use Rattle.permit_office.proofs.Lists.{any_found}

denied_by : (allowed : Outcome) (h : History) (name rule : List ℕ) (b : Bool) → Some name ≡ (if b then None else Some rule) →
    (if b then allowed else refused h (refusal.Denied rule)) ≡ refused h (refusal.Denied name)
denied_by allowed h name rule true e = cc
denied_by allowed h name rule false e = let same : rule ≡ name = cc in ap (λ r. refused h (refusal.Denied r)) same

-- a denial is the outcome
pub denied_outcome : (policy : Policy) (h : History) (day : ℕ) (caller : Party) (request : Request) (d : Decision) (name : List ℕ) → Some name ≡ denied d →
    outcome_by_decision policy h day caller request d ≡ refused h (refusal.Denied name)
denied_outcome policy h day caller request d name e = denied_by (outcome_if_allowed policy h day caller request) h name d.rule (is_allow d.effect) e

allowed_by : (allowed : Outcome) (other : Outcome) (rule : List ℕ) (b : Bool) → None ≡ (if b then None else Some rule) →
    (if b then allowed else other) ≡ allowed
allowed_by allowed other rule true e = refl
allowed_by allowed other rule false e = cc

-- what isn't denied is performed
pub allowed_outcome : (policy : Policy) (h : History) (day : ℕ) (caller : Party) (request : Request) (d : Decision) → None ≡ denied d →
    outcome_by_decision policy h day caller request d ≡ outcome_if_allowed policy h day caller request
allowed_outcome policy h day caller request d e = allowed_by (outcome_if_allowed policy h day caller request) (refused h (refusal.Denied d.rule)) d.rule
    (is_allow d.effect) e

room : (most n : ℕ) → nat_le most n ≡ false → nat_lt n most ≡ true
room most n e = grind (arith, nat_tests)

none_found : {A : Type 0} (o : Option A) → is_some o ≡ false → is_none o ≡ true
none_found None e = refl
none_found (Some x) e = cc

pub three_pass : (a b c : Bool) (r s t : Reason) → first_failing ((not a, r) ∷ (b, s) ∷ (c, t) ∷ []) ≡ None → (a ≡ true) × (b ≡ false) × (c ≡ false)
three_pass true true c r s t e = cc
three_pass true false true r s t e = cc
three_pass true false false r s t e = (refl, refl, refl)
three_pass false b c r s t e = cc

pub two_pass : (b c : Bool) (s t : Reason) → first_failing ((b, s) ∷ (c, t) ∷ []) ≡ None → (b ≡ false) × (c ≡ false)
two_pass true c s t e = cc
two_pass false true s t e = cc
two_pass false false s t e = (refl, refl)

pub one_pass : (c : Bool) (t : Reason) → first_failing ((c, t) ∷ []) ≡ None → c ≡ false
one_pass true t e = cc
one_pass false t e = refl

pub all_three : (a b c : Bool) → a ≡ true → b ≡ true → c ≡ true → IsTrue (a && b && c)
all_three true true true d e f = refl
all_three false b c d e f = cc
all_three true false c d e f = cc
all_three true true false d e f = cc

all_two : (a b : Bool) → a ≡ true → b ≡ true → IsTrue (a && b)
all_two true true d e = refl
all_two false b d e = cc
all_two true false d e = cc

-- an admitted parcel suits the tables
pub parcel_suits : (h : History) (day caller : ℕ) (lot address : List ℕ) (owner : ℕ) → reason_against h day caller (AddParcel lot address owner) ≡ None →
    IsTrue (nat_lt (length (parcels h)) most_records && is_none (find (λ p. bytes_eq p.lot lot) (parcels h)) && is_some (find (λ p. p.id == owner) (parties h)))
parcel_suits h day caller lot address owner e =
    let t = three_pass (is_some (find (λ (p : Party). p.id == owner) (parties h))) (list_any (λ (p : Parcel). bytes_eq p.lot lot) (parcels h))
    (nat_le most_records (length (parcels h))) _ _ _ e in
    all_three _ _ _ (room _ _ t.2) (none_found (find (λ (p : Parcel). bytes_eq p.lot lot) (parcels h))
    (sym (any_found (λ (p : Parcel). bytes_eq p.lot lot) (parcels h)) ∙ t.1)) t.0

-- an admitted party suits the tables
pub party_suits : (h : History) (day caller : ℕ) (name : List ℕ) (role : Role) (token digest : List ℕ) → digest ≡ digest_of token →
    reason_against h day caller (AddParty name role token) ≡ None →
    IsTrue (nat_lt (length (parties h)) most_records && is_none (find (λ p. bytes_eq p.digest digest) (parties h)))
party_suits h day caller name role token digest d e =
    let t = two_pass (is_some (find (λ (p : Party). bytes_eq p.digest (digest_of token)) (parties h))) (nat_le most_records (length (parties h))) _ _ e in
    all_two _ _ (room _ _ t.1) (ap (λ x. is_none (find (λ (p : Party). bytes_eq p.digest x) (parties h))) d
    ∙ none_found (find (λ (p : Party). bytes_eq p.digest (digest_of token)) (parties h)) t.0)

-- ---- what is admitted

-- there is no reason against what is admitted
pub none_against : (r : Result (Option ℕ) Reason) (number : Option ℕ) → r ≡ Ok number → reason_in r ≡ None
none_against r number e = ap reason_in e

-- and the number is the one that it is said to have
pub number_is : (r : Result (Option ℕ) Reason) (number same : Option ℕ) → IfOk r (λ n. n ≡ same) → r ≡ Ok number → number ≡ same
number_is (Ok n) number same is e = cc
number_is (Err why) number same is e = cc

pub both : (a b : Bool) → IsTrue a → IsTrue b → IsTrue (a && b)
both true b one two = two
both false b one two = absurd cc

-- an edition is itself
pub edition_itself : (e : Edition) → IsTrue (is_edition e e)
edition_itself First = refl
edition_itself Second = refl

-- an admitted file suits the tables
pub file_suits : (h : History) (day caller parcel : ℕ) (kind : Kind) (valuation : ℕ) (description : List ℕ) (land : Parcel) →
    parcel_numbered h parcel ≡ Some land → IsTrue (is_party h caller) → reason_against h day caller (File parcel kind valuation description) ≡ None →
    IsTrue (nat_lt (length (case_files h)) most_records && is_edition (edition h) (edition h) && is_some (parcel_numbered h parcel) && is_party h caller)
file_suits h day caller parcel kind valuation description land there party e =
    let c : nat_le most_records (length (filings h)) ≡ false = one_pass (nat_le most_records (length (filings h))) _ e in
    let s : nat_le most_records (length (case_files h)) ≡ false = ap (λ n. nat_le most_records n) (length-map (filings h) (case_file h)) ∙ c in
    all_three _ _ _ (both _ _ (room _ _ s) (edition_itself (edition h))) (ap (λ o. is_some o) there) party

first_two : (a b : Bool) (r s : Reason) → first_failing ((not a, r) ∷ (b, s) ∷ []) ≡ None → a ≡ true
first_two true b r s e = refl
first_two false b r s e = cc

-- an admitted declaration suits the tables
pub interest_suits : (h : History) (day caller parcel : ℕ) (land : Parcel) → parcel_numbered h parcel ≡ Some land → IsTrue (is_party h caller) →
    reason_against h day caller (Declare parcel) ≡ None →
    IsTrue (is_some (parcel_numbered h parcel) && is_party h caller && not (has_interest h parcel caller))
interest_suits h day caller parcel land there party e =
    all_three _ _ _ (ap (λ o. is_some o) there) party (ap not (one_pass (has_interest h parcel caller) _ e))

-- an admitted transfer suits the tables
pub transfer_suits : (h : History) (day caller parcel to : ℕ) (land : Parcel) → parcel_numbered h parcel ≡ Some land →
    reason_against h day caller (Transfer parcel to) ≡ None →
    IsTrue (is_some (parcel_numbered h parcel) && is_party h to)
transfer_suits h day caller parcel to land there e =
    all_two _ _ (ap (λ o. is_some o) there) (first_two (is_party h to) _ _ _ e)

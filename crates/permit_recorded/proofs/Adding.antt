-- A command that is done adds its entry, and has its number.
use Rattle.std.proofs.Common.{◌≡◌, refl, ap, subst, ℕ, Bool, true, false, List, ◌∷◌, Option, None, Some}
use Rattle.std.specs.Prelude.{nat_lt, if◌then◌else◌, option_map, unwrap_or}
use Rattle.permit_base.specs.declared.refusal.Reason.{Reason}
use Rattle.permit_base.specs.declared.refusal.Refusal.{Refusal}
use Rattle.permit_base.specs.declared.refusal.Refusal.TheVariants as refusal
use Rattle.permit_base.specs.declared.request.Request.{Request}
use Rattle.permit_base.specs.declared.request.Request.TheVariants.{AddParty, AddParcel, Transfer, Declare, ReadParcel, File, ReadFile, ListFiles, Register}
use Rattle.permit_base.specs.declared.request.Request.TheVariants.{OnFile}
use Rattle.permit_model.specs.Admission.{reason_against}
use Rattle.permit_model.specs.Caller.{Party, who}
use Rattle.permit_model.specs.Facts.{Facts}
use Rattle.permit_model.specs.Files.{CaseFile, case_numbered}
use Rattle.permit_model.specs.History.{Entry, History, last_day}
use Rattle.permit_model.specs.Parcels.{Parcel, parcel_numbered}
use Rattle.permit_model.specs.Policy.{Policy, is_allow, decision}
use Rattle.permit_model.specs.Machine.{Done, Outcome, entry_of, facts_of, number_made, outcome_by_caller, outcome_by_facts, outcome_by_reason}
use Rattle.permit_model.specs.Machine.{outcome_by_request, outcome_if_allowed, refused, shown_file, shown_parcel, step_as, unchanged}
use Rattle.permit_office.specs.Callers.{number_of}

-- if it is done, the entry is added, and the number is the entry's
abbrev Adds : History → Entry → Outcome → Type 0
Adds h e o = (n : Option ℕ) → o.reply ≡ Done n → (o.history ≡ e ∷ h) × (n ≡ e.number)

numbered : (n m : Option ℕ) → Done m ≡ Done n → n ≡ m
numbered n m is = cc

by_reason : (h : History) (e : Entry) (r : Option Reason) → Adds h e (outcome_by_reason h e r)
by_reason h e None n is = (refl, numbered n e.number is)
by_reason h e (Some why) n is = cc

by_parcel : (h : History) (e : Entry) (o : Option Parcel) → Adds h e (unchanged h (shown_parcel o))
by_parcel h e None n is = cc
by_parcel h e (Some p) n is = cc

by_file : (h : History) (e : Entry) (day : ℕ) (o : Option CaseFile) → Adds h e (unchanged h (shown_file h day o))
by_file h e day None n is = cc
by_file h e day (Some f) n is = cc

if_allowed : (policy : Policy) (h : History) (day : ℕ) (caller : Party) (asked : Request)
    → Adds h (entry_of h day caller.id asked) (outcome_if_allowed policy h day caller asked)
if_allowed policy h day caller (ReadParcel id) = by_parcel h _ (parcel_numbered h id)
if_allowed policy h day caller (ReadFile id) = by_file h _ day (case_numbered h id)
if_allowed policy h day caller (ListFiles wanted) = λ n is. cc
if_allowed policy h day caller (Register kind) = λ n is. cc
if_allowed policy h day caller (AddParty name role token) = by_reason h _ (reason_against h day caller.id (AddParty name role token))
if_allowed policy h day caller (AddParcel lot address owner) = by_reason h _ (reason_against h day caller.id (AddParcel lot address owner))
if_allowed policy h day caller (Transfer parcel to) = by_reason h _ (reason_against h day caller.id (Transfer parcel to))
if_allowed policy h day caller (Declare parcel) = by_reason h _ (reason_against h day caller.id (Declare parcel))
if_allowed policy h day caller (File parcel kind valuation description) =
    by_reason h _ (reason_against h day caller.id (File parcel kind valuation description))
if_allowed policy h day caller (OnFile file command) = by_reason h _ (reason_against h day caller.id (OnFile file command))

by_effect : (policy : Policy) (h : History) (day : ℕ) (caller : Party) (asked : Request) (why : Refusal) (b : Bool)
    → Adds h (entry_of h day caller.id asked) (if b then outcome_if_allowed policy h day caller asked else refused h why)
by_effect policy h day caller asked why true = if_allowed policy h day caller asked
by_effect policy h day caller asked why false = λ n is. cc

by_facts : (policy : Policy) (h : History) (day : ℕ) (caller : Party) (asked : Request) (facts : Option Facts)
    → Adds h (entry_of h day caller.id asked) (outcome_by_facts policy h day caller asked facts)
by_facts policy h day caller asked None = λ n is. cc
by_facts policy h day caller asked (Some facts) =
    let d = decision policy facts in by_effect policy h day caller asked (refusal.Denied d.rule) (is_allow d.effect)

by_request : (policy : Policy) (h : History) (day : ℕ) (caller : Party) (asked : Request)
    → Adds h (entry_of h day caller.id asked) (outcome_by_request policy h day caller asked)
by_request policy h day caller (ListFiles wanted) = λ n is. cc
by_request policy h day caller (Register kind) = λ n is. cc
by_request policy h day caller (AddParty name role token) = by_facts policy h day caller _ (facts_of h day caller (AddParty name role token))
by_request policy h day caller (AddParcel lot address owner) = by_facts policy h day caller _ (facts_of h day caller (AddParcel lot address owner))
by_request policy h day caller (Transfer parcel to) = by_facts policy h day caller _ (facts_of h day caller (Transfer parcel to))
by_request policy h day caller (Declare parcel) = by_facts policy h day caller _ (facts_of h day caller (Declare parcel))
by_request policy h day caller (ReadParcel parcel) = by_facts policy h day caller _ (facts_of h day caller (ReadParcel parcel))
by_request policy h day caller (File parcel kind valuation description) =
    by_facts policy h day caller _ (facts_of h day caller (File parcel kind valuation description))
by_request policy h day caller (ReadFile file) = by_facts policy h day caller _ (facts_of h day caller (ReadFile file))
by_request policy h day caller (OnFile file command) = by_facts policy h day caller _ (facts_of h day caller (OnFile file command))

by_clock : (policy : Policy) (h : History) (day : ℕ) (caller : Party) (asked : Request) (late : Bool)
    → Adds h (entry_of h day caller.id asked) (if late then refused h refusal.Clock else outcome_by_request policy h day caller asked)
by_clock policy h day caller asked true = λ n is. cc
by_clock policy h day caller asked false = by_request policy h day caller asked

by_caller : (policy : Policy) (h : History) (day id : ℕ) (asked : Request) (o : Option Party) → option_map (λ (p : Party). p.id) o ≡ Some id
    → Adds h (entry_of h day id asked) (outcome_by_caller policy h day asked o)
by_caller policy h day id asked None e = λ n is. cc
by_caller policy h day id asked (Some caller) e =
    subst (λ (k : ℕ). Adds h (entry_of h day k asked) (outcome_by_caller policy h day asked (Some caller))) (ap (λ (o : Option ℕ). unwrap_or o id) e)
    (by_clock policy h day caller asked (nat_lt day (last_day h)))

-- a command of a party that is done adds its entry
pub done_adds : (policy : Policy) (h : History) (digest : List ℕ) (asked : Request) (day id : ℕ) → number_of h digest ≡ Some id
    → (n : Option ℕ) → (step_as policy h digest asked day).reply ≡ Done n
    → ((step_as policy h digest asked day).history ≡ entry_of h day id asked ∷ h) × (n ≡ number_made h asked)
done_adds policy h digest asked day id known = by_caller policy h day id asked (who h digest) known

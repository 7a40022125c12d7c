-- A policy keeps histories.
use Rattle.std.proofs.Common.{◌≡◌, refl, ℕ, Bool, true, false, List, Option, None, Some}
use Rattle.std.specs.Prelude.{nat_lt, if◌then◌else◌}
use Rattle.permit_base.specs.declared.refusal.Reason.{Reason}
use Rattle.permit_base.specs.declared.refusal.Refusal.{Refusal}
use Rattle.permit_base.specs.declared.refusal.Refusal.TheVariants as refusal
use Rattle.permit_base.specs.declared.request.Request.{Request}
use Rattle.permit_base.specs.declared.request.Request.TheVariants.{AddParty, AddParcel, Transfer, Declare, ReadParcel, File, ReadFile, ListFiles, Register}
use Rattle.permit_base.specs.declared.request.Request.TheVariants.{OnFile}
use Rattle.permit_model.proofs.Histories.{step_keeps}
use Rattle.permit_model.specs.Admission.{reason_against}
use Rattle.permit_model.specs.Caller.{Party, who}
use Rattle.permit_model.specs.Facts.{Facts}
use Rattle.permit_model.specs.History.{Entry, History, last_day}
use Rattle.permit_model.specs.Policy.{Policy, is_allow, decision}
use Rattle.permit_model.specs.Machine.{Done, IsHistory, Outcome, Reply, facts_of, outcome_by_caller, outcome_by_facts, outcome_by_reason, outcome_by_request}
use Rattle.permit_model.specs.Machine.{outcome_if_allowed, refused, step_as}

-- the machine's reply to a command that is done
abbrev pub is_done : Reply → Bool
is_done (Done number) = true
is_done reply = false

-- it leads from a history to a history, and leaves it but for a command that is done
pub record KeepsHistories (policy : Policy) : Type 0 where
  pub keeps : (h : History) (digest : List ℕ) (asked : Request) (day : ℕ) → IsHistory h → IsHistory (step_as policy h digest asked day).history
  pub leaves : (h : History) (digest : List ℕ) (asked : Request) (day : ℕ) → is_done (step_as policy h digest asked day).reply ≡ false
      → (step_as policy h digest asked day).history ≡ h

-- unless it is done, the history stays
abbrev Leaves : History → Outcome → Type 0
Leaves h o = is_done o.reply ≡ false → o.history ≡ h

by_reason : (h : History) (e : Entry) (r : Option Reason) → Leaves h (outcome_by_reason h e r)
by_reason h e None undone = cc
by_reason h e (Some why) undone = refl

if_allowed : (policy : Policy) (h : History) (day : ℕ) (caller : Party) (asked : Request)
    → Leaves h (outcome_if_allowed policy h day caller asked)
if_allowed policy h day caller (ReadParcel id) = λ undone. refl
if_allowed policy h day caller (ReadFile id) = λ undone. refl
if_allowed policy h day caller (ListFiles wanted) = λ undone. refl
if_allowed policy h day caller (Register kind) = λ undone. refl
if_allowed policy h day caller (AddParty name role token) = by_reason h _ (reason_against h day caller.id (AddParty name role token))
if_allowed policy h day caller (AddParcel lot address owner) = by_reason h _ (reason_against h day caller.id (AddParcel lot address owner))
if_allowed policy h day caller (Transfer parcel to) = by_reason h _ (reason_against h day caller.id (Transfer parcel to))
if_allowed policy h day caller (Declare parcel) = by_reason h _ (reason_against h day caller.id (Declare parcel))
if_allowed policy h day caller (File parcel kind valuation description) =
    by_reason h _ (reason_against h day caller.id (File parcel kind valuation description))
if_allowed policy h day caller (OnFile file command) = by_reason h _ (reason_against h day caller.id (OnFile file command))

by_effect : (policy : Policy) (h : History) (day : ℕ) (caller : Party) (asked : Request) (why : Refusal) (b : Bool)
    → Leaves h (if b then outcome_if_allowed policy h day caller asked else refused h why)
by_effect policy h day caller asked why true = if_allowed policy h day caller asked
by_effect policy h day caller asked why false = λ undone. refl

by_facts : (policy : Policy) (h : History) (day : ℕ) (caller : Party) (asked : Request) (facts : Option Facts)
    → Leaves h (outcome_by_facts policy h day caller asked facts)
by_facts policy h day caller asked None = λ undone. refl
by_facts policy h day caller asked (Some facts) =
    let d = decision policy facts in by_effect policy h day caller asked (refusal.Denied d.rule) (is_allow d.effect)

by_request : (policy : Policy) (h : History) (day : ℕ) (caller : Party) (asked : Request)
    → Leaves h (outcome_by_request policy h day caller asked)
by_request policy h day caller (ListFiles wanted) = λ undone. refl
by_request policy h day caller (Register kind) = λ undone. refl
by_request policy h day caller (AddParty name role token) = by_facts policy h day caller (AddParty name role token)
    (facts_of h day caller (AddParty name role token))
by_request policy h day caller (AddParcel lot address owner) = by_facts policy h day caller (AddParcel lot address owner)
    (facts_of h day caller (AddParcel lot address owner))
by_request policy h day caller (Transfer parcel to) = by_facts policy h day caller (Transfer parcel to)
    (facts_of h day caller (Transfer parcel to))
by_request policy h day caller (Declare parcel) = by_facts policy h day caller (Declare parcel)
    (facts_of h day caller (Declare parcel))
by_request policy h day caller (ReadParcel parcel) = by_facts policy h day caller (ReadParcel parcel)
    (facts_of h day caller (ReadParcel parcel))
by_request policy h day caller (File parcel kind valuation description) =
    by_facts policy h day caller (File parcel kind valuation description)
    (facts_of h day caller (File parcel kind valuation description))
by_request policy h day caller (ReadFile file) = by_facts policy h day caller (ReadFile file)
    (facts_of h day caller (ReadFile file))
by_request policy h day caller (OnFile file command) = by_facts policy h day caller (OnFile file command)
    (facts_of h day caller (OnFile file command))

by_clock : (policy : Policy) (h : History) (day : ℕ) (caller : Party) (asked : Request) (late : Bool)
    → Leaves h (if late then refused h refusal.Clock else outcome_by_request policy h day caller asked)
by_clock policy h day caller asked true = λ undone. refl
by_clock policy h day caller asked false = by_request policy h day caller asked

by_caller : (policy : Policy) (h : History) (day : ℕ) (asked : Request) (o : Option Party) → Leaves h (outcome_by_caller policy h day asked o)
by_caller policy h day asked None = λ undone. refl
by_caller policy h day asked (Some caller) = by_clock policy h day caller asked (nat_lt day (last_day h))

pub policy_keeps : (policy : Policy) → KeepsHistories policy
policy_keeps policy = record {
  keeps = λ h digest asked day is. step_keeps policy h digest asked day is;
  leaves = λ h digest asked day undone. by_caller policy h day asked (who h digest) undone;
}

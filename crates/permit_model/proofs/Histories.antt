-- A step goes from a history to a history.
use Rattle.std.proofs.Common.{arith, ◌≡◌, ◌≤◌, ℕ, Bool, cond, ◌==◌, List, [], ◌∷◌, refl}
use Rattle.std.specs.Prelude.{Option, Some, is_some, IsTrue, bytes_eq, find, nat_lt, if◌then◌else◌}
use Rattle.permit_base.specs.declared.refusal.Reason.{Reason}
use Rattle.permit_base.specs.declared.request.Request.{Request}
use Rattle.permit_base.specs.declared.request.Request.TheVariants.{AddParty, AddParcel, Transfer, Declare, ReadParcel, File, ReadFile, ListFiles, Register}
use Rattle.permit_base.specs.declared.request.Request.TheVariants.{OnFile}
use Rattle.permit_model.specs.History.{History, last_day}
use Rattle.permit_model.specs.Caller.{Party, parties, who, is_party}
use Rattle.permit_base.specs.declared.words.Action.{Action}
use Rattle.permit_model.specs.Facts.{Facts}
use Rattle.permit_model.specs.Policy.{Policy}
use Rattle.permit_model.specs.Admission.{reason_against}
use Rattle.permit_model.specs.Machine.{Object, object_of, is_there, facts_on, facts_of, entry_of, outcome_by_reason}
use Rattle.permit_model.specs.Machine.{outcome_if_allowed, outcome_by_facts, outcome_by_request, outcome_by_caller, step_as, is_command, IsHistory, refused}
use Rattle.permit_model.specs.Machine.{step, history_after}
use Rattle.permit_base.specs.declared.request.Asked.{Asked}
use Rattle.permit_base.specs.Digests.{digest_of}
use Rattle.permit_base.specs.declared.refusal.Refusal.TheVariants as refusal
use Rattle.std.proofs.lemmas.Bool.{ltb-false as not_below}

found_step : (q p : Party) (b c : Bool) (rest by_number : Option Party) → (q.id == p.id) ≡ c → cond b (Some q) rest ≡ Some p →
    (rest ≡ Some p → IsTrue (is_some by_number)) → IsTrue (is_some (cond c (Some q) by_number))
found_step q p b c rest by_number e found ih = grind arith

-- a party found by its digest is found by its number
pub found_by_number : (ps : List Party) (digest : List ℕ) (p : Party) → find (λ q. bytes_eq q.digest digest) ps ≡ Some p →
    IsTrue (is_some (find (λ q. q.id == p.id) ps))
found_by_number [] digest p found = cc
found_by_number (q ∷ ps) digest p found = found_step q p (bytes_eq q.digest digest) (q.id == p.id) (find (λ r. bytes_eq r.digest digest) ps)
    (find (λ r. r.id == p.id) ps) refl found (found_by_number ps digest p)

pub there_if_facts : (h : History) (day : ℕ) (caller : Party) (action : Action) (object : Object) (facts : Facts) →
    facts_on h day caller action object ≡ Some facts → IsTrue (is_there h object)
there_if_facts h day caller action object facts e = grind arith

-- an admitted command goes on with a history
kept : (h : History) (day caller : ℕ) (request : Request) → IsHistory h → IsTrue (is_party h caller) → last_day h ≤ day → IsTrue (is_command request) →
    IsTrue (is_there h (object_of request)) →
    (o : Option Reason) → reason_against h day caller request ≡ o → IsHistory (outcome_by_reason h (entry_of h day caller request) o).history
kept h day caller request is party in_time command there o e = grind arith

-- what is performed goes on with a history
if_allowed_keeps : (policy : Policy) (h : History) (day : ℕ) (caller : Party) (request : Request) → IsHistory h → IsTrue (is_party h caller.id) →
    last_day h ≤ day → IsTrue (is_there h (object_of request)) →
    IsHistory (outcome_if_allowed policy h day caller request).history
if_allowed_keeps policy h day caller (ReadParcel id) is party in_time there = is
if_allowed_keeps policy h day caller (ReadFile id) is party in_time there = is
if_allowed_keeps policy h day caller (ListFiles wanted) is party in_time there = is
if_allowed_keeps policy h day caller (Register kind) is party in_time there = is
if_allowed_keeps policy h day caller (AddParty name role token) is party in_time there =
    kept h day caller.id (AddParty name role token) is party in_time refl there (reason_against h day caller.id (AddParty name role token)) refl
if_allowed_keeps policy h day caller (AddParcel lot address owner) is party in_time there =
    kept h day caller.id (AddParcel lot address owner) is party in_time refl there (reason_against h day caller.id (AddParcel lot address owner)) refl
if_allowed_keeps policy h day caller (Transfer parcel to) is party in_time there =
    kept h day caller.id (Transfer parcel to) is party in_time refl there (reason_against h day caller.id (Transfer parcel to)) refl
if_allowed_keeps policy h day caller (Declare parcel) is party in_time there =
    kept h day caller.id (Declare parcel) is party in_time refl there (reason_against h day caller.id (Declare parcel)) refl
if_allowed_keeps policy h day caller (File parcel kind valuation description) is party in_time there =
    kept h day caller.id (File parcel kind valuation description) is party in_time refl there
    (reason_against h day caller.id (File parcel kind valuation description)) refl
if_allowed_keeps policy h day caller (OnFile file command) is party in_time there =
    kept h day caller.id (OnFile file command) is party in_time refl there (reason_against h day caller.id (OnFile file command)) refl

by_decision_keeps : (policy : Policy) (h : History) (day : ℕ) (caller : Party) (request : Request) → IsHistory h → IsTrue (is_party h caller.id) →
    last_day h ≤ day → IsTrue (is_there h (object_of request)) →
    (rule : List ℕ) (allowed : Bool) → IsHistory (if allowed then outcome_if_allowed policy h day caller request else refused h (refusal.Denied rule)).history
by_decision_keeps policy h day caller request is party in_time there rule allowed = grind (arith, if_allowed_keeps)

by_facts_keeps : (policy : Policy) (h : History) (day : ℕ) (caller : Party) (request : Request) → IsHistory h → IsTrue (is_party h caller.id) →
    last_day h ≤ day →
    (facts : Option Facts) → facts_of h day caller request ≡ facts → IsHistory (outcome_by_facts policy h day caller request facts).history
by_facts_keeps policy h day caller request is party in_time facts e = grind (arith, by_decision_keeps, there_if_facts)

by_request_keeps : (policy : Policy) (h : History) (day : ℕ) (caller : Party) (request : Request) → IsHistory h → IsTrue (is_party h caller.id) →
    last_day h ≤ day → IsHistory (outcome_by_request policy h day caller request).history
by_request_keeps policy h day caller (ListFiles wanted) is party in_time = is
by_request_keeps policy h day caller (Register kind) is party in_time = is
by_request_keeps policy h day caller request is party in_time = by_facts_keeps policy h day caller request is party in_time (facts_of h day caller request) refl

timed_keeps : (policy : Policy) (h : History) (day : ℕ) (caller : Party) (request : Request) → IsHistory h → IsTrue (is_party h caller.id) →
    (below : Bool) → nat_lt day (last_day h) ≡ below →
    IsHistory (if below then refused h refusal.Clock else outcome_by_request policy h day caller request).history
timed_keeps policy h day caller request is party below e = grind (arith, by_request_keeps, not_below)

-- a step of a party that is there goes from a history to a history
pub by_caller_keeps : (policy : Policy) (h : History) (day : ℕ) (request : Request) → IsHistory h → (caller : Option Party) →
    ((p : Party) → caller ≡ Some p → IsTrue (is_party h p.id)) →
    IsHistory (outcome_by_caller policy h day request caller).history
by_caller_keeps policy h day request is caller there = grind (arith, timed_keeps)

-- a step goes from a history to a history
pub step_keeps : (policy : Policy) (h : History) (digest : List ℕ) (request : Request) (day : ℕ) → IsHistory h →
    IsHistory (step_as policy h digest request day).history
step_keeps policy h digest request day is = by_caller_keeps policy h day request is (who h digest) (found_by_number (parties h) digest)

-- a run goes from a history to a history
pub run_keeps : (policy : Policy) (requests : List (Asked × ℕ)) (h : History) → IsHistory h → IsHistory (history_after policy requests h)
run_keeps policy [] h is = is
run_keeps policy (a ∷ rest) h is = run_keeps policy rest (step policy h a.0 a.1).history (step_keeps policy h (digest_of a.0.token) a.0.request a.1 is)

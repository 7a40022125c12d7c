-- A run goes on by one request.
use Rattle.std.proofs.Common.{◌≡◌, ℕ, ◌+◌, Bool, true, false, cond, not, List, [], ◌∷◌, ◌++◌, length, map, refl, sym, ◌∙◌, ap, subst, ⊎_elim, length-append, append-nil}
use Rattle.std.proofs.Common.{arith}
use Rattle.std.specs.Prelude.{filter, if◌then◌else◌}
use Rattle.permit_base.specs.declared.refusal.Refusal.TheVariants as refusal
use Rattle.permit_base.specs.declared.request.Asked.{Asked}
use Rattle.std.specs.Prelude.{Option, Some, None, nat_lt}
use Rattle.permit_base.specs.declared.refusal.Reason.{Reason}
use Rattle.permit_base.specs.declared.request.Request.{Request}
use Rattle.permit_base.specs.declared.request.Request.TheVariants.{AddParty, AddParcel, Transfer, Declare, ReadParcel, File, ReadFile, ListFiles, Register}
use Rattle.permit_base.specs.declared.request.Request.TheVariants.{OnFile}
use Rattle.permit_base.specs.Digests.{digest_of}
use Rattle.permit_model.specs.History.{History, Entry, last_day}
use Rattle.permit_model.specs.Caller.{Party, who}
use Rattle.permit_model.specs.Parcels.{Parcel, parcel_numbered}
use Rattle.permit_model.specs.Files.{CaseFile, case_numbered}
use Rattle.permit_model.specs.Facts.{Facts}
use Rattle.permit_model.specs.Admission.{reason_against}
use Rattle.permit_model.proofs.Histories.{run_keeps}
use Rattle.permit_model.specs.Policy.{Policy, decision, is_allow}
use Rattle.permit_model.specs.Tables.{Tables, tables}
use Rattle.permit_model.specs.Machine.{Reply, Refused, refused, shown_parcel, shown_file, outcome_by_reason, outcome_if_allowed, outcome_by_facts}
use Rattle.permit_model.specs.Machine.{outcome_by_request, outcome_by_caller, entry_of, facts_of, IsHistory, step, replies_to, history_after}
use Rattle.permit_office.specs.declared.reply.Reply.{Reply as Given}
use Rattle.permit_office.specs.declared.reply.Reply.TheVariants as given
use Rattle.permit_office.specs.Answers.{reply_of, is_store_refusal, Answers}
use Rattle.permit_office.specs.Opening.{rows_opened, Opens}
use Rattle.permit_office.specs.Runs.{answered, own_replies, Tells, AllTell, Ran}

one_more : {A : Type 0} (b : Bool) (x : A) (xs ys : List A) → (if b then xs ++ ys else x ∷ (xs ++ ys)) ≡ (if b then xs else x ∷ xs) ++ ys
one_more true x xs ys = refl
one_more false x xs ys = refl

answered_last : (requests : List (Asked × ℕ)) (replies : List Given) (request : Asked × ℕ) (reply : Given) → length replies ≡ length requests →
    answered (requests ++ request ∷ []) (replies ++ reply ∷ []) ≡ answered requests replies ++ (if is_store_refusal reply then [] else request ∷ [])
answered_last [] [] request reply e = refl
answered_last [] (r ∷ rs) request reply e = absurd (omega arith)
answered_last (q ∷ qs) [] request reply e = absurd (omega arith)
answered_last (q ∷ qs) (r ∷ rs) request reply e =
    ap (λ xs. if is_store_refusal r then xs else q ∷ xs) (answered_last qs rs request reply (omega arith))
    ∙ one_more (is_store_refusal r) q (answered qs rs) (if is_store_refusal reply then [] else request ∷ [])

replies_last : (policy : Policy) (xs : List (Asked × ℕ)) (x : Asked × ℕ) (h : History) →
    replies_to policy (xs ++ x ∷ []) h ≡ replies_to policy xs h ++ (step policy (history_after policy xs h) x.0 x.1).reply ∷ []
replies_last policy [] x h = refl
replies_last policy (y ∷ xs) x h = ap (λ rs. (step policy h y.0 y.1).reply ∷ rs) (replies_last policy xs x (step policy h y.0 y.1).history)

history_last : (policy : Policy) (xs : List (Asked × ℕ)) (x : Asked × ℕ) (h : History) →
    history_after policy (xs ++ x ∷ []) h ≡ (step policy (history_after policy xs h) x.0 x.1).history
history_last policy [] x h = refl
history_last policy (y ∷ xs) x h = history_last policy xs x (step policy h y.0 y.1).history

own_by : (b : Bool) (r : Given) (rs : List Given) (ys : List Reply) (more : List Given) →
    map reply_of (filter (λ x. not (is_store_refusal x)) more) ≡ own_replies rs ++ ys →
    map reply_of (cond (not b) (r ∷ filter (λ x. not (is_store_refusal x)) more) (filter (λ x. not (is_store_refusal x)) more))
    ≡ map reply_of (cond (not b) (r ∷ filter (λ x. not (is_store_refusal x)) rs) (filter (λ x. not (is_store_refusal x)) rs)) ++ ys
own_by true r rs ys more e = e
own_by false r rs ys more e = ap (λ zs. reply_of r ∷ zs) e

own_first : (b : Bool) (reply : Given) → map reply_of (cond (not b) (reply ∷ []) []) ≡ (if b then [] else reply_of reply ∷ [])
own_first true reply = refl
own_first false reply = refl

own_last : (replies : List Given) (reply : Given) → own_replies (replies ++ reply ∷ []) ≡ own_replies replies
    ++ (if is_store_refusal reply then [] else reply_of reply ∷ [])
own_last [] reply = own_first (is_store_refusal reply) reply
own_last (r ∷ rs) reply = own_by (is_store_refusal r) r rs (if is_store_refusal reply then [] else reply_of reply ∷ []) (rs ++ reply ∷ []) (own_last rs reply)

longer : {A B : Type 0} (xs : List A) (ys : List B) (x : A) (y : B) → length ys ≡ length xs → length (ys ++ y ∷ []) ≡ length (xs ++ x ∷ [])
longer xs ys x y e = length-append ys (y ∷ []) ∙ ap (λ n. n + 1) e ∙ sym (length-append xs (x ∷ []))

-- ---- the counts that listings report

later_by : (policy : Policy) (b : Bool) (request : Asked × ℕ) (done : List (Asked × ℕ)) (h : History) →
    history_after policy (if b then done else request ∷ done) h ≡ history_after policy done (if b then h else (step policy h request.0 request.1).history)
later_by policy true request done h = refl
later_by policy false request done h = refl

tell_last : (policy : Policy) (requests : List (Asked × ℕ)) (replies : List Given) (h : History) (request : Asked × ℕ) (reply : Given) →
    length replies ≡ length requests → AllTell policy requests replies h →
    Tells (rows_opened policy (history_after policy (answered requests replies) h) (digest_of request.0.token) request.0.request request.1) reply →
    AllTell policy (requests ++ request ∷ []) (replies ++ reply ∷ []) h
tell_last policy [] [] h request reply e all one = (one, tt)
tell_last policy [] (r ∷ rs) h request reply e all one = absurd (omega arith)
tell_last policy (q ∷ qs) [] h request reply e all one = absurd (omega arith)
tell_last policy (q ∷ qs) (r ∷ rs) h request reply e all one = (
  all.0,
  tell_last policy qs rs (if is_store_refusal r then h else (step policy h q.0 q.1).history) request reply (omega arith) all.1
      (subst (λ now. Tells (rows_opened policy now (digest_of request.0.token) request.0.request request.1) reply)
      (later_by policy (is_store_refusal r) q (answered qs rs) h) one),
)

pub tells : (rows : Option ℕ) (reply : Given) (old new : ℕ) → Opens rows reply old new → Tells rows reply
tells None reply old new opened = tt
tells (Some n) (given.Listed l) old new opened = opened.told
tells (Some n) (given.Register k l) old new opened = opened.told
tells (Some n) (given.Done number) old new opened = tt
tells (Some n) (given.Parcel p) old new opened = tt
tells (Some n) (given.File f ps) old new opened = tt
tells (Some n) (given.Refused why) old new opened = tt

-- a request that the store refused
skips : (holds after : Tables → Type 0) (policy : Policy) (requests : List (Asked × ℕ)) (replies : List Given) (h : History) (request : Asked × ℕ)
    (reply : Given) → Ran holds policy requests replies h →
    Tells (rows_opened policy (history_after policy (answered requests replies) h) (digest_of request.0.token) request.0.request request.1) reply →
    is_store_refusal reply ≡ true → after (tables (history_after policy (answered requests replies) h)) →
    Ran after policy (requests ++ request ∷ []) (replies ++ reply ∷ []) h
skips holds after policy requests replies h request reply ran one e held =
    let same : answered (requests ++ request ∷ []) (replies ++ reply ∷ []) ≡ answered requests replies =
    answered_last requests replies request reply ran.each ∙ ap (λ (b : Bool). answered requests replies ++ (if b then [] else request ∷ [])) e
    ∙ append-nil (answered requests replies) in
    record {
      each = longer requests replies request reply ran.each;
      told = own_last replies reply ∙ ap (λ (b : Bool). own_replies replies ++ (if b then [] else reply_of reply ∷ [])) e ∙ append-nil (own_replies replies)
          ∙ ran.told ∙ ap (λ xs. replies_to policy xs h) (sym same);
      read = tell_last policy requests replies h request reply ran.each ran.read one;
      held = subst (λ xs. after (tables (history_after policy xs h))) (sym same) held;
    }

-- a request that the machine answered
goes_on : (holds after : Tables → Type 0) (policy : Policy) (requests : List (Asked × ℕ)) (replies : List Given) (h : History) (request : Asked × ℕ)
    (reply : Given) → Ran holds policy requests replies h →
    Tells (rows_opened policy (history_after policy (answered requests replies) h) (digest_of request.0.token) request.0.request request.1) reply →
    is_store_refusal reply ≡ false → reply_of reply ≡ (step policy (history_after policy (answered requests replies) h) request.0 request.1).reply →
    after (tables (step policy (history_after policy (answered requests replies) h) request.0 request.1).history) →
    Ran after policy (requests ++ request ∷ []) (replies ++ reply ∷ []) h
goes_on holds after policy requests replies h request reply ran one e told held =
    let done = answered requests replies in
    let same : answered (requests ++ request ∷ []) (replies ++ reply ∷ []) ≡ done ++ request ∷ [] =
    answered_last requests replies request reply ran.each ∙ ap (λ (b : Bool). done ++ (if b then [] else request ∷ [])) e in
    record {
      each = longer requests replies request reply ran.each;
      told = own_last replies reply ∙ ap (λ (b : Bool). own_replies replies ++ (if b then [] else reply_of reply ∷ [])) e
          ∙ ap (λ xs. xs ++ reply_of reply ∷ []) ran.told ∙ ap (λ r. replies_to policy done h ++ r ∷ []) told
          ∙ sym (replies_last policy done request h) ∙ ap (λ xs. replies_to policy xs h) (sym same);
      read = tell_last policy requests replies h request reply ran.each ran.read one;
      held = subst (λ xs. after (tables (history_after policy xs h))) (sym same)
          (subst (λ x. after (tables x)) (sym (history_last policy done request h)) held);
    }

-- ---- the machine never answers the store's refusal

abbrev is_store : Reply → Bool
is_store (Refused refusal.Store) = true
is_store _ = false

parcel_own : (o : Option Parcel) → is_store (shown_parcel o) ≡ false
parcel_own None = refl
parcel_own (Some p) = refl

file_own : (h : History) (day : ℕ) (o : Option CaseFile) → is_store (shown_file h day o) ≡ false
file_own h day None = refl
file_own h day (Some p) = refl

by_reason_own : (h : History) (entry : Entry) (o : Option Reason) → is_store (outcome_by_reason h entry o).reply ≡ false
by_reason_own h entry None = refl
by_reason_own h entry (Some why) = refl

if_allowed_own : (policy : Policy) (h : History) (day : ℕ) (caller : Party) (request : Request) →
    is_store (outcome_if_allowed policy h day caller request).reply ≡ false
if_allowed_own policy h day caller (ReadParcel id) = parcel_own (parcel_numbered h id)
if_allowed_own policy h day caller (ReadFile id) = file_own h day (case_numbered h id)
if_allowed_own policy h day caller (ListFiles wanted) = refl
if_allowed_own policy h day caller (Register kind) = refl
if_allowed_own policy h day caller (AddParty name role token) = by_reason_own h (entry_of h day caller.id (AddParty name role token))
    (reason_against h day caller.id (AddParty name role token))
if_allowed_own policy h day caller (AddParcel lot address owner) = by_reason_own h (entry_of h day caller.id (AddParcel lot address owner))
    (reason_against h day caller.id (AddParcel lot address owner))
if_allowed_own policy h day caller (Transfer parcel to) = by_reason_own h (entry_of h day caller.id (Transfer parcel to))
    (reason_against h day caller.id (Transfer parcel to))
if_allowed_own policy h day caller (Declare parcel) = by_reason_own h (entry_of h day caller.id (Declare parcel))
    (reason_against h day caller.id (Declare parcel))
if_allowed_own policy h day caller (File parcel kind valuation description) =
    by_reason_own h (entry_of h day caller.id (File parcel kind valuation description))
    (reason_against h day caller.id (File parcel kind valuation description))
if_allowed_own policy h day caller (OnFile file command) = by_reason_own h (entry_of h day caller.id (OnFile file command))
    (reason_against h day caller.id (OnFile file command))

by_decision_own : (policy : Policy) (h : History) (day : ℕ) (caller : Party) (request : Request) (rule : List ℕ) (b : Bool) →
    is_store (if b then outcome_if_allowed policy h day caller request else refused h (refusal.Denied rule)).reply ≡ false
by_decision_own policy h day caller request rule true = if_allowed_own policy h day caller request
by_decision_own policy h day caller request rule false = refl

by_facts_own : (policy : Policy) (h : History) (day : ℕ) (caller : Party) (request : Request) (o : Option Facts) →
    is_store (outcome_by_facts policy h day caller request o).reply ≡ false
by_facts_own policy h day caller request None = refl
by_facts_own policy h day caller request (Some facts) = by_decision_own policy h day caller request (decision policy facts).rule
    (is_allow (decision policy facts).effect)

by_request_own : (policy : Policy) (h : History) (day : ℕ) (caller : Party) (request : Request) →
    is_store (outcome_by_request policy h day caller request).reply ≡ false
by_request_own policy h day caller (ListFiles wanted) = refl
by_request_own policy h day caller (Register kind) = refl
by_request_own policy h day caller request = by_facts_own policy h day caller request (facts_of h day caller request)

timed_own : (policy : Policy) (h : History) (day : ℕ) (caller : Party) (request : Request) (b : Bool) →
    is_store (if b then refused h refusal.Clock else outcome_by_request policy h day caller request).reply ≡ false
timed_own policy h day caller request true = refl
timed_own policy h day caller request false = by_request_own policy h day caller request

by_caller_own : (policy : Policy) (h : History) (day : ℕ) (request : Request) (o : Option Party) →
    is_store (outcome_by_caller policy h day request o).reply ≡ false
by_caller_own policy h day request None = refl
by_caller_own policy h day request (Some caller) = timed_own policy h day caller request (nat_lt day (last_day h))

never_store : (policy : Policy) (h : History) (request : Asked × ℕ) → is_store (step policy h request.0 request.1).reply ≡ false
never_store policy h request = by_caller_own policy h request.1 request.0.request (who h (digest_of request.0.token))

same_refusal : (reply : Given) → is_store_refusal reply ≡ is_store (reply_of reply)
same_refusal (given.Refused refusal.Store) = refl
same_refusal (given.Refused refusal.Syntax) = refl
same_refusal (given.Refused refusal.Caller) = refl
same_refusal (given.Refused refusal.Clock) = refl
same_refusal (given.Refused refusal.Record) = refl
same_refusal (given.Refused (refusal.Denied name)) = refl
same_refusal (given.Refused (refusal.NotAdmitted why)) = refl
same_refusal (given.Done number) = refl
same_refusal (given.Parcel p) = refl
same_refusal (given.File f ps) = refl
same_refusal (given.Listed l) = refl
same_refusal (given.Register k l) = refl

-- a run goes on by what the step answers
pub ran_more : (holds after : Tables → Type 0) (policy : Policy) (requests : List (Asked × ℕ)) (replies : List Given) (h : History) (request : Asked × ℕ)
    (reply : Given) → IsHistory h → Ran holds policy requests replies h →
    ((now : History) → IsHistory now → holds (tables now) → Answers after reply (step policy now request.0 request.1) now) →
    ((now : History) → IsHistory now → holds (tables now) → Tells (rows_opened policy now (digest_of request.0.token) request.0.request request.1) reply) →
    Ran after policy (requests ++ request ∷ []) (replies ++ reply ∷ []) h
ran_more holds after policy requests replies h request reply is ran answers told =
    let now : History = history_after policy (answered requests replies) h in
    let one = told now (run_keeps policy (answered requests replies) h is) ran.held in
    ⊎_elim
    (λ (a : (reply_of reply ≡ (step policy now request.0 request.1).reply) × after (tables (step policy now request.0 request.1).history)).
    goes_on holds after policy requests replies h request reply ran one (same_refusal reply ∙ ap is_store a.0 ∙ never_store policy now request) a.0 a.1)
    (λ (a : (reply ≡ given.Refused refusal.Store) × after (tables now)). skips holds after policy requests replies h request reply ran one
    (ap is_store_refusal a.0) a.1)
    (answers now (run_keeps policy (answered requests replies) h is) ran.held)

-- nothing was run yet
pub ran_none : (holds : Tables → Type 0) (policy : Policy) (h : History) → holds (tables h) → Ran holds policy [] [] h
ran_none holds policy h held = record { each = refl; told = refl; read = tt; held = held }

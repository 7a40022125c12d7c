-- A known caller in time is served.
use Rattle.std.proofs.Common.{◌≡◌, ◌≤◌, ℕ, Bool, true, false, List, refl, ◌≢◌, sym, ◌∙◌, ap, subst, arith, inl, [], ◌∷◌, ◌++◌, not}
use Rattle.std.specs.Prelude.{Option, None, Some, option_and_then, Result, IfOk, if◌then◌else◌, IsTrue, Ok, Err}
use Rattle.permit_store.specs.declared.store.StoreError.{StoreError}
use Rattle.std.proofs.lemmas.Bool.{le-ltb}
use Rattle.permit_base.specs.declared.refusal.Refusal.{Refusal}
use Rattle.permit_base.specs.declared.refusal.Refusal.TheVariants as refusal
use Rattle.permit_base.specs.Digests.{digest_of}
use Rattle.permit_base.specs.declared.request.Asked.{Asked}
use Rattle.permit_base.specs.declared.request.Request.{Request}
use Rattle.permit_model.specs.History.{History, last_day}
use Rattle.permit_model.specs.Caller.{Party, parties, who, is_party}
use Rattle.permit_model.specs.Policy.{Policy}
use Rattle.permit_model.specs.Tables.{Tables, tables}
use Rattle.permit_store.specs.Changes.{changed}
use Rattle.permit_model.specs.Machine.{IsHistory, outcome_by_caller, outcome_by_request, refused, step_as}
use Rattle.permit_store.specs.Counts.{next_count}
use Rattle.permit_store.specs.Frames.{StoreView, HasOneDesk}
use Rattle.permit_office.specs.declared.reply.Reply.{Reply as Given}
use Rattle.permit_office.specs.declared.reply.Reply.TheVariants as given
use Rattle.permit_office.specs.declared.decision.Decision.{Decision}
use Rattle.permit_office.specs.declared.log.Log.{Ghosts}
use Rattle.permit_office.specs.Decisions.{reply_for}
use Rattle.permit_office.specs.Office.{OfficeView}
use Rattle.permit_office.specs.Answers.{CommittedBy, commits_after, IsOwn, failed_by, is_store_refusal}
use Rattle.permit_office.specs.Reach.{Reach, NoRow, OneRow, ManyRows, reach_of, is_many, HandedBy, HandedIn, FailedBy, FailedIn}
use Rattle.permit_office.specs.Opening.{opened_for, rows_opened, Opens}
use Rattle.permit_office.specs.Frames.{IsAttempt, IsStep, Steps, UnlessDone}
use Rattle.permit_office.specs.Logged.{FailedWith, Logged}
use Rattle.permit_office.specs.Sound.{KeepsSound, IsSoundChange, MakesOne}
use Rattle.permit_model.proofs.Histories.{found_by_number}

pub stepped : (policy : Policy) (h : History) (digest : List ℕ) (request : Request) (day : ℕ) (caller : Party) → Some caller ≡ who h digest → last_day h ≤ day →
    step_as policy h digest request day ≡ outcome_by_request policy h day caller request
stepped policy h digest request day caller found time =
    ap (outcome_by_caller policy h day request) (sym found)
    ∙ ap (λ (b : Bool). if b then refused h refusal.Clock else outcome_by_request policy h day caller request) (le-ltb day (last_day h) time)

pub caller_there : (h : History) (digest : List ℕ) (caller : Party) → Some caller ≡ who h digest → IsTrue (is_party h caller.id)
caller_there h digest caller found = found_by_number (parties h) digest caller (sym found)

-- a count that goes on isn't the count before
next_differs : (n : ℕ) → next_count n ≢ n
next_differs n e = omega arith

pub committed_by : (reply : Given) (old new : ℕ) → new ≡ commits_after reply old → CommittedBy reply old new
committed_by (given.Refused refusal.Store) old new e = inl e
committed_by (given.Refused refusal.Syntax) old new e = e
committed_by (given.Refused refusal.Caller) old new e = e
committed_by (given.Refused refusal.Clock) old new e = e
committed_by (given.Refused refusal.Record) old new e = e
committed_by (given.Refused (refusal.Denied name)) old new e = e
committed_by (given.Refused (refusal.NotAdmitted why)) old new e = e
committed_by (given.Done number) old new e = e
committed_by (given.Parcel p) old new e = e
committed_by (given.File f ps) old new e = e
committed_by (given.Listed l) old new e = e
committed_by (given.Register k l) old new e = e

pub handed_ok : (r : Reach) (reply : Given) (old new : ℕ) → HandedIn r (Ok reply) old new → HandedBy r reply old new
handed_ok NoRow reply old new e = e
handed_ok OneRow reply old new e = e
handed_ok ManyRows reply old new e = e

pub handed_err : (r : Reach) (e : StoreError) (old new : ℕ) → HandedIn r (Err e) old new → HandedBy r (given.Refused refusal.Store) old new
handed_err NoRow e old new same = same
handed_err OneRow e old new either = either
handed_err ManyRows e old new any = tt

counts_by : (b : Bool) (old new : ℕ) → new ≡ old → not b ≡ true → new ≡ (if b then next_count old else old)
counts_by true old new e own = cc
counts_by false old new e own = e

-- a reply of the office's own comes where no call failed
own_counts : (reply : Given) (old new : ℕ) → new ≡ old → IsOwn reply → new ≡ failed_by reply old
own_counts reply old new e own = counts_by (is_store_refusal reply) old new e own

pub clash : (b : Bool) → b ≡ true → not b ≡ true → ⊥
clash true e f = cc
clash false e f = cc

-- no call failed where a reply was given
none_failed : (r : Reach) (reply : Given) (old new : ℕ) → FailedIn r (Ok reply) old new → new ≡ old
none_failed NoRow reply old new e = e
none_failed OneRow reply old new e = e
none_failed ManyRows reply old new e = e

listing_counts : (reply : Given) (old new : ℕ) → new ≡ old → FailedBy ManyRows reply old new
listing_counts (given.Refused refusal.Store) old new e = inl e
listing_counts (given.Refused refusal.Syntax) old new e = e
listing_counts (given.Refused refusal.Caller) old new e = e
listing_counts (given.Refused refusal.Clock) old new e = e
listing_counts (given.Refused refusal.Record) old new e = e
listing_counts (given.Refused (refusal.Denied name)) old new e = e
listing_counts (given.Refused (refusal.NotAdmitted why)) old new e = e
listing_counts (given.Done number) old new e = e
listing_counts (given.Parcel p) old new e = e
listing_counts (given.File f ps) old new e = e
listing_counts (given.Listed l) old new e = e
listing_counts (given.Register k l) old new e = e

failed_ok : (r : Reach) (reply : Given) (old new : ℕ) → IsOwn reply → new ≡ old → FailedBy r reply old new
failed_ok NoRow reply old new own e = own_counts reply old new e own
failed_ok OneRow reply old new own e = own_counts reply old new e own
failed_ok ManyRows reply old new own e = listing_counts reply old new e

failed_err : (r : Reach) (e : StoreError) (old new : ℕ) → FailedIn r (Err e) old new → FailedBy r (given.Refused refusal.Store) old new
failed_err NoRow e old new counted = counted
failed_err OneRow e old new counted = counted
failed_err ManyRows e old new either = either

one_failed : (r : Reach) (e : StoreError) (old new : ℕ) → IsTrue (not (is_many r)) → FailedIn r (Err e) old new → new ≡ next_count old
one_failed NoRow e old new few counted = counted
one_failed OneRow e old new few counted = counted
one_failed ManyRows e old new few either = cc

-- a refusal opens nothing
pub opens_refused : (rows : Option ℕ) (why : Refusal) (old new : ℕ) → Opens rows (given.Refused why) old new
opens_refused None why old new = tt
opens_refused (Some n) why old new = tt

-- the rows that the known caller's request opens
pub opened_known : (policy : Policy) (h : History) (digest : List ℕ) (asked : Request) (day : ℕ) (caller : Party) → Some caller ≡ who h digest →
    (result : Result Decision StoreError) (mid old new : ℕ) → mid ≡ old →
    IfOk result (λ d. Opens (opened_for policy h day caller asked) (reply_for d) mid new) →
    IfOk result (λ d. Opens (rows_opened policy h digest asked day) (reply_for d) old new)
opened_known policy h digest asked day caller found result mid old new same opened =
    subst (λ n. IfOk result (λ d. Opens (rows_opened policy h digest asked day) (reply_for d) n new)) same
    (subst (λ rows. IfOk result (λ d. Opens rows (reply_for d) mid new)) (ap (option_and_then (λ (p : Party). opened_for policy h day p asked)) found) opened)

-- without a log these are the counts
failed_with : {S L : Type 0} (view : S → StoreView) (log : Ghosts L) (digest : List ℕ) (asked : Request) (day : ℕ) (old new : OfficeView S L) (reply : Given) →
    FailedBy (reach_of asked) reply (view old.store).failed (view new.store).failed → FailedWith view log digest asked day old new reply
failed_with view log digest asked day old new (given.Refused refusal.Store) e = inl e
failed_with view log digest asked day old new (given.Refused refusal.Syntax) e = e
failed_with view log digest asked day old new (given.Refused refusal.Caller) e = e
failed_with view log digest asked day old new (given.Refused refusal.Clock) e = e
failed_with view log digest asked day old new (given.Refused refusal.Record) e = e
failed_with view log digest asked day old new (given.Refused (refusal.Denied name)) e = e
failed_with view log digest asked day old new (given.Refused (refusal.NotAdmitted why)) e = e
failed_with view log digest asked day old new (given.Done number) e = e
failed_with view log digest asked day old new (given.Parcel p) e = e
failed_with view log digest asked day old new (given.File f ps) e = e
failed_with view log digest asked day old new (given.Listed l) e = e
failed_with view log digest asked day old new (given.Register k l) e = e

-- a log that takes commands isn't one that takes none
pub opposite : (b : Bool) → b ≡ true → b ≡ false → ⊥
opposite b is other = let clashes : true ≡ false = sym is ∙ other in cc

-- an attempt that gives a reply of the office's own is a step
pub stepped_ok : {S L : Type 0} (view : S → StoreView) (log : Ghosts L) (digest : List ℕ) (asked : Request) (day : ℕ) (old new : OfficeView S L)
    (reply : Given) → new.policy ≡ old.policy → log.is_open old.log ≡ true →
    IsAttempt (reach_of asked) (view old.store) (view new.store) (Ok reply) → ((view new.store).doubt ≡ 0 → HasOneDesk (view new.store)) → IsOwn reply →
    ((view new.store).doubt ≡ 0 → (h : History) → IsHistory h → (view old.store).holds (tables h) →
    Opens (rows_opened old.policy h digest asked day) reply (view old.store).handed (view new.store).handed) →
    MakesOne (view old.store) (view new.store) day reply → Logged view log digest asked day old new reply → IsStep view log digest asked day old new reply
stepped_ok view log digest asked day old new reply same ready attempt one own opened made logged =
    let none : (view new.store).failed ≡ (view old.store).failed = none_failed (reach_of asked) reply _ _ attempt.failed in
    record {
      policy = same;
      kept = attempt.kept;
      made = made;
      one = λ sure _. one sure;
      doubt = attempt.doubt;
      failed = λ _. (λ refused. absurd (clash (is_store_refusal reply) refused own), λ differs. absurd (differs none));
      failures = failed_with view log digest asked day old new reply (failed_ok (reach_of asked) reply _ _ own none);
      commits = committed_by reply _ _ attempt.commits;
      handed = handed_ok (reach_of asked) reply _ _ attempt.handed;
      opened = opened;
      logged = logged;
      shut = λ closed. absurd (opposite (log.is_open old.log) ready closed);
    }

-- an attempt that failed is a step with the store's refusal
pub stepped_err : {S L : Type 0} (view : S → StoreView) (log : Ghosts L) (digest : List ℕ) (asked : Request) (day : ℕ) (old new : OfficeView S L)
    (e : StoreError) → new.policy ≡ old.policy → log.is_open old.log ≡ true → new.log ≡ old.log →
    IsAttempt (reach_of asked) (view old.store) (view new.store) (Err e) → IsStep view log digest asked day old new (given.Refused refusal.Store)
stepped_err view log digest asked day old new e same ready unlogged attempt = record {
  policy = same;
  kept = attempt.kept;
  made = λ sure t held sound. tt;
  one = λ sure own. absurd (clash true refl own);
  doubt = attempt.doubt;
  failed = λ few. (
    λ refused. inl (λ same. next_differs (view old.store).failed (sym (one_failed (reach_of asked) e _ _ few attempt.failed) ∙ same)),
    λ differs. refl,
  );
  failures = inl (failed_err (reach_of asked) e _ _ attempt.failed);
  commits = attempt.commits;
  handed = handed_err (reach_of asked) e _ _ attempt.handed;
  opened = λ sure h is held. opens_refused (rows_opened old.policy h digest asked day) refusal.Store _ _;
  logged = inl unlogged;
  shut = λ closed. absurd (opposite (log.is_open old.log) ready closed);
}

-- ---- sound tables

keeps_by : (old new : StoreView) (day : ℕ) (reply : Given) → ((t : Tables) → old.holds t → UnlessDone reply (new.holds t)) → MakesOne old new day reply →
    KeepsSound old new
keeps_by old new day (given.Done number) kept made = λ sure t held sound.
    let w : IsSoundChange new.holds day t = made sure t held sound in (changed t w.change day, w.held, w.sound)
keeps_by old new day (given.Parcel p) kept made = λ sure t held sound. (t, kept t held, sound)
keeps_by old new day (given.File f ps) kept made = λ sure t held sound. (t, kept t held, sound)
keeps_by old new day (given.Listed l) kept made = λ sure t held sound. (t, kept t held, sound)
keeps_by old new day (given.Register k l) kept made = λ sure t held sound. (t, kept t held, sound)
keeps_by old new day (given.Refused why) kept made = λ sure t held sound. (t, kept t held, sound)

-- a step keeps sound tables sound
pub keeps_step : {S L : Type 0} (view : S → StoreView) (log : Ghosts L) (digest : List ℕ) (asked : Request) (day : ℕ) (old new : OfficeView S L)
    (reply : Given) → IsStep view log digest asked day old new reply → KeepsSound (view old.store) (view new.store)
keeps_step view log digest asked day old new reply step = keeps_by (view old.store) (view new.store) day reply step.kept step.made

pub keeps_none : (s : StoreView) → KeepsSound s s
keeps_none s = λ sure t held sound. (t, held, sound)

-- so does a step more
pub keeps_more : (old between new : StoreView) → between.doubt ≤ new.doubt → KeepsSound old between → KeepsSound between new → KeepsSound old new
keeps_more old between new doubt first last = λ sure t held sound.
    let none : between.doubt ≡ 0 = omega (arith, doubt, sure) in
    let w = first none t held sound in last sure w.0 w.1 w.2

-- ---- a run

-- one step more
pub steps_last : {S L : Type 0} (view : S → StoreView) (log : Ghosts L) (requests : List (Asked × ℕ)) (replies : List Given) (request : Asked × ℕ) (reply : Given)
    (old between new : OfficeView S L) → Steps view log requests replies old between →
    IsStep view log (digest_of request.0.token) request.0.request request.1 between new reply →
    Steps view log (requests ++ request ∷ []) (replies ++ reply ∷ []) old new
steps_last view log [] [] request reply old between new ran step = (
  new,
  subst
      (λ o. IsStep view log (digest_of request.0.token) request.0.request request.1 o new reply) ran step,
  refl,
)
steps_last view log [] (r ∷ replies) request reply old between new ran step = absurd ran
steps_last view log (q ∷ requests) [] request reply old between new ran step = absurd ran
steps_last view log (q ∷ requests) (r ∷ replies) request reply old between new ran step =
    (ran.0, ran.1, steps_last view log requests replies request reply ran.0 between new ran.2 step)

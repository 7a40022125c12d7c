-- What an attempt with a log leaves.
use Rattle.std.proofs.Common.{◌≡◌, ◌≤◌, ◌≢◌, ◌⊎◌, ℕ, true, false, List, refl, sym, ap, ◌∙◌, subst, inl, inr, arith}
use Rattle.std.specs.Prelude.{Option, Result, Ok, Err, IfOk}
use Rattle.permit_base.specs.declared.refusal.Refusal.TheVariants as refusal
use Rattle.permit_base.specs.declared.request.Request.{Request}
use Rattle.permit_model.specs.Machine.{step_as}
use Rattle.permit_model.specs.Policy.{Policy}
use Rattle.permit_model.specs.Sound.{IsSoundTables}
use Rattle.permit_model.specs.Tables.{Tables}
use Rattle.permit_store.specs.Counts.{next_count}
use Rattle.permit_store.specs.Frames.{StoreView, HasOneDesk, OverHistory, OverTables}
use Rattle.permit_store.specs.declared.change.Change.{Change}
use Rattle.permit_store.specs.declared.store.StoreError.{StoreError}
use Rattle.permit_office.specs.declared.decision.Decision.{Decision}
use Rattle.permit_office.specs.declared.decision.Decision.TheVariants as decision
use Rattle.permit_office.specs.declared.log.Log.{Ghosts}
use Rattle.permit_office.specs.declared.reply.Reply.{Reply as Given}
use Rattle.permit_office.specs.declared.reply.Reply.TheVariants as given
use Rattle.permit_office.specs.Answers.{IsOwn}
use Rattle.permit_office.specs.Callers.{number_of}
use Rattle.permit_office.specs.Decisions.{reply_for, Decides, IsCarriedOut, IsDeciding, IsOf, IsProper, IsUndone as NotDone, LeavesSound}
use Rattle.permit_office.specs.Entering.{IsCarriedOutWith, IsUndone}
use Rattle.permit_office.specs.Frames.{IsAttempt, IsStep}
use Rattle.permit_office.specs.Logged.{IsDoneFor, Logged, WasWithdrawn, replied}
use Rattle.permit_office.specs.Logs.{note, IsStill}
use Rattle.permit_office.specs.Office.{OfficeView, office_of}
use Rattle.permit_office.specs.Opening.{Opens, rows_opened}
use Rattle.permit_office.specs.Reach.{Reach, NoRow, OneRow, ManyRows, reach_of, HandedBy, HandedIn}
use Rattle.permit_office.specs.Sound.{IsSoundChange, OnMade}
use Rattle.permit_office.proofs.Carrying.{attempted, failed_done, handed_more, one_desk, opened_on, own_reply}
use Rattle.permit_office.proofs.Stepping.{clash, handed_err, opens_refused, opposite, stepped_err, stepped_ok}

-- ---- the log

-- a reply that isn't that to a command which is done leaves the log
same_log : {S L : Type 0} (view : S → StoreView) (log : Ghosts L) (digest : List ℕ) (asked : Request) (day : ℕ) (old new : OfficeView S L) (reply : Given)
    → NotDone reply → new.log ≡ old.log → Logged view log digest asked day old new reply
same_log view log digest asked day old new (given.Done number) undone same = absurd undone
same_log view log digest asked day old new (given.Parcel p) undone same = same
same_log view log digest asked day old new (given.File f ps) undone same = same
same_log view log digest asked day old new (given.Listed l) undone same = same
same_log view log digest asked day old new (given.Register k l) undone same = same
same_log view log digest asked day old new (given.Refused refusal.Syntax) undone same = same
same_log view log digest asked day old new (given.Refused refusal.Caller) undone same = same
same_log view log digest asked day old new (given.Refused refusal.Clock) undone same = same
same_log view log digest asked day old new (given.Refused refusal.Record) undone same = same
same_log view log digest asked day old new (given.Refused refusal.Store) undone same = inl same
same_log view log digest asked day old new (given.Refused (refusal.Denied name)) undone same = same
same_log view log digest asked day old new (given.Refused (refusal.NotAdmitted why)) undone same = same

not_own : (said : Type 0) → IsOwn (given.Refused refusal.Store) → said
not_own said own = absurd (clash true refl own)

-- ---- the counts

handed_none : (r : Reach) (n : ℕ) → HandedBy r (given.Refused refusal.Store) n n
handed_none NoRow n = refl
handed_none OneRow n = inl refl
handed_none ManyRows n = tt

-- a call that failed counts, whatever is called afterwards to withdraw
differs_by : (old between new : ℕ) → between ≡ next_count old → (new ≡ between) ⊎ (new ≡ next_count between) → new ≢ old
differs_by old between new first (inl same) e = omega (arith, first, same, e)
differs_by old between new first (inr more) e = omega (arith, first, more, e)

module _ {S L : Type 0} (view : S → StoreView) (log : Ghosts L) (policy : Policy) (digest : List ℕ) (asked : Request) (day : ℕ) where
  -- ---- what was decided

  -- what is known of a decision, on the store before it and the one after it
  pub record Decided (d : Decision) (caller : ℕ) (old mid : S) : Type 0 where
    pub proper : IsProper caller d
    pub deciding : IsDeciding (reach_of asked) (view old) (view mid) (Ok (reply_for d))
    pub one : (view mid).doubt ≡ 0 → HasOneDesk (view mid)
    pub model : OverHistory (view old) (view mid) (λ h. Decides day d (step_as policy h digest asked day) h)
    pub of : OverHistory (view old) (view mid) (λ h. IsOf (number_of h digest) d)
    pub opened : OverHistory (view old) (view mid) (λ h. Opens (rows_opened policy h digest asked day) (reply_for d) (view old).handed (view mid).handed)
    pub sound : OverTables (view old) (view mid) (λ t. IsSoundTables t → LeavesSound day t d)

  abbrev Step : S → S → L → L → Given → Type 0
  Step old new before after reply = IsStep view log digest asked day (office_of old policy before) (office_of new policy after) reply

  -- the step of an admitted change, which is by this caller
  done_for : (by : ℕ) (number : Option ℕ) (change : Change) (caller : ℕ) (old mid new : S) → Decided (decision.Admitted by number change) caller old mid
      → (view mid).doubt ≤ (view new).doubt → OverHistory (view old) (view new) (λ h. IsDoneFor policy h digest asked day by number)
  done_for by number change caller old mid new known less = λ sure h is held.
      let late : (view mid).doubt ≡ 0 = omega (arith, less, sure) in (known.of late h is held, sym ((known.model late h is held).0))

  -- ---- a step with a reply of the office's own

  replied_step : (d : Decision) (caller : ℕ) (old mid new : S) (before after : L) (reply : Given) → log.is_open before ≡ true → Decided d caller old mid
      → IsCarriedOut d (view mid) (view new) (Ok reply) → (view mid).doubt ≤ (view new).doubt
      → ((t : Tables) → (view mid).holds t → LeavesSound day t d → (by : ℕ) → IsProper by d → OnMade (Ok reply) (IsSoundChange (view new).holds day t))
      → Logged view log digest asked day (office_of old policy before) (office_of new policy after) reply → Step old new before after reply
  replied_step d caller old mid new before after reply ready known carried less sound logged =
      stepped_ok view log digest asked day (office_of old policy before) (office_of new policy after) reply refl ready
      (attempted (reach_of asked) d (view old) (view mid) (view new) (Ok reply) caller known.proper known.deciding carried)
      (λ sure. one_desk d (view mid) (view new) (Ok reply) carried known.one sure)
      (own_reply d (view mid) (view new) (Ok reply) caller known.proper carried)
      (λ sure h is held. opened_on (rows_opened policy h digest asked day) (view old).handed d (view mid) (view new) (Ok reply) carried
      (known.opened (omega (arith, less, sure)) h is held))
      (λ sure t held fine. sound t (known.deciding.kept t held) (known.sound (omega (arith, less, sure)) t held fine) caller known.proper) logged

  -- ---- a step whose command isn't done after all

  not_entered : (by : ℕ) (number : Option ℕ) (change : Change) (caller : ℕ) (old mid new : S) (before after : L) (e : StoreError) →
      log.is_open before ≡ true → Decided (decision.Admitted by number change) caller old mid → IsStill (view mid) (view new)
      → log.refused before (note by asked number day) after → Step old new before after (given.Refused refusal.Store)
  not_entered by number change caller old mid new before after e ready known still refused =
      let less : (view mid).doubt ≤ (view new).doubt = omega (arith, still.doubt) in
      let failed : (view new).failed ≡ (view old).failed =
      still.failed ∙ failed_done (reach_of asked) number (view old).failed (view mid).failed known.deciding.failed in
      let commits : (view new).commits ≡ (view old).commits = still.commits ∙ known.deciding.commits in
      record {
        policy = refl;
        kept = λ t held. still.kept t (known.deciding.kept t held);
        made = λ sure t held sound. tt;
        one = λ sure own. not_own _ own;
        doubt = omega (arith, known.deciding.doubt, less);
        failed = λ few. (λ store. inr (inr (note by asked number day, refused)), λ differs. refl);
        failures = inr (inl (inr (note by asked number day, refused), failed));
        commits = inl commits;
        handed = handed_err (reach_of asked) e (view old).handed (view new).handed
            (handed_more (reach_of asked) number e (view old).handed (view new).handed
            (subst (HandedIn (reach_of asked) (Ok (given.Done number)) (view old).handed) (sym still.handed) known.deciding.handed));
        opened = λ sure h is held. opens_refused (rows_opened policy h digest asked day) refusal.Store _ _;
        logged = inr (inl (record {
          caller = by;
          number = number;
          is = done_for by number change caller old mid new known less;
          refused = refused;
          one = λ sure. still.one (known.one (omega (arith, less, sure)));
          failed = failed;
          commits = commits;
        }));
        shut = λ closed. absurd (opposite (log.is_open before) ready closed);
      }

  withdrawn : (by : ℕ) (number : Option ℕ) (change : Change) (caller : ℕ) (old mid new : S) (before after : L) (e : StoreError) →
      log.is_open before ≡ true → Decided (decision.Admitted by number change) caller old mid
      → IsUndone view log (note by asked number day) mid new before after e → Step old new before after (given.Refused refusal.Store)
  withdrawn by number change caller old mid new before after e ready known undone =
      let between = undone.between in
      let w = undone.withdrawing in
      let attempt : IsAttempt (reach_of asked) (view old) (view between) (Err e) =
      attempted (reach_of asked) (decision.Admitted by number change) (view old) (view mid) (view between) (Err e) caller known.proper known.deciding
      (undone.commit, tt) in
      let less : (view mid).doubt ≤ (view new).doubt = omega (arith, undone.commit.doubt, w.doubt) in
      let failed : (view between).failed ≡ next_count (view old).failed =
      undone.commit.failed ∙ ap next_count (failed_done (reach_of asked) number (view old).failed (view mid).failed known.deciding.failed) in
      let commits : (view between).commits ≡ next_count (view old).commits = undone.commit.commits ∙ ap next_count known.deciding.commits in
      let was : WasWithdrawn view log digest asked day (office_of old policy before) (office_of new policy after) = record {
        caller = by;
        number = number;
        between = between;
        is = done_for by number change caller old mid new known less;
        failed = failed;
        commits = commits;
        withdrawing = w;
        withdrawn = undone.withdrawn;
      } in
      record {
        policy = refl;
        kept = λ t held. w.kept t (attempt.kept t held);
        made = λ sure t held sound. tt;
        one = λ sure own. not_own _ own;
        doubt = omega (arith, attempt.doubt, w.doubt);
        failed = λ few. (λ store. inl (differs_by (view old).failed (view between).failed (view new).failed failed w.failed), λ differs. refl);
        failures = inr (inr was);
        commits = inr (w.commits ∙ commits);
        handed = handed_err (reach_of asked) e (view old).handed (view new).handed
            (subst (HandedIn (reach_of asked) (Err e) (view old).handed) (sym w.handed) attempt.handed);
        opened = λ sure h is held. opens_refused (rows_opened policy h digest asked day) refusal.Store _ _;
        logged = inr (inr was);
        shut = λ closed. absurd (opposite (log.is_open before) ready closed);
      }

  -- ---- a step

  -- the log takes no commands
  pub shut_step : (store : S) (before : L) → log.is_open before ≡ false → Step store store before before (given.Refused refusal.Store)
  shut_step store before shut = record {
    policy = refl;
    kept = λ t held. held;
    made = λ sure t held sound. tt;
    one = λ sure own. not_own _ own;
    doubt = omega arith;
    failed = λ few. (λ refused. inr (inl shut), λ differs. refl);
    failures = inr (inl (inl shut, refl));
    commits = inl refl;
    handed = handed_none (reach_of asked) (view store).handed;
    opened = λ sure h is held. opens_refused (rows_opened policy h digest asked day) refusal.Store _ _;
    logged = inl refl;
    shut = λ closed. (refl, refl);
  }

  -- deciding failed
  pub undecided_step : (old mid : S) (before : L) (e : StoreError) → log.is_open before ≡ true
      → IsDeciding (reach_of asked) (view old) (view mid) (Err e) → Step old mid before before (given.Refused refusal.Store)
  undecided_step old mid before e ready deciding =
      stepped_err view log digest asked day (office_of old policy before) (office_of mid policy before) e refl ready refl (record {
        kept = deciding.kept;
        one = λ sure one. tt;
        doubt = deciding.doubt;
        failed = deciding.failed;
        commits = inl deciding.commits;
        handed = deciding.handed;
      })

  -- no doubt goes
  pub no_less_doubt : (d : Decision) (old new : S) (before after : L) (result : Result Given StoreError)
      → IsCarriedOutWith view log asked day d old new before after result → (view old).doubt ≤ (view new).doubt
  no_less_doubt (decision.Answered reply) old new before after result done =
      let same : (view new).doubt ≡ (view old).doubt = done.0.1.doubt in omega (arith, same)
  no_less_doubt (decision.Admitted by number change) old new before after (Ok reply) done = done.0.0.doubt
  no_less_doubt (decision.Admitted by number change) old new before after (Err e) (inl refused) =
      let same : (view new).doubt ≡ (view old).doubt = refused.0.doubt in omega (arith, same)
  no_less_doubt (decision.Admitted by number change) old new before after (Err e) (inr undone) =
      omega (arith, undone.commit.doubt, undone.withdrawing.doubt)

  -- what was decided is carried out
  pub carried_step : (d : Decision) (caller : ℕ) (old mid new : S) (before after : L) (result : Result Given StoreError) → log.is_open before ≡ true
      → Decided d caller old mid
      → ((t : Tables) → (view mid).holds t → LeavesSound day t d → (by : ℕ) → IsProper by d → OnMade result (IsSoundChange (view new).holds day t))
      → IsCarriedOutWith view log asked day d mid new before after result → Step old new before after (replied result)
  carried_step (decision.Answered reply) caller old mid new before after (Ok told) ready known sound done =
      let is : told ≡ reply = cc (done.0.0) in
      let less = no_less_doubt (decision.Answered reply) mid new before after (Ok told) done in
      replied_step (decision.Answered reply) caller old mid new before after told ready known done.0 less sound
      (same_log view log digest asked day (office_of old policy before) (office_of new policy after) told (subst NotDone (sym is) known.proper.1) done.1)
  carried_step (decision.Answered reply) caller old mid new before after (Err e) ready known sound done = let no : ⊥ = cc (done.0.0) in absurd no
  carried_step (decision.Admitted by number change) caller old mid new before after (Ok reply) ready known sound done =
      let less = no_less_doubt (decision.Admitted by number change) mid new before after (Ok reply) done in
      replied_step (decision.Admitted by number change) caller old mid new before after reply ready known done.0 less sound
      (subst (Logged view log digest asked day (office_of old policy before) (office_of new policy after)) (sym done.0.1)
      (record { caller = by; is = done_for by number change caller old mid new known less; entered = done.1 }))
  carried_step (decision.Admitted by number change) caller old mid new before after (Err e) ready known sound (inl refused) =
      not_entered by number change caller old mid new before after e ready known refused.0 refused.1
  carried_step (decision.Admitted by number change) caller old mid new before after (Err e) ready known sound (inr undone) =
      withdrawn by number change caller old mid new before after e ready known undone

  -- the reply is the office's own
  pub own_with : (d : Decision) (caller : ℕ) (old new : S) (before after : L) (result : Result Given StoreError) → IsProper caller d
      → IsCarriedOutWith view log asked day d old new before after result → IfOk result IsOwn
  own_with d caller old new before after (Err e) proper done = tt
  own_with (decision.Answered reply) caller old new before after (Ok told) proper done =
      own_reply (decision.Answered reply) (view old) (view new) (Ok told) caller proper done.0
  own_with (decision.Admitted by number change) caller old new before after (Ok told) proper done =
      own_reply (decision.Admitted by number change) (view old) (view new) (Ok told) caller proper done.0

-- What is left of a request once what was decided of it is carried out.
use Rattle.std.proofs.Common.{◌≡◌, ◌≤◌, ℕ, refl, sym, ap, ◌∙◌, subst, inr, arith}
use Rattle.std.specs.Prelude.{◌∷◌, Option, None, Some, Result, Ok, Err, IfOk, OnOk}
use Rattle.permit_base.specs.declared.refusal.Reason.{Reason}
use Rattle.permit_base.specs.declared.refusal.Refusal.{Refusal}
use Rattle.permit_base.specs.declared.refusal.Refusal.TheVariants as refusal
use Rattle.permit_model.specs.History.{Entry, History}
use Rattle.permit_model.specs.Machine.{Done, outcome_by_reason, refused}
use Rattle.permit_model.specs.Tables.{tables}
use Rattle.permit_store.specs.Changes.{changed, Fits}
use Rattle.permit_store.specs.Counts.{next_count}
use Rattle.permit_store.specs.Frames.{StoreView, HasOneDesk, IsCommit}
use Rattle.permit_store.specs.declared.change.Change.{Change}
use Rattle.permit_store.specs.declared.store.StoreError.{StoreError}
use Rattle.permit_office.specs.declared.decision.Decision.{Decision}
use Rattle.permit_office.specs.declared.decision.Decision.TheVariants as decision
use Rattle.permit_office.specs.declared.reply.Reply.{Reply as Given}
use Rattle.permit_office.specs.declared.reply.Reply.TheVariants as given
use Rattle.permit_office.specs.Answers.{IsOwn, commits_after}
use Rattle.permit_office.specs.Decisions.{Decides, IsCarriedOut, IsDeciding, IsOf, IsProper, IsUndone, reply_for}
use Rattle.permit_office.specs.Frames.{IsAttempt, UnlessDone}
use Rattle.permit_office.specs.Logs.{IsStill}
use Rattle.permit_office.specs.Opening.{Opens}
use Rattle.permit_office.specs.Reach.{Reach, NoRow, OneRow, ManyRows, FailedIn, HandedIn}

-- a refusal is the machine's
pub refuses : (day : ℕ) (decided : Decision) (why : Refusal) (h : History) → decided ≡ decision.Answered (given.Refused why) →
    Decides day decided (refused h why) h
refuses day decided why h is = subst (λ (d : Decision). Decides day d (refused h why) h) (sym is) (refl, refl)

-- what isn't admitted is refused for the reason against it
pub not_admitted : (day : ℕ) (h : History) (entry : Entry) (reason : Reason) (against : Option Reason) → Some reason ≡ against →
    (decided : Decision) → decided ≡ decision.Answered (given.Refused (refusal.NotAdmitted reason)) → Decides day decided (outcome_by_reason h entry against) h
not_admitted day h entry reason against is decided same =
    subst (λ (r : Option Reason). Decides day decided (outcome_by_reason h entry r) h) is (refuses day decided (refusal.NotAdmitted reason) h same)

-- what is admitted is the change that makes the entry
pub admitted : (day : ℕ) (h : History) (entry : Entry) (by : ℕ) (number : Option ℕ) (change : Change) (against : Option Reason) → None ≡ against →
    number ≡ entry.number → Fits (tables h) change day → changed (tables h) change day ≡ tables (entry ∷ h) →
    Decides day (decision.Admitted by number change) (outcome_by_reason h entry against) h
admitted day h entry by number change against none is fits same =
    subst (λ (r : Option Reason). Decides day (decision.Admitted by number change) (outcome_by_reason h entry r) h) none (ap Done is, fits, same)

-- ---- a reply that isn't that to a command which is done

pub unless_done : (reply : Given) (said : Type 0) → said → UnlessDone reply said
unless_done (given.Done number) said is = tt
unless_done (given.Parcel p) said is = is
unless_done (given.File f ps) said is = is
unless_done (given.Listed l) said is = is
unless_done (given.Register k l) said is = is
unless_done (given.Refused why) said is = is

pub none_committed : (reply : Given) (n : ℕ) → IsUndone reply → n ≡ commits_after reply n
none_committed (given.Done number) n none = absurd none
none_committed (given.Parcel p) n none = refl
none_committed (given.File f ps) n none = refl
none_committed (given.Listed l) n none = refl
none_committed (given.Register k l) n none = refl
none_committed (given.Refused why) n none = refl

-- ---- the counts

pub failed_done : (r : Reach) (number : Option ℕ) (old mid : ℕ) → FailedIn r (Ok (given.Done number)) old mid → mid ≡ old
failed_done NoRow number old mid e = e
failed_done OneRow number old mid e = e
failed_done ManyRows number old mid e = e

failed_more : (r : Reach) (e : StoreError) (old new : ℕ) → new ≡ next_count old → FailedIn r (Err e) old new
failed_more NoRow e old new counted = counted
failed_more OneRow e old new counted = counted
failed_more ManyRows e old new counted = inr counted

pub handed_more : (r : Reach) (number : Option ℕ) (e : StoreError) (old new : ℕ) → HandedIn r (Ok (given.Done number)) old new → HandedIn r (Err e) old new
handed_more NoRow number e old new same = same
handed_more OneRow number e old new one = inr one
handed_more ManyRows number e old new same = tt

-- ---- what an attempt leaves

still : (reach : Reach) (reply : Given) (old mid new : StoreView) → IsUndone reply → IsDeciding reach old mid (Ok reply) → IsStill mid new →
    IsAttempt reach old new (Ok reply)
still reach reply old mid new none decided stays = record {
  kept = λ t held. unless_done reply (new.holds t) (stays.kept t (decided.kept t held));
  one = λ sure one. stays.one (decided.one (sym stays.doubt ∙ sure) one);
  doubt = omega (arith, decided.doubt, stays.doubt);
  failed = subst (FailedIn reach (Ok reply) old.failed) (sym stays.failed) decided.failed;
  commits = stays.commits ∙ decided.commits ∙ none_committed reply old.commits none;
  handed = subst (HandedIn reach (Ok reply) old.handed) (sym stays.handed) decided.handed;
}

committed : (reach : Reach) (number : Option ℕ) (old mid new : StoreView) (result : Result Given StoreError) →
    IsDeciding reach old mid (Ok (given.Done number)) → IsCommit mid new result → IfOk result (λ reply. reply ≡ given.Done number) →
    IsAttempt reach old new result
committed reach number old mid new (Ok reply) decided commit is =
    subst (λ (r : Given). IsAttempt reach old new (Ok r)) (sym is) (record {
      kept = λ t held. tt;
      one = λ sure one. commit.one sure;
      doubt = omega (arith, decided.doubt, commit.doubt);
      failed = subst (FailedIn reach (Ok (given.Done number)) old.failed) (sym commit.failed) decided.failed;
      commits = commit.commits ∙ ap next_count decided.commits;
      handed = subst (HandedIn reach (Ok (given.Done number)) old.handed) (sym commit.handed) decided.handed;
    })
committed reach number old mid new (Err e) decided commit is = record {
  kept = λ t held. commit.kept t (decided.kept t held);
  one = λ sure one. tt;
  doubt = omega (arith, decided.doubt, commit.doubt);
  failed = failed_more reach e old.failed new.failed
      (commit.failed ∙ ap next_count (failed_done reach number old.failed mid.failed decided.failed));
  commits = inr (commit.commits ∙ ap next_count decided.commits);
  handed = handed_more reach number e old.handed new.handed
      (subst (HandedIn reach (Ok (given.Done number)) old.handed) (sym commit.handed) decided.handed);
}

-- deciding and carrying out are an attempt
pub attempted : (reach : Reach) (decision : Decision) (old mid new : StoreView) (result : Result Given StoreError) (caller : ℕ) → IsProper caller decision →
    IsDeciding reach old mid (Ok (reply_for decision)) → IsCarriedOut decision mid new result → IsAttempt reach old new result
attempted reach (decision.Answered reply) old mid new result caller proper decided done =
    subst (IsAttempt reach old new) (sym done.0) (still reach reply old mid new proper.1 decided done.1)
attempted reach (decision.Admitted by number change) old mid new result caller proper decided done =
    committed reach number old mid new result decided done.0 done.1

-- no doubt goes
pub no_less_doubt : (decision : Decision) (old new : StoreView) (result : Result Given StoreError) → IsCarriedOut decision old new result →
    old.doubt ≤ new.doubt
no_less_doubt (decision.Answered reply) old new result done = let same : new.doubt ≡ old.doubt = done.1.doubt in omega arith
no_less_doubt (decision.Admitted by number change) old new result done = done.0.doubt

-- nothing more is handed out
none_handed : (decision : Decision) (old new : StoreView) (result : Result Given StoreError) → IsCarriedOut decision old new result →
    new.handed ≡ old.handed
none_handed (decision.Answered reply) old new result done = done.1.handed
none_handed (decision.Admitted by number change) old new result done = done.0.handed

-- the reply is the one that was to come
pub on_reply : (said : Given → Type 0) (decision : Decision) (old new : StoreView) (result : Result Given StoreError) →
    IsCarriedOut decision old new result → said (reply_for decision) → IfOk result said
on_reply said (decision.Answered reply) old new result done is = subst (λ (r : Result Given StoreError). IfOk r said) (sym done.0) is
on_reply said (decision.Admitted by number change) old new (Ok reply) done is = subst said (sym done.1) is
on_reply said (decision.Admitted by number change) old new (Err e) done is = tt

own_for : (caller : ℕ) (decision : Decision) → IsProper caller decision → IsOwn (reply_for decision)
own_for caller (decision.Answered reply) proper = proper.0
own_for caller (decision.Admitted by number change) proper = refl

-- and the office's own
pub own_reply : (decision : Decision) (old new : StoreView) (result : Result Given StoreError) (caller : ℕ) → IsProper caller decision →
    IsCarriedOut decision old new result → IfOk result IsOwn
own_reply decision old new result caller proper done = on_reply IsOwn decision old new result done (own_for caller decision proper)

-- the rows that it opens were handed out
pub opened_on : (rows : Option ℕ) (n : ℕ) (decision : Decision) (old new : StoreView) (result : Result Given StoreError) →
    IsCarriedOut decision old new result → Opens rows (reply_for decision) n old.handed → IfOk result (λ reply. Opens rows reply n new.handed)
opened_on rows n decision old new result done opens = on_reply (λ reply. Opens rows reply n new.handed) decision old new result done
    (subst (Opens rows (reply_for decision) n) (sym (none_handed decision old new result done)) opens)

-- a store that could be read can be read
pub one_desk : (decision : Decision) (old new : StoreView) (result : Result Given StoreError) → IsCarriedOut decision old new result →
    (old.doubt ≡ 0 → HasOneDesk old) → new.doubt ≡ 0 → OnOk result (HasOneDesk new)
one_desk (decision.Answered reply) old new result done one sure =
    subst (λ (r : Result Given StoreError). OnOk r (HasOneDesk new)) (sym done.0) (done.1.one (one (sym done.1.doubt ∙ sure)))
one_desk (decision.Admitted by number change) old new result done one sure = done.0.one sure

-- the change of a known caller is its own
pub of_caller : (found : Option ℕ) (caller : ℕ) (result : Result Decision StoreError) → found ≡ Some caller → IfOk result (IsProper caller) →
    IfOk result (IsOf found)
of_caller found caller (Ok (decision.Answered reply)) is proper = tt
of_caller found caller (Ok (decision.Admitted by number change)) is proper = is ∙ ap Some (sym proper)
of_caller found caller (Err e) is proper = tt

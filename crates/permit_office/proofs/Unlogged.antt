-- Where a log is always open, refuses nothing and calls nothing, a step is that of an office without one.
use Rattle.std.proofs.Common.{◌≡◌, ◌≢◌, ◌⊎◌, ◌↔◌, ◌∙◌, ℕ, true, List, inl, inr, not}
use Rattle.std.specs.Prelude.{IsTrue}
use Rattle.permit_base.specs.declared.refusal.Refusal.TheVariants as refusal
use Rattle.permit_base.specs.declared.request.Request.{Request}
use Rattle.permit_store.specs.Counts.{next_count}
use Rattle.permit_store.specs.Frames.{StoreView}
use Rattle.permit_office.specs.declared.log.Log.{Ghosts}
use Rattle.permit_office.specs.declared.reply.Reply.{Reply as Given}
use Rattle.permit_office.specs.declared.reply.Reply.TheVariants as given
use Rattle.permit_office.specs.Answers.{is_store_refusal}
use Rattle.permit_office.specs.Frames.{IsStep}
use Rattle.permit_office.specs.Logged.{FailedWith, LogFailed, WasWithdrawn}
use Rattle.permit_office.specs.Logs.{Noted, IsStill}
use Rattle.permit_office.specs.Office.{OfficeView}
use Rattle.permit_office.specs.Reach.{Reach, NoRow, OneRow, ManyRows, reach_of, is_many, FailedBy}
use Rattle.permit_office.proofs.Stepping.{opposite}

-- one failed call is the count after the store's refusal
one_counts : (r : Reach) (old new : ℕ) → new ≡ next_count old → FailedBy r (given.Refused refusal.Store) old new
one_counts NoRow old new e = e
one_counts OneRow old new e = e
one_counts ManyRows old new e = inr e

module _ {S L : Type 0} (view : S → StoreView) (log : Ghosts L) (takes : (l : L) → log.is_open l ≡ true)
    (never : (before after : L) (noted : Noted) → log.refused before noted after → ⊥)
    (still : (before after : L) (noted : Noted) (old new : StoreView) → log.withdrawn before noted old new after → IsStill old new)
    (digest : List ℕ) (asked : Request) (day : ℕ) (old new : OfficeView S L) where
  never_fails : LogFailed log old.log new.log → ⊥
  never_fails (inl shut) = opposite (log.is_open old.log) (takes old.log) shut
  never_fails (inr (noted, refused)) = never old.log new.log noted refused

  withdrawn_counts : WasWithdrawn view log digest asked day old new → (view new.store).failed ≡ next_count (view old.store).failed
  withdrawn_counts was = (still old.log new.log _ (view was.between) (view new.store) was.withdrawn).failed ∙ was.failed

  counts : (reply : Given) → FailedWith view log digest asked day old new reply → FailedBy (reach_of asked) reply (view old.store).failed (view new.store).failed
  counts (given.Refused refusal.Store) (inl e) = e
  counts (given.Refused refusal.Store) (inr (inl failed)) = absurd (never_fails failed.0)
  counts (given.Refused refusal.Store) (inr (inr was)) = one_counts (reach_of asked) _ _ (withdrawn_counts was)
  counts (given.Refused refusal.Syntax) e = e
  counts (given.Refused refusal.Caller) e = e
  counts (given.Refused refusal.Clock) e = e
  counts (given.Refused refusal.Record) e = e
  counts (given.Refused (refusal.Denied name)) e = e
  counts (given.Refused (refusal.NotAdmitted why)) e = e
  counts (given.Done number) e = e
  counts (given.Parcel p) e = e
  counts (given.File f ps) e = e
  counts (given.Listed l) e = e
  counts (given.Register k l) e = e

  -- the count of failed calls is exact
  pub failures_unlogged : (reply : Given) → IsStep view log digest asked day old new reply →
      FailedBy (reach_of asked) reply (view old.store).failed (view new.store).failed
  failures_unlogged reply step = counts reply step.failures

  only : (said : Type 0) → said ⊎ LogFailed log old.log new.log → said
  only said (inl is) = is
  only said (inr failed) = absurd (never_fails failed)

  -- and the store's refusal comes exactly where a call of the store failed
  pub failed_unlogged : (reply : Given) → IsStep view log digest asked day old new reply → IsTrue (not (is_many (reach_of asked))) →
      (IsTrue (is_store_refusal reply) ↔ ((view new.store).failed ≢ (view old.store).failed))
  failed_unlogged reply step few = (λ refused. only _ ((step.failed few).0 refused), (step.failed few).1)

-- What the office's calls of a store leave as it was.
use Rattle.std.specs.Prelude.{◌≡◌, ◌⊎◌, ◌≢◌, ◌≤◌, ℕ, false, List, [], ◌∷◌, Result, Ok, Err, OnOk, MatchResult, IsTrue, not, ⊤}
use Rattle.permit_base.specs.declared.refusal.Refusal.TheVariants as refusal
use Rattle.permit_base.specs.declared.request.Asked.{Asked}
use Rattle.permit_base.specs.declared.request.Request.{Request}
use Rattle.permit_base.specs.Digests.{digest_of}
use Rattle.permit_model.specs.Tables.{Tables}
use Rattle.permit_store.specs.declared.store.StoreError.{StoreError}
use Rattle.permit_store.specs.Counts.{next_count}
use Rattle.permit_store.specs.Frames.{StoreView, HasOneDesk, OverHistory, Reads}
use Rattle.permit_office.specs.declared.log.Log.{Ghosts}
use Rattle.permit_office.specs.declared.reply.Reply.{Reply as Given}
use Rattle.permit_office.specs.declared.reply.Reply.TheVariants as given
use Rattle.permit_office.specs.Office.{OfficeView}
use Rattle.permit_office.specs.Answers.{Committed, CommittedBy, IsOwn, is_store_refusal}
use Rattle.permit_office.specs.Logged.{Logged, LogFailed, FailedWith}
use Rattle.permit_office.specs.Reach.{Reach, reach_of, is_many, HandedIn, HandedBy, FailedIn}
use Rattle.permit_office.specs.Opening.{rows_opened, Opens}
use Rattle.permit_office.specs.Sound.{MakesOne}

-- calls that read, any number of them
abbrev pub OnlyReads : {A E : Type 0} → StoreView → StoreView → Result A E → Type 0
OnlyReads old new result = Reads (HasOneDesk old) old.handed old new result

-- said of any reply but that to a command which is done: a refusal, or a record that is shown
abbrev pub UnlessDone : Given → Type 0 → Type 0
UnlessDone (given.Done number) said = ⊤
UnlessDone reply said = said

-- the same of an attempt, in which a call of the store may have failed
abbrev pub UnlessMade : Result Given StoreError → Type 0 → Type 0
UnlessMade (Ok reply) said = UnlessDone reply said
UnlessMade (Err e) said = said

-- An attempt at a request leaves any tables, unless a command is done, and no doubt goes. After a reply a store that is
-- without doubt can be read, where it could be before.
pub record IsAttempt (reach : Reach) (old new : StoreView) (result : Result Given StoreError) : Type 0 where
  pub kept : (t : Tables) → old.holds t → UnlessMade result (new.holds t)
  pub one : new.doubt ≡ 0 → HasOneDesk old → OnOk result (HasOneDesk new)
  pub doubt : old.doubt ≤ new.doubt
  pub failed : FailedIn reach result old.failed new.failed
  pub commits : Committed result old.commits new.commits
  pub handed : HandedIn reach result old.handed new.handed

-- A making that only reads. Where it fails, a call of the store failed, or memory was refused.
pub record IsMaking {A : Type 0} (old new : StoreView) (result : Result A StoreError) : Type 0 where
  pub kept : (t : Tables) → old.holds t → new.holds t
  pub one : new.doubt ≡ 0 → HasOneDesk old → OnOk result (HasOneDesk new)
  pub doubt : old.doubt ≤ new.doubt
  pub failed : MatchResult result (λ made. new.failed ≡ old.failed) (λ e. (new.failed ≡ old.failed) ⊎ (new.failed ≡ next_count old.failed))
  pub commits : new.commits ≡ old.commits

-- A step leaves the policy, and any tables, unless a command is done, which makes one change of sound tables and leaves
-- them sound; no doubt goes. After any reply but the store's refusal, a store that is without doubt can be read. That
-- refusal comes wherever a call of the store failed, and means that one did or that the log failed, but for that of a
-- listing or a register, which may be for want of memory. The rows handed out for a listing are those that it opens. A
-- command that is done was entered into the log before. Where the log takes no commands nothing is called.
pub record IsStep {S L : Type 0} (view : S → StoreView) (log : Ghosts L) (digest : List ℕ) (asked : Request) (day : ℕ) (old new : OfficeView S L)
    (reply : Given) : Type 0 where
  pub policy : new.policy ≡ old.policy
  pub kept : (t : Tables) → (view old.store).holds t → UnlessDone reply ((view new.store).holds t)
  pub made : MakesOne (view old.store) (view new.store) day reply
  pub one : (view new.store).doubt ≡ 0 → IsOwn reply → HasOneDesk (view new.store)
  pub doubt : (view old.store).doubt ≤ (view new.store).doubt
  pub failed : IsTrue (not (is_many (reach_of asked)))
      → (IsTrue (is_store_refusal reply) → ((view new.store).failed ≢ (view old.store).failed) ⊎ LogFailed log old.log new.log)
      × ((view new.store).failed ≢ (view old.store).failed → IsTrue (is_store_refusal reply))
  pub failures : FailedWith view log digest asked day old new reply
  pub commits : CommittedBy reply (view old.store).commits (view new.store).commits
  pub handed : HandedBy (reach_of asked) reply (view old.store).handed (view new.store).handed
  pub opened : OverHistory (view old.store) (view new.store)
      (λ h. Opens (rows_opened old.policy h digest asked day) reply (view old.store).handed (view new.store).handed)
  pub logged : Logged view log digest asked day old new reply
  pub shut : log.is_open old.log ≡ false → (reply ≡ given.Refused refusal.Store) × (new ≡ old)

-- a run by steps, one for each request, with its reply
abbrev pub Steps : {S L : Type 0} → (S → StoreView) → Ghosts L → List (Asked × ℕ) → List Given → OfficeView S L → OfficeView S L → Type 0
Steps view log [] [] old new = new ≡ old
Steps view log [] (reply ∷ replies) old new = ⊥
Steps view log (request ∷ requests) [] old new = ⊥
Steps {S} {L} view log (request ∷ requests) (reply ∷ replies) old new =
    (between : OfficeView S L) × IsStep view log (digest_of request.0.token) request.0.request request.1 old between reply
    × Steps view log requests replies between new

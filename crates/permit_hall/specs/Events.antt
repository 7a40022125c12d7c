-- A run of the hall over events, against the model's.
use Rattle.std.specs.Prelude.{◌≡◌, ℕ, Bool, true, not, List, map}
use Rattle.std.specs.List.{list_all}
use Rattle.permit_base.specs.declared.request.Asked.{Asked}
use Rattle.permit_model.specs.History.{History}
use Rattle.permit_model.specs.Policy.{Policy}
use Rattle.permit_model.specs.Tables.{Tables, tables}
use Rattle.permit_model.specs.HallRun.{Event, Put, Take, Collect, served, collected, hall_run}
use Rattle.permit_store.specs.Frames.{StoreView, OverHistory}
use Rattle.permit_office.specs.declared.reply.Reply.{Reply}
use Rattle.permit_office.specs.Answers.{reply_of, is_store_refusal}
use Rattle.permit_office.specs.Office.{OfficeView}
use Rattle.permit_office.specs.declared.log.Log.{Ghosts}
use Rattle.permit_hall.specs.declared.events.Event.{Event as Given}
use Rattle.permit_hall.specs.declared.events.Event.TheVariants as given
use Rattle.permit_hall.specs.OfficeSteps.{IsRun}

-- the model's event
abbrev pub event_of : Given → Event Asked
event_of (given.Put session asked) = Put session asked
event_of (given.Take day) = Take day
event_of (given.Collect session) = Collect session

-- the answers, and the tables that are held, are those of the model's hall run
abbrev pub IsHallRun : (Tables → Type 0) → Policy → List (Event Asked) → List (ℕ × Reply) → History → Type 0
IsHallRun holds policy events answers h =
    (map (λ a. (a.0, reply_of a.1)) answers ≡ (hall_run policy events h).answers) × holds (tables (hall_run policy events h).history)

-- none of the requests was refused for the store
abbrev pub is_never_refused : List Reply → Bool
is_never_refused replies = list_all (λ r. not (is_store_refusal r)) replies

-- The office served the requests that the events serve, and the answers are those of its replies that the events collect.
-- Where the store held a history's tables and is without doubt, and no request was refused for it, it is the model's hall run.
pub record HallRuns {S L : Type 0} (view : S → StoreView) (log : Ghosts L) (events : List (Event Asked)) (answers : List (ℕ × Reply))
    (old new : OfficeView S L) (replies : List Reply) : Type 0 where
  pub run : IsRun view log (served events) replies old new
  pub answered : answers ≡ collected events replies
  pub model : OverHistory (view old.store) (view new.store)
      (λ h. is_never_refused replies ≡ true → IsHallRun (view new.store).holds old.policy events answers h)

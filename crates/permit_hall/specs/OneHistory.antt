-- One history for all threads: what the workers of a hall had the office serve.
use Rattle.std.specs.Prelude.{◌≡◌, ◌<◌, ℕ, List, [], map, length, slice_get, Option, Some, MatchOption, All, Vec}
use Rattle.std.specs.Global.{Global}
use Rattle.permit_base.specs.declared.request.Asked.{Asked}
use Rattle.permit_store.specs.Frames.{StoreView}
use Rattle.permit_office.specs.declared.reply.Reply.{Reply}
use Rattle.permit_office.specs.Office.{OfficeView}
use Rattle.permit_office.specs.declared.log.Log.{Ghosts}
use Rattle.permit_wire.specs.declared.service.Dated.{Dated}
use Rattle.permit_hall.specs.OfficeSteps.{IsRun}
use Rattle.permit_hall.specs.Runs.{Entry, Gives, days_of, requests_of, replies_of}

-- the requests served, each with its day
abbrev pub requests_on : List (Entry Asked Dated) → List (Asked × ℕ)
requests_on served = map (λ e. (e.request, e.day)) served

-- the replies to them
abbrev pub replies_in : List (Entry Asked Dated) → List Reply
replies_in served = map (λ e. e.reply.reply) served

-- The requests served, each of one of the sessions, are one run of the office. The clock is asked once for each, as it is
-- taken, and goes from c to d.
pub record OneHistory {S L C : Type 0} (view : S → StoreView) (log : Ghosts L) (tick : C → ℕ → C → Type 0) (sessions : ℕ)
    (old new : OfficeView S L) (c d : C) (served : List (Entry Asked Dated)) : Type 0 where
  pub run : IsRun view log (requests_on served) (replies_in served) old new
  pub days : Gives tick c (days_of served) d
  pub each : All (λ e. e.from < sessions) served

-- The list was served whole, in its order, and its answers are the office's replies at their places. Of a list whose
-- worker couldn't be started nothing was served.
abbrev pub IsListServed : List (Entry Asked Dated) → ℕ → Vec Asked Global → Option (Vec Reply Global) → Type 0
IsListServed served session list out =
    MatchOption out (requests_of session served ≡ []) (λ answers.
    (requests_of session served ≡ list.items) × (map (λ d. d.reply) (replies_of session served) ≡ answers.items))

-- each list has its answers, or None
pub record AreListsServed (lists : List (Vec Asked Global)) (outs : List (Option (Vec Reply Global))) (served : List (Entry Asked Dated)) : Type 0 where
  pub count : length outs ≡ length lists
  pub each : (session : ℕ) (list : Vec Asked Global) (out : Option (Vec Reply Global))
      → slice_get lists session ≡ Some list → slice_get outs session ≡ Some out → IsListServed served session list out

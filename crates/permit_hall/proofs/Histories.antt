-- What tasks that were served are: one run of the service, and of an office one history.
use Rattle.std.proofs.Common.{◌≡◌, ℕ, List, [], map, length, subst, get_or}
use Rattle.std.specs.Prelude.{Option, Some, MatchOption, Vec, slice_get}
use Rattle.std.specs.Global.{Global}
use Rattle.std.proofs.lemmas.Option.{slice_get_within, get_or_from_slice_get}
use Rattle.permit_base.specs.declared.request.Asked.{Asked}
use Rattle.permit_store.specs.Frames.{StoreView}
use Rattle.permit_office.specs.declared.reply.Reply.{Reply}
use Rattle.permit_office.specs.Office.{OfficeView}
use Rattle.permit_office.specs.declared.log.Log.{Ghosts}
use Rattle.permit_wire.specs.Serving.{StepsOn}
use Rattle.permit_wire.specs.declared.service.Dated.{Dated}
use Rattle.permit_hall.specs.declared.lists.ListTask.{ListTask}
use Rattle.permit_hall.specs.declared.doors.DoorTask.{DoorTask}
use Rattle.permit_hall.specs.declared.doors.DoorEnd.{DoorEnd}
use Rattle.permit_hall.specs.Runs.{Entry, requests_of, replies_of}
use Rattle.permit_hall.specs.Answers.{AreServed}
use Rattle.permit_hall.specs.OneHistory.{OneHistory, IsListServed, AreListsServed}
use Rattle.permit_hall.specs.OneRun.{OneRun}
use Rattle.permit_hall.proofs.OfficeRuns.{is_run}
use Rattle.permit_hall.proofs.Ending.{served_as}

-- the list was put whole, and the answers are the replies that were got
abbrev list_done : Vec Asked Global → List Asked → List Dated → Vec Reply Global → Type 0
list_done list put got answers = (put ≡ list.items) × (map (λ d. d.reply) got ≡ answers.items)

-- a run of an office is one history of it
pub one_history : {S L C : Type 0} (view : S → StoreView) (log : Ghosts L) (tick : C → ℕ → C → Type 0) (sessions : ℕ) (old new : OfficeView S L)
    (c d : C) (served : List (Entry Asked Dated))
    → OneRun (StepsOn view log) tick sessions old new c d served → OneHistory view log tick sessions old new c d served
one_history view log tick sessions old new c d served h = record {
  run = is_run view log (λ d. d.reply) (StepsOn view log) (λ o a d y p s. s.0) old served new h.runs;
  days = h.days;
  each = h.each;
}

module _ {S C : Type 0} (did : S → Asked → ℕ → Dated → S → Type 0) (tick : C → ℕ → C → Type 0) where
  -- the entries are one run of the service
  one_run : {O T : Type 0} (done : T → List Asked → List Dated → O → Type 0) (tasks : List T) (outs : List (Option O)) (old new : S) (c d : C)
      (served : List (Entry Asked Dated))
      → AreServed did tick done tasks outs old new c d served → OneRun did tick (length tasks) old new c d served
  one_run done tasks outs old new c d served h = record { runs = h.runs; days = h.days; each = h.each }

  -- what the workers of doors have done
  pub doors_served : {D : Type 0} (done : D → List Asked → List Dated → DoorEnd D → Type 0) (tasks : List (DoorTask D)) (doors : List D)
      (ends : List (Option (DoorEnd D))) (old new : S) (c d : C) (served : List (Entry Asked Dated))
      → map (λ t. t.door) tasks ≡ doors → AreServed did tick (λ (t : DoorTask D) put got end. done t.door put got end) tasks ends old new c d served
      → OneRun did tick (length doors) old new c d served × (length ends ≡ length doors)
      × ((k : ℕ) (door : D) (end : Option (DoorEnd D)) → slice_get doors k ≡ Some door → slice_get ends k ≡ Some end
      → MatchOption end (requests_of k served ≡ []) (λ e. done door (requests_of k served) (replies_of k served) e))
  doors_served {D} done tasks doors ends old new c d served same h =
      let by_door = served_as did tick (λ (t : DoorTask D) put got end. done t.door put got end) done (λ t. t.door)
      (λ t put got x d. d) tasks doors ends old new c d served same h in (
        one_run done doors ends old new c d served by_door,
        by_door.len,
        λ k door end at at'.
            subst (λ x. MatchOption end (requests_of k served ≡ []) (λ e. done x (requests_of k served) (replies_of k served) e))
            (get_or_from_slice_get doors k door door at)
            (subst (λ o. MatchOption o (requests_of k served ≡ []) (λ e. done (get_or doors k door) (requests_of k served) (replies_of k served) e))
            (get_or_from_slice_get ends k end end at')
            (by_door.right k door end (slice_get_within doors k door at))),
      )

module _ {S L C : Type 0} (view : S → StoreView) (log : Ghosts L) (tick : C → ℕ → C → Type 0) where
  -- what the workers of lists have done
  pub lists_served : (tasks : List ListTask) (lists : List (Vec Asked Global)) (outs : List (Option (Vec Reply Global))) (old new : OfficeView S L) (c d : C)
      (served : List (Entry Asked Dated))
      → map (λ t. t.list) tasks ≡ lists
      → AreServed (StepsOn view log) tick (λ t put got answers. list_done t.list put got answers) tasks outs old new c d served
      → OneHistory view log tick (length lists) old new c d served × AreListsServed lists outs served
  lists_served tasks lists outs old new c d served same h =
      let by_list = served_as (StepsOn view log) tick (λ (t : ListTask) put got answers. list_done t.list put got answers) list_done (λ t. t.list)
      (λ t put got x d. d) tasks lists outs old new c d served same h in (
        one_history view log tick (length lists) old new c d served (one_run (StepsOn view log) tick list_done lists outs old new c d served by_list),
        record {
          count = by_list.len;
          each = λ k list out at at'.
              subst (λ l. IsListServed served k l out) (get_or_from_slice_get lists k list list at)
              (subst (λ o. IsListServed served k (get_or lists k list) o) (get_or_from_slice_get outs k out out at')
              (by_list.right k list out (slice_get_within lists k list at)));
        },
      )

-- What whole runs of an office with a history leave.
use Rattle.std.specs.Prelude.{◌≡◌, List}
use Rattle.permit_model.specs.History.{History}
use Rattle.permit_history.specs.declared.entry.Entry.{Entry}
use Rattle.permit_history.specs.Told.{told_history}
use Rattle.permit_journal.specs.Files.{FileView}
use Rattle.permit_journal.specs.Journals.{IsSettled}
use Rattle.permit_office.specs.Office.{OfficeView}
use Rattle.permit_office.specs.declared.log.Log.{Ghosts}
use Rattle.permit_replay.specs.Histories.{Unsaid, Completes, history_before, history_by}
use Rattle.permit_store.specs.Frames.{StoreView}
use Rattle.permit_wire.specs.Serving.{Steps}
use Rattle.permit_recorded.specs.Logs.{LogView}
use Rattle.permit_recorded.specs.Resuming.{IsResumed}
use Rattle.permit_recorded.specs.Runs.{AreReplies, Exchange, IsLeftWith, IsOf, Runs, history_behind}

-- After the history the requests were served: what is left is the history that the machine makes of them, and each reply is
-- the machine's or the store's refusal.
pub record Served {S H : Type 0} (view : S → StoreView) (file_view : H → FileView) (start : List Entry) (before : OfficeView S (LogView H))
    (es : List Exchange) (after : OfficeView S (LogView H)) (h : History) : Type 0 where
  pub left : IsLeftWith view file_view start after (history_behind before.policy es h)
  pub replies : AreReplies before.policy es h

module _ {S H : Type 0} (view : S → StoreView) (file_view : H → FileView) (log : Ghosts (LogView H)) where
  -- so it is whatever requests the office serves, one after the other, as long as the store is without doubt at the end
  abbrev pub ServesBehind : List Entry → OfficeView S (LogView H) → History → Type 0
  ServesBehind start office h =
      (es : List Exchange) (after : OfficeView S (LogView H)) → Runs (λ asked day reply. Steps view log day asked reply) office es after
      → (view after.store).doubt ≡ 0 → Served view file_view start office es after h

  -- where the office is that of the history
  abbrev pub KeepsItsHistory : Type 0
  KeepsItsHistory =
      (start : List Entry) (office : OfficeView S (LogView H)) (h : History)
      → IsOf view file_view start office h → ServesBehind start office h

module _ {S H : Type 0} (view : S → StoreView) (file_view : H → FileView) (log : Ghosts (LogView H)) where
  -- An office that was opened with its history, which began so, serves after the history that its text gives, by whatever completes
  -- the text.
  abbrev pub GoesOnBehindItsText : (Unsaid → Type 0) → Type 0
  GoesOnBehindItsText begins =
      (office : OfficeView S (LogView H)) (resumed : IsResumed begins (file_view office.log.journal.file).text (view office.store)) (unsaid : Unsaid)
      → IsSettled file_view office.log.journal → Completes begins unsaid resumed.entries
      → ServesBehind view file_view log (told_history (history_before unsaid)) office
      (history_by unsaid resumed.entries)

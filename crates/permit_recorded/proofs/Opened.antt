-- An office that was opened with its history goes on after it.
use Rattle.std.proofs.Common.{ℕ, List, []}
use Rattle.permit_model.specs.Tables.{Tables}
use Rattle.permit_history.specs.Told.{told_history}
use Rattle.permit_journal.specs.Files.{FileView}
use Rattle.permit_replay.specs.Histories.{Unsaid, history_before, history_by}
use Rattle.permit_store.specs.Frames.{StoreView}
use Rattle.permit_recorded.specs.Laws.{GoesOnBehindItsText}
use Rattle.permit_recorded.specs.Resuming.{IsResumed}
use Rattle.permit_recorded.proofs.Running.{keeps_its_history}
use Rattle.permit_recorded.proofs.Stepping.{history_log}

pub goes_on : {S H : Type 0} (view : S → StoreView) (file_view : H → FileView) (leaves : List ℕ → List ℕ → Type 0) → leaves [] []
    → (begins : Unsaid → Type 0) → GoesOnBehindItsText view file_view (history_log file_view leaves) begins
goes_on view file_view leaves nothing begins = λ office resumed unsaid settled completes.
    keeps_its_history view file_view leaves nothing (told_history (history_before unsaid)) office
    (history_by unsaid resumed.entries)
    (record { has = resumed.has unsaid completes; settled = settled })

-- what still holds its tables is still brought to the end of the text
pub still_resumed : (begins : Unsaid → Type 0) (text : List ℕ) (old new : StoreView)
    → ((t : Tables) → old.holds t → new.holds t) → IsResumed begins text old → IsResumed begins text new
still_resumed begins text old new kept resumed = record {
  entries = resumed.entries;
  text_is = resumed.text_is;
  within = resumed.within;
  has = λ unsaid completes.
      let has = resumed.has unsaid completes in
      record { history = has.history; held = kept _ has.held; told = has.told };
  meant_is = resumed.meant_is;
}

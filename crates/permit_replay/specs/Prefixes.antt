-- The text of a history, and why it isn't compared.
use Rattle.std.specs.Prelude.{◌≡◌, ◌≤◌, ℕ, ◌^◌, IsTrue, List, [], ◌∷◌, ◌++◌, length, None, ⊤}
use Rattle.std.specs.List.{list_all}
use Rattle.permit_model.specs.History.{History}
use Rattle.permit_model.specs.Machine.{IsHistory}
use Rattle.permit_store.specs.declared.plain.PlainStore.{PlainStore}
use Rattle.permit_store.specs.Frames.{StoreView}
use Rattle.permit_history.specs.declared.entry.Entry.{Entry}
use Rattle.permit_history.specs.LineData.{text_of}
use Rattle.permit_history.specs.Meaning.{meant}
use Rattle.permit_history.specs.Text.{next_line, GivesInTurn}
use Rattle.permit_history.specs.Told.{told_history}
use Rattle.permit_history.specs.Within.{is_within}
use Rattle.permit_replay.specs.Against.{against}
use Rattle.permit_replay.specs.Histories.{Unsaid, Completes, history_before, history_with, history_by}
use Rattle.permit_replay.specs.Texts.{StopsAt}
use Rattle.permit_replay.specs.declared.opening.fault.CompareFault.{CompareFault}
use Rattle.permit_replay.specs.declared.opening.fault.CompareFault.TheVariants as compare_fault

-- there is no reason against any of the entries after the history and those before it
abbrev pub AreNext : Unsaid → History → List Entry → Type 0
AreNext unsaid h [] = ⊤
AreNext unsaid h (entry ∷ later) =
    (against unsaid h entry.day entry.deed ≡ None) × AreNext unsaid (history_with unsaid h entry.day entry.deed) later

-- the whole lines of the text are those of the entries, which give a history, and this comes after them
pub record IsTextOf (begins : Unsaid → Type 0) (bytes : List ℕ) (entries : List Entry) (left : List ℕ) : Type 0 where
  pub text : bytes ≡ text_of entries ++ left
  pub given : GivesInTurn bytes entries left
  pub end : next_line left ≡ None
  pub within : IsTrue (list_all is_within entries)
  pub next : (unsaid : Unsaid) → Completes begins unsaid entries → AreNext unsaid [] entries
  pub history : (unsaid : Unsaid) → Completes begins unsaid entries → IsHistory (history_by unsaid entries)
  pub told : (unsaid : Unsaid) → Completes begins unsaid entries → told_history (history_by unsaid entries) ≡ meant (told_history (history_before unsaid)) entries

-- Replaying the text stops there. A store that failed says nothing of it.
abbrev pub StopsAs : (PlainStore → StoreView) → (Unsaid → Type 0) → List ℕ → CompareFault → Type 0
StopsAs view begins bytes (compare_fault.Text fault) = StopsAt view begins bytes fault
StopsAs view begins bytes compare_fault.Long = 2 ^ 64 ≤ length bytes
StopsAs view begins bytes compare_fault.Store = ⊤

-- What replaying a text answers.
use Rattle.std.specs.Prelude.{◌≡◌, ◌≤◌, ◌^◌, ℕ, ◌+◌, List, [], ◌∷◌, ◌++◌, length, None, Some, option_map, Ok, Err, ⊤}
use Rattle.permit_store.specs.declared.plain.PlainStore.{PlainStore}
use Rattle.permit_store.specs.Frames.{StoreView}
use Rattle.permit_history.specs.declared.entry.Entry.{Entry}
use Rattle.permit_history.specs.declared.fault.LineFault.{LineFault}
use Rattle.permit_history.specs.declared.fault.LineFault.TheVariants as line_fault
use Rattle.permit_history.specs.LineRead.{reading_of}
use Rattle.permit_history.specs.Meaning.{meant}
use Rattle.permit_history.specs.Text.{next_line, GivesInTurn}
use Rattle.permit_history.specs.Told.{told_history}
use Rattle.permit_replay.specs.declared.fault.ReplayFault.{ReplayFault}
use Rattle.permit_replay.specs.declared.fault.ReplayFault.TheVariants as replay_fault
use Rattle.permit_replay.specs.declared.replayed.Replayed.{Replayed}
use Rattle.permit_replay.specs.declared.replayed.Replayed.TheVariants as replayed
use Rattle.permit_replay.specs.Histories.{Unsaid, Completes, history_before, history_by}
use Rattle.permit_replay.specs.Against.{against}
use Rattle.permit_replay.specs.Holding.{Holds, FailsAs}

-- the entries are the first of the text, these bytes come after them, and the history that they give is held
pub record HasReplayed (view : PlainStore → StoreView) (begins : Unsaid → Type 0) (bytes : List ℕ) (entries : List Entry) (left : List ℕ) (as_far : Replayed) : Type 0 where
  pub given : GivesInTurn bytes entries left
  pub held : (unsaid : Unsaid) → Completes begins unsaid entries → Holds view unsaid as_far (history_by unsaid entries)
  pub told : (unsaid : Unsaid) → Completes begins unsaid entries → told_history (history_by unsaid entries) ≡ meant (told_history (history_before unsaid)) entries

-- a text is replayed whole: no line is left after its entries, and the store holds the tables of the history that they give
abbrev pub IsReplayed : (PlainStore → StoreView) → (Unsaid → Type 0) → List ℕ → PlainStore → Type 0
IsReplayed view begins bytes store =
    (entries : List Entry) × (left : List ℕ) × HasReplayed view begins bytes entries left (replayed.Open store) × (next_line left ≡ None)

-- the next line is at fault; that memory was refused says nothing of it
abbrev pub IsAtFault : LineFault → List ℕ → Type 0
IsAtFault line_fault.Memory left = ⊤
IsAtFault line_fault.Long left = option_map reading_of (next_line left) ≡ Some (Err line_fault.Long)
IsAtFault line_fault.Syntax left = option_map reading_of (next_line left) ≡ Some (Err line_fault.Syntax)
IsAtFault line_fault.Fields left = option_map reading_of (next_line left) ≡ Some (Err line_fault.Fields)
IsAtFault line_fault.Form left = option_map reading_of (next_line left) ≡ Some (Err line_fault.Form)

-- there are no tables yet
abbrev pub IsShort : Replayed → Type 0
IsShort (replayed.Nothing first) = ⊤
IsShort (replayed.Founded founder) = ⊤
IsShort (replayed.Open store) = ⊥

-- Replaying a text stops at the lowest line that is no entry's or no next entry: the lines before it are those of a history.
-- A text that is said to have no end begins with so many entries that the next lines have no number of 64 bits. Of a source that
-- failed nothing is said.
abbrev pub StopsAt : (PlainStore → StoreView) → (Unsaid → Type 0) → List ℕ → ReplayFault → Type 0
StopsAt view begins bytes (replay_fault.Line line fault) =
    (entries : List Entry) × (left : List ℕ) × (as_far : Replayed) × HasReplayed view begins bytes entries left as_far
    × (line ≡ length entries + 1) × IsAtFault fault left
StopsAt view begins bytes (replay_fault.Entry line why) =
    (entries : List Entry) × (left : List ℕ) × (as_far : Replayed) × HasReplayed view begins bytes entries left as_far
    × (line ≡ length entries + 1)
    × (entry : Entry) × (option_map reading_of (next_line left) ≡ Some (Ok entry))
    × ((unsaid : Unsaid) → Completes begins unsaid (entries ++ entry ∷ [])
    → FailsAs why (against unsaid (history_by unsaid entries) entry.day entry.deed))
StopsAt view begins bytes replay_fault.Short =
    (entries : List Entry) × (left : List ℕ) × (as_far : Replayed) × HasReplayed view begins bytes entries left as_far × (next_line left ≡ None)
    × IsShort as_far
StopsAt view begins bytes replay_fault.Endless =
    (entries : List Entry) × (left : List ℕ) × (as_far : Replayed) × HasReplayed view begins bytes entries left as_far × (2 ^ 64 ≤ length entries + 2)
StopsAt view begins bytes (replay_fault.Source error) = ⊤

-- What the first lines of a text give.
use Rattle.std.specs.Prelude.{◌≡◌, ◌+◌, ℕ, IsTrue, List, [], ◌∷◌, ◌++◌, length, Option, None, Some}
use Rattle.std.specs.Io.BufRead.{drop_through}
use Rattle.std.specs.List.{list_all}
use Rattle.permit_store.specs.declared.plain.PlainStore.{PlainStore}
use Rattle.permit_store.specs.Frames.{StoreView}
use Rattle.permit_history.specs.declared.entry.Entry.{Entry}
use Rattle.permit_history.specs.LineData.{text_of}
use Rattle.permit_history.specs.Text.{next_line}
use Rattle.permit_history.specs.Within.{is_within}
use Rattle.permit_replay.specs.Histories.{Unsaid, Completes}
use Rattle.permit_replay.specs.Texts.{HasReplayed}
use Rattle.permit_replay.specs.declared.replayed.Replayed.{Replayed}
use Rattle.permit_replay.specs.declared.replayed.Replayed.TheVariants as replayed
use Rattle.permit_replay.specs.declared.text.Progress.{Progress}
use Rattle.permit_replay.specs.declared.text.Progress.TheVariants as progress
use Rattle.permit_replay.specs.Prefixes.{AreNext}

-- The entries are the first of the text, and they were replayed.
pub record HasTold (view : PlainStore → StoreView) (begins : Unsaid → Type 0) (bytes : List ℕ) (entries : List Entry) (left : List ℕ) (replayed : Replayed) : Type 0 where
  pub as_far : HasReplayed view begins bytes entries left replayed
  pub next : (unsaid : Unsaid) → Completes begins unsaid entries → AreNext unsaid [] entries
  pub within : IsTrue (list_all is_within entries)

-- So much was replayed before the line of this number: the entries of the lines before it. This is left of the text.
pub record IsAtLine (view : PlainStore → StoreView) (begins : Unsaid → Type 0) (bytes : List ℕ) (remaining : Option (List ℕ)) (line : ℕ) (replayed : Replayed) : Type 0 where
  pub entries : List Entry
  pub left : List ℕ
  pub is_left : remaining ≡ Some left
  pub counted : line ≡ length entries + 1
  pub told : HasTold view begins bytes entries left replayed

-- One more entry was replayed, whose line has so many bytes with its LF, and this is left of the text. Or no line is left.
abbrev pub GoesOn : (PlainStore → StoreView) → (Unsaid → Type 0) → List ℕ → List Entry → List ℕ → Option (List ℕ) → ℕ → Progress → Type 0
GoesOn view begins bytes entries left remaining size (progress.Line more) =
    (entry : Entry) × HasTold view begins bytes (entries ++ entry ∷ []) (drop_through 10 left) more
    × (remaining ≡ Some (drop_through 10 left)) × (length (text_of (entries ++ entry ∷ [])) ≡ length (text_of entries) + size)
GoesOn view begins bytes entries left remaining size (progress.End store) =
    HasTold view begins bytes entries left (replayed.Open store) × (next_line left ≡ None)

-- The text was replayed to its end.
pub record IsToldWhole (view : PlainStore → StoreView) (begins : Unsaid → Type 0) (bytes : List ℕ) (store : PlainStore) : Type 0 where
  pub entries : List Entry
  pub left : List ℕ
  pub told : HasTold view begins bytes entries left (replayed.Open store)
  pub end : next_line left ≡ None

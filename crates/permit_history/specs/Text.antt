-- Reading a text, a line at a time.
use Rattle.std.specs.Prelude.{◌≡◌, ℕ, ◌==◌, List, [], ◌∷◌, if◌then◌else◌, Option, Some, None, option_map, Result, Ok, Err}
use Rattle.std.specs.Io.BufRead.{ends_with_byte, strip_last, drop_through}
use Rattle.permit_history.specs.declared.entry.Entry.{Entry}
use Rattle.permit_history.specs.declared.fault.LineFault.{LineFault}
use Rattle.permit_history.specs.declared.text.TextFault.{TextFault}
use Rattle.permit_history.specs.declared.text.TextFault.TheVariants.{Line, Source}
use Rattle.permit_history.specs.LineRead.{reading_of}
use Rattle.permit_history.specs.Outcome.{IsUnlessMemory}

-- bytes up to an LF, without the LF: none where they end otherwise
abbrev pub whole_line : List ℕ → Option (List ℕ)
whole_line bytes = if ends_with_byte 10 bytes then Some (strip_last 10 bytes) else None

-- the first line of a text, without its LF: none where no LF is left
abbrev pub next_line : List ℕ → Option (List ℕ)
next_line [] = None
next_line (x ∷ later) = if x == 10 then Some [] else option_map (λ line. x ∷ line) (next_line later)

-- what reading the line answers, unless memory ran out
abbrev pub AnswersLine : Result Entry LineFault → Option (List ℕ) → Type 0
AnswersLine result None = ⊥
AnswersLine result (Some line) = IsUnlessMemory result (reading_of line)

-- none where there is no next line, else what reading it answers; a source that failed says nothing
abbrev pub Answers : Result (Option Entry) TextFault → Option (List ℕ) → Type 0
Answers (Ok None) next = next ≡ None
Answers (Ok (Some entry)) next = AnswersLine (Ok entry) next
Answers (Err (Line fault)) next = AnswersLine (Err fault) next
Answers (Err (Source error)) next = Unit {0}

-- a fact for a line at fault
abbrev pub OnBadLine : Result (Option Entry) TextFault → Type 0 → Type 0
OnBadLine (Ok next) fact = Unit {0}
OnBadLine (Err (Line fault)) fact = fact
OnBadLine (Err (Source error)) fact = Unit {0}

-- reading the text a line at a time gives these entries in turn, and leaves these bytes
abbrev pub GivesInTurn : List ℕ → List Entry → List ℕ → Type 0
GivesInTurn bytes [] left = bytes ≡ left
GivesInTurn bytes (entry ∷ later) left =
    (option_map reading_of (next_line bytes) ≡ Some (Ok entry)) × GivesInTurn (drop_through 10 bytes) later left

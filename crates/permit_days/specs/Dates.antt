-- Dates of the proleptic Gregorian calendar, by the numbers of their days.
use Rattle.std.specs.Prelude.{◌≡◌, ℕ, List, [], ◌∷◌, ◌++◌, pos}
use Rattle.jiff.specs.Words.{epoch_day, date_text}
use Rattle.jiff_fmt.specs.Text.{pad2, pad4}
use Rattle.jiff_core.specs.declared.civil.date.Date.{Date}

-- the date is the one whose day has this number, from 1970-01-01
abbrev pub IsDateOf : ℕ → Date → Type 0
IsDateOf day date = epoch_day date ≡ pos day

-- the text is the date of the day, as YYYY-MM-DD
abbrev pub IsTextOf : ℕ → List ℕ → Type 0
IsTextOf day text = (date : Date) × IsDateOf day date × (date_text date ≡ text)

-- a year, month and day as YYYY-MM-DD
abbrev pub written : ℕ → ℕ → ℕ → List ℕ
written year month day = pad4 year ++ 45 ∷ [] ++ pad2 month ++ 45 ∷ [] ++ pad2 day

-- The texts of the registers.
use Rattle.std.specs.Prelude.{ℕ, zero, suc, ◌+◌, ◌-◌, ◌%◌, Bool, not, ◌&&◌, ◌||◌, ◌==◌, nat_lt, if◌then◌else◌, List, [], ◌∷◌, ◌++◌, length, replicate, codes}
use Rattle.std.specs.Prelude.{decimal, Option, None, Some}
use Rattle.permit_base.specs.declared.words.RegisterKind.{RegisterKind}
use Rattle.permit_base.specs.declared.words.RegisterKind.TheVariants.{Files, Deadlines, Inspections}
use Rattle.permit_base.specs.Words.{kind_word, stage_word, timing_word, step_word}
use Rattle.permit_model.specs.Tables.{FileView, next_in_row}

-- ---- dates

-- every fourth year, but of the centuries only every fourth
abbrev pub is_leap : ℕ → Bool
is_leap year = (year % 4 == 0) && (not (year % 100 == 0) || (year % 400 == 0))

-- the days of a year
abbrev pub year_days : ℕ → ℕ
year_days year = if is_leap year then 366 else 365

-- the days of the months of a year
abbrev pub month_days : ℕ → List ℕ
month_days year = 31 ∷ (if is_leap year then 29 else 28) ∷ 31 ∷ 30 ∷ 31 ∷ 30 ∷ 31 ∷ 31 ∷ 30 ∷ 31 ∷ 30 ∷ 31 ∷ []

-- a civil date
pub record Date : Type 0 where
  pub year : ℕ
  pub month : ℕ
  pub day : ℕ

-- the date that is so many days after the first of a month, over the months that are left of the year
abbrev pub date_in_months : ℕ → ℕ → List ℕ → ℕ → Date
date_in_months year month [] days = record { year = year; month = month; day = days + 1 }
date_in_months year month (length_here ∷ rest) days =
    if nat_lt days length_here then record { year = year; month = month; day = days + 1 } else date_in_months year (month + 1) rest (days - length_here)

-- the date that is so many days after 1 January of a year, over at most so many years
abbrev pub date_in_years : ℕ → ℕ → ℕ → Date
date_in_years zero year days = date_in_months year 1 (month_days year) days
date_in_years (suc years) year days =
    if nat_lt days (year_days year) then date_in_months year 1 (month_days year) days else date_in_years years (year + 1) (days - year_days year)

-- the civil date of a day number, which is below 219500 and so before the year 2571
abbrev pub date_of : ℕ → Date
date_of day = date_in_years 600 1970 day

-- ---- columns

-- the text at the right of its column
abbrev pub pad_left : ℕ → List ℕ → List ℕ
pad_left width text = replicate (width - length text) 32 ++ text

-- the text at the left of its column
abbrev pub pad_right : ℕ → List ℕ → List ℕ
pad_right width text = text ++ replicate (width - length text) 32

-- at least so many digits, with zeros in front
abbrev pub padded_number : ℕ → ℕ → List ℕ
padded_number width n = replicate (width - length (decimal n)) 48 ++ decimal n

-- the year in four digits, the month and the day in two
abbrev pub written_date : Date → List ℕ
written_date date = padded_number 4 date.year ++ codes "-" ++ padded_number 2 date.month ++ codes "-" ++ padded_number 2 date.day

-- YYYY-MM-DD
abbrev pub date_text : ℕ → List ℕ
date_text day = written_date (date_of day)

-- the text of a value, or a hyphen for none
abbrev pub or_hyphen : {A : Type 0} → (A → List ℕ) → Option A → List ℕ
or_hyphen text None = codes "-"
or_hyphen text (Some value) = text value

-- a deadline minus a day, with its sign
abbrev pub days_left : ℕ → ℕ → List ℕ
days_left day deadline = if nat_lt deadline day then codes "-" ++ decimal (day - deadline) else decimal (deadline - day)

-- columns with one space between each two, and a line end
abbrev pub line : List (List ℕ) → List ℕ
line [] = 10 ∷ []
line (column ∷ []) = column ++ 10 ∷ []
line (column ∷ next ∷ columns) = column ++ 32 ∷ line (next ∷ columns)

-- ---- registers

-- the line of the column's words
abbrev pub header : RegisterKind → List ℕ
header Files = line (pad_left 5 (codes "FILE") ∷ pad_left 6 (codes "PARCEL") ∷ pad_right 9 (codes "KIND") ∷ pad_right 9 (codes "STAGE")
    ∷ pad_right 6 (codes "TIMING") ∷ pad_right 10 (codes "DEADLINE") ∷ pad_left 13 (codes "CENTS") ∷ [])
header Deadlines = line (pad_left 5 (codes "FILE") ∷ pad_right 9 (codes "STAGE") ∷ pad_right 6 (codes "TIMING") ∷ pad_right 10 (codes "DEADLINE")
    ∷ pad_left 7 (codes "LEFT") ∷ [])
header Inspections = line (pad_left 5 (codes "FILE") ∷ pad_right 7 (codes "NEXT") ∷ pad_right 10 (codes "REQUESTED") ∷ pad_left 9 (codes "INSPECTOR")
    ∷ pad_left 7 (codes "NOTICES") ∷ [])

-- the line of a file
abbrev pub file_line : RegisterKind → ℕ → FileView → List ℕ
file_line Files day file = line
    (pad_left 5 (decimal file.row.id) ∷ pad_left 6 (decimal file.row.state.parcel) ∷ pad_right 9 (kind_word file.row.state.kind)
    ∷ pad_right 9 (stage_word file.stage) ∷ pad_right 6 (timing_word file.timing) ∷ pad_right 10 (or_hyphen date_text file.row.state.deadline)
    ∷ pad_left 13 (decimal file.row.valuation) ∷ [])
file_line Deadlines day file = line
    (pad_left 5 (decimal file.row.id) ∷ pad_right 9 (stage_word file.stage) ∷ pad_right 6 (timing_word file.timing)
    ∷ pad_right 10 (or_hyphen date_text file.row.state.deadline) ∷ pad_left 7 (or_hyphen (days_left day) file.row.state.deadline) ∷ [])
file_line Inspections day file = line
    (pad_left 5 (decimal file.row.id) ∷ pad_right 7 (or_hyphen step_word (next_in_row file.row.state))
    ∷ pad_right 10 (or_hyphen date_text file.row.state.requested)
    ∷ pad_left 9 (or_hyphen decimal file.row.state.inspector) ∷ pad_left 7 (decimal file.row.state.notices) ∷ [])

-- a line for each file
abbrev pub file_lines : RegisterKind → ℕ → List FileView → List ℕ
file_lines kind day [] = []
file_lines kind day (file ∷ files) = file_line kind day file ++ file_lines kind day files

-- the count of the files
abbrev pub foot : ℕ → List ℕ
foot count = codes "files " ++ decimal count ++ 10 ∷ []

-- the header, a line for each file, and the foot
abbrev pub register_text : RegisterKind → ℕ → List FileView → List ℕ
register_text kind day files = header kind ++ file_lines kind day files ++ foot (length files)

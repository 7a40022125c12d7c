-- Dates since 1970 are written by their year, month and day.
use Rattle.std.proofs.Common.{◌≡◌, ◌<◌, ◌<ℤ◌, ◌≤ℤ◌, ◌++◌, [], ◌∷◌, ℕ, ℤ, pos, negsuc, refl, ap, arith}
use Rattle.std.proofs.lemmas.Int.{by_lt_z}
use Rattle.jiff.specs.Words.{date_text}
use Rattle.jiff_core.proofs.SignedLemmas.{signed_arith}
use Rattle.jiff_core.proofs.CalendarLemmas.{day_count-epoch, days_from_civil-day_count, day_count-lt_year, days_in_month_bounds}
use Rattle.jiff_core.proofs.DateLemmas.{civil}
use Rattle.jiff_fmt.specs.Text.{pad2, year_text}
use Rattle.jiff_core.specs.declared.civil.date.Date.{Date}
use Rattle.permit_days.specs.Dates.{written, IsDateOf}

-- a date before 1970 has a negative day number
before : (date : Date) (day : ℕ) → IsDateOf day date → date.year <ℤ pos 1970 → day < 0
before date day is early =
    let less = rw day_count-epoch at (day_count-lt_year date.year date.month date.day (pos 1970) 1 1 (civil date) (omega arith) early) in
    omega (arith, signed_arith, is, less, days_from_civil-day_count date.year date.month date.day)

natural_year : (year : ℤ) → (pos 1970 ≤ℤ year) → year ≤ℤ pos 9999 → (y : ℕ) × (year ≡ pos y) × (y < 10000)
natural_year (pos y) low high = (y, refl, omega (arith, signed_arith, high))
natural_year (negsuc y) low high = absurd (omega (arith, signed_arith, low))

-- the year of a day from 1970-01-01 on is written in four digits
pub year_of : (date : Date) (day : ℕ) → IsDateOf day date → (y : ℕ) × (date.year ≡ pos y) × (y < 10000)
year_of date day is =
    by_lt_z date.year (pos 1970) (λ early. absurd (omega (arith, before date day is early)))
    (λ late. natural_year date.year late (omega (arith, signed_arith, date.year_in)))

-- a date of such a day is written by its year, month and day
pub written_of : (date : Date) (y : ℕ) → date.year ≡ pos y → date_text date ≡ written y date.month date.day
written_of date y is = ap (λ (year : ℤ). year_text year ++ 45 ∷ [] ++ pad2 date.month ++ 45 ∷ [] ++ pad2 date.day) is

-- its month and day have two digits
pub two_digits_of : (date : Date) → (date.month < 100) × (date.day < 100)
two_digits_of date = (omega (arith, date.month_in), omega (arith, date.day_in, days_in_month_bounds date.year date.month))

-- The dates of the definitions are those of the civil calendar.
use Rattle.std.proofs.Common.{◌≡◌, ℕ, zero, suc, ◌+◌, ◌-◌, ◌*◌, ◌<◌, ◌≤◌, ◌⊎◌, inl, inr, List, [], ◌∷◌, ◌++◌, nat_lt, true, false, refl, sym, ap, ◌∙◌, arith, ℤ}
use Rattle.std.proofs.Common.{pos}
use Rattle.std.proofs.lemmas.Bool.Decides.{nat_tests}
use Rattle.jiff_core.specs.declared.civil.date.Date.{Date as CivilDate}
use Rattle.jiff_core.proofs.DateLemmas.{civil}
use Rattle.jiff_fmt.specs.Text.{date_text as civil_text, year_text, pad2}
use Rattle.permit_base.specs.Limits.{latest_deadline}
use Rattle.permit_days.specs.Dates.{IsTextOf}
use Rattle.jiff_core.specs.Calendar.{day_count, days_in_month, IsCivilDate}
use Rattle.jiff_core.proofs.SignedLemmas.{signed_arith}
use Rattle.jiff_core.proofs.CalendarLemmas.{day_count-epoch, days_from_civil-day_count, day_count-next_year, day_count-year_is, day_count-lt_month}
use Rattle.jiff_core.proofs.CalendarLemmas.{day_count-day, day_count-next_month, days_in_month_bounds}
use Rattle.permit_model.specs.Register.{year_days, month_days, date_in_months, padded_number, written_date}
use Rattle.permit_report.specs.CivilDates.{AgreesOnDates}
use Rattle.permit_report.specs.Dates.{date_from, shown_date}
use Rattle.permit_report.proofs.Dates.{date_from_next, date_from_here, year_days_least, shown_date_is}
use Rattle.permit_report.proofs.Padded.{padded_two, padded_four}

-- these are the days of the months of the year from a month on
AreMonths : ℕ → ℕ → List ℕ → Type 0
AreMonths year month [] = month ≡ 13
AreMonths year month (days ∷ others) = (days ≡ days_in_month (pos year) month) × AreMonths year (month + 1) others

all_months : (year : ℕ) → AreMonths year 1 (month_days year)
unfolding AreMonths
all_months year = (refl, (refl, (refl, (refl, (refl, (refl, (refl, (refl, (refl, (refl, (refl, (refl, refl))))))))))))

lt_or_le : (m n : ℕ) → (m < n) ⊎ (n ≤ m)
lt_or_le m n = grind arith

-- a date of the month, or of a later one
of_month : (year month day at n : ℕ) → IsCivilDate (pos year) month day → at ≤ month → 1 ≤ at → n < days_in_month (pos year) at
    → day_count (pos year) month day ≡ day_count (pos year) at 1 + n → (month ≡ at) × (day ≡ n + 1)
of_month year month day at n civil from first less is =
    elim (lt_or_le at month) [
      | inl later ↦
          let last : IsCivilDate (pos year) at (days_in_month (pos year) at) =
          (civil.0, (first, omega (arith, later, civil.1)), (omega (arith, days_in_month_bounds (pos year) at), omega arith)) in
          absurd (omega (
            arith,
            is,
            less,
            day_count-lt_month (pos year) at (days_in_month (pos year) at) month day last civil.2.0 later,
            day_count-day (pos year) at (days_in_month (pos year) at) 1 (omega (arith, days_in_month_bounds (pos year) at)) (omega arith),
          ))
      | inr early ↦
          let same : month ≡ at = omega arith in
          let here = day_count-day (pos year) month day 1 civil.2.0 (omega arith) in
          (same, omega (arith, rw same at here, rw same at is))
    ]

-- a day after the month is of a later one
past : (year month day at n days : ℕ) → days ≡ days_in_month (pos year) at → IsCivilDate (pos year) month day → at ≤ month → 1 ≤ at → days ≤ n
    → day_count (pos year) month day ≡ day_count (pos year) at 1 + n → at + 1 ≤ month
past year month day at n days here civil from first more is =
    elim (lt_or_le at month) [
      | inl later ↦ omega arith
      | inr early ↦
          let same : month ≡ at = omega arith in
          let count = day_count-day (pos year) month day 1 civil.2.0 (omega arith) in
          absurd (omega (arith, rw same at count, rw same at is, rw same at civil.2.1, here, more))
    ]

-- a date by the months that are left of the year
in_months : (year month day at n : ℕ) (left : List ℕ) → AreMonths year at left → IsCivilDate (pos year) month day → at ≤ month → 1 ≤ at
    → day_count (pos year) month day ≡ day_count (pos year) at 1 + n → date_in_months year at left n ≡ record { year = year; month = month; day = day }
unfolding AreMonths
in_months year month day at n [] end civil from first is = absurd (omega (arith, end, civil.1.1))
in_months year month day at n (days ∷ left) (here, others) civil from first is =
    elim (lt_or_le n days) [
      | inl less ↦
          let parts = of_month year month day at n civil from first (omega (arith, here)) is in
          let now : nat_lt n days ≡ true = grind (arith, nat_tests) in
          rw now (ap (λ (m : ℕ). record { year = year; month = m; day = n + 1 }) (sym parts.0)
          ∙ ap (λ (d : ℕ). record { year = year; month = month; day = d }) (sym parts.1))
      | inr more ↦
          let later : nat_lt n days ≡ false = grind (arith, nat_tests) in
          let next = day_count-next_month (pos year) at first in
          let beyond : at + 1 ≤ month = past year month day at n days here civil from first more is in
          rw later (in_months year month day (at + 1) (n - days) left others civil beyond (omega arith) (omega (arith, next, is, here)))
    ]

-- the date from a year on, over at most so many years: its year, and its parts as the definitions give them
FoundFrom : (years year n month day : ℕ) → ℤ → Type 0
FoundFrom years year n month day of = (y : ℕ) × (of ≡ pos y) × (year ≤ y) × (y ≤ year + years)
    × (date_from years year n ≡ record { year = y; month = month; day = day })

-- a date of this year
this_year : (years year n month day : ℕ) (of : ℤ) → IsCivilDate of month day → year + years ≤ 2570 → n < year_days year →
    day_count of month day ≡ day_count (pos year) 1 1 + n
    → FoundFrom years year n month day of
unfolding FoundFrom
this_year years year n month day of civil high less is =
    let same : of ≡ pos year = day_count-year_is (pos year) of month day (omega (arith, signed_arith), omega (arith, signed_arith)) civil (omega (arith, is))
    (omega (arith, is, less)) in (
      year,
      same,
      omega arith,
      omega arith,
      date_from_here years year n less
          ∙ in_months year month day 1 n (month_days year) (all_months year) (rw same at civil) civil.1.0 (omega arith) (rw same at is),
    )

-- a date of this year or of a later one
in_years : (years year n month day : ℕ) (of : ℤ) → IsCivilDate of month day → year + years ≤ 2570 → n < 365 * (years + 1) →
    day_count of month day ≡ day_count (pos year) 1 1 + n
    → FoundFrom years year n month day of
unfolding FoundFrom
in_years zero year n month day of civil high small is = this_year zero year n month day of civil high (omega (arith, year_days_least year)) is
in_years (suc years) year n month day of civil high small is =
    elim (lt_or_le n (year_days year)) [
      | inl less ↦ this_year (suc years) year n month day of civil high less is
      | inr more ↦
          let next = day_count-next_year (pos year) (pos (year + 1)) (omega (arith, signed_arith)) (omega (arith, signed_arith)) in
          let found = in_years years (year + 1) (n - year_days year) month day of civil (omega arith) (omega (arith, year_days_least year))
          (omega (arith, next, is)) in
          let step = date_from_next (suc years) year n (omega arith) more in
          let back : suc years - 1 ≡ years = omega arith in
          (found.0, found.1, omega (arith, found.2), omega (arith, found.3), step ∙ ap (λ k. date_from k (year + 1) (n - year_days year)) back ∙ found.4)
    ]

-- a civil date's text by the parts of the definitions
text_of : (date : CivilDate) (y : ℕ) → date.year ≡ pos y → 1970 ≤ y → y ≤ 2570 →
    civil_text date ≡ written_date (record { year = y; month = date.month; day = date.day })
text_of date y is low high =
    let month = padded_two date.month (omega (arith, date.month_in)) in
    let day = padded_two date.day (omega (arith, date.day_in, days_in_month_bounds date.year date.month)) in
    ap (λ (of : ℤ). year_text of ++ 45 ∷ [] ++ pad2 date.month ++ 45 ∷ [] ++ pad2 date.day) is
    ∙ ap (λ t. t ++ 45 ∷ [] ++ pad2 date.month ++ 45 ∷ [] ++ pad2 date.day) (sym (padded_four y (omega arith) (omega arith)))
    ∙ ap (λ t. padded_number 4 y ++ 45 ∷ [] ++ t ++ 45 ∷ [] ++ pad2 date.day) (sym month)
    ∙ ap (λ t. padded_number 4 y ++ 45 ∷ [] ++ padded_number 2 date.month ++ 45 ∷ [] ++ t) (sym day)

-- up to the last deadline a civil date is that of the definitions
pub shown_dates_agree : (day : ℕ) (text : List ℕ) → day ≤ latest_deadline → IsTextOf day text → text ≡ shown_date day
unfolding FoundFrom
shown_dates_agree day text small (date, is, same) =
    let count : day_count date.year date.month date.day ≡ day_count (pos 1970) 1 1 + day =
    omega (arith, signed_arith, is, day_count-epoch, days_from_civil-day_count date.year date.month date.day) in
    let found = in_years 600 1970 day date.month date.day date.year (civil date) (omega arith) (omega arith) count in
    sym same ∙ text_of date found.0 found.1 found.2 found.3 ∙ sym (shown_date_is day ∙ ap written_date found.4)

pub dates_agree : AgreesOnDates
unfolding shown_date
dates_agree day text small is = shown_dates_agree day text small is

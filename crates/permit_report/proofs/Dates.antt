-- Laws of the dates that the definitions give.
use Rattle.std.proofs.Common.{◌≡◌, ℕ, zero, suc, ◌+◌, ◌-◌, ◌<◌, ◌≤◌, true, false, nat_lt, List, [], ◌∷◌, ◌++◌, Option, Some, None, refl, ap, ◌∙◌, arith}
use Rattle.std.proofs.lemmas.Bool.Decides.{nat_tests}
use Rattle.permit_model.specs.Register.{Date, year_days, month_days, date_in_months, date_text, written_date, padded_number, or_hyphen}
use Rattle.permit_report.specs.Dates.{date_from, shown_date}

-- a day that is of a later year
pub date_from_next : (years year days : ℕ) → 0 < years → year_days year ≤ days →
    date_from years year days ≡ date_from (years - 1) (year + 1) (days - year_days year)
unfolding date_from
date_from_next zero year days h k = absurd (omega arith)
date_from_next (suc n) year days h k =
    let back : suc n - 1 ≡ n = omega arith in
    let later : nat_lt days (year_days year) ≡ false = grind (arith, nat_tests) in
    rw (back, later) refl

-- a day of this year
pub date_from_here : (years year days : ℕ) → days < year_days year → date_from years year days ≡ date_in_months year 1 (month_days year) days
unfolding date_from
date_from_here zero year days h = refl
date_from_here (suc n) year days h =
    let here : nat_lt days (year_days year) ≡ true = grind (arith, nat_tests) in
    rw here refl

-- no year is left
pub date_from_last : (years year last days : ℕ) → year ≡ last → years ≡ 0 → date_from years year days ≡ date_in_months last 1 (month_days last) days
unfolding date_from
date_from_last zero year last days e h = ap (λ y. date_in_months y 1 (month_days y) days) e
date_from_last (suc n) year last days e h = absurd (omega arith)

-- the text of a date by its parts
pub shown_date_is : (day : ℕ) → shown_date day ≡ written_date (date_from 600 1970 day)
unfolding shown_date date_from
shown_date_is day = refl

-- the text of a date or a hyphen
pub or_hyphen_is : (day : Option ℕ) → or_hyphen shown_date day ≡ or_hyphen date_text day
unfolding shown_date
or_hyphen_is None = refl
or_hyphen_is (Some day) = refl

-- the pieces of a date, one after another
pub date_pieces : (date : Date) (a b c d e f : List ℕ) → a ≡ [] → b ≡ a ++ padded_number 4 date.year → c ≡ b ++ 45 ∷ [] → d ≡ c ++ padded_number 2 date.month →
    e ≡ d ++ 45 ∷ []
    → f ≡ e ++ padded_number 2 date.day → f ≡ written_date date
date_pieces date a b c d e f first year dash month dash2 day =
    day ∙ ap (λ x. x ++ padded_number 2 date.day) (dash2 ∙ ap (λ x. x ++ 45 ∷ [])
    (month ∙ ap (λ x. x ++ padded_number 2 date.month) (dash ∙ ap (λ x. x ++ 45 ∷ []) (year ∙ ap (λ x. x ++ padded_number 4 date.year) first))))

pub year_days_least : (year : ℕ) → 365 ≤ year_days year
year_days_least year = grind arith

-- Dates as the definitions give them, kept folded: over 600 years they are long to read.
use Rattle.std.specs.Prelude.{ℕ, List}
use Rattle.permit_model.specs.Register.{Date, date_in_years, date_text}

-- the date that is so many days after 1 January of a year, over at most so many years
unfoldable pub date_from : ℕ → ℕ → ℕ → Date
date_from years year days = date_in_years years year days

-- the date of a day in text
unfoldable pub shown_date : ℕ → List ℕ
shown_date day = date_text day

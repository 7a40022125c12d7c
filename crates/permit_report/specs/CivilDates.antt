-- The dates of the registers and those of the civil calendar.
use Rattle.std.specs.Prelude.{◌≡◌, ◌≤◌, ℕ, List}
use Rattle.permit_base.specs.Limits.{latest_deadline}
use Rattle.permit_days.specs.Dates.{IsTextOf}
use Rattle.permit_model.specs.Register.{date_text}

-- a civil date's text is that of the registers, up to the last deadline
abbrev pub AgreesOnDates : Type 0
AgreesOnDates = (day : ℕ) (text : List ℕ) → day ≤ latest_deadline → IsTextOf day text → text ≡ date_text day

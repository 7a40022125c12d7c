-- A date is the text of one day.
use Rattle.std.proofs.Common.{◌≡◌, ◌∙◌, ℕ, List, Option, None, Some, Ok, IfSome, IsSomeAnd, ap, pos, subst, sym}
use Rattle.jiff_core.proofs.DateLemmas.{epoch_day_same}
use Rattle.jiff_fmt.proofs.RoundTrip.{parse_date-date_text}
use Rattle.jiff_fmt.specs.Temporal.{DateParts, date_parts, parse_date}
use Rattle.permit_days.specs.Dates.{IsTextOf}

-- two days with the same date are the same
pub one_day : (day other : ℕ) (text : List ℕ) → IsTextOf day text → IsTextOf other text → day ≡ other
one_day day other text (date, of, is) (date', of', is') =
    let read : Ok (date_parts date) ≡ Ok (date_parts date') = sym (parse_date-date_text date) ∙ ap parse_date (is ∙ sym is') ∙ parse_date-date_text date' in
    let parts : date_parts date ≡ date_parts date' = cc in
    let same = epoch_day_same date date' (ap (λ (p : DateParts). p.year) parts) (ap (λ (p : DateParts). p.month) parts) (ap (λ (p : DateParts). p.day) parts) in
    let days : pos day ≡ pos other = sym of ∙ same ∙ of' in
    cc

-- what is said of a date's day is said of the day that is kept for it
pub kept_day : (P : ℕ → Type 0) (kept : Option ℕ) (today : ℕ) → IsSomeAnd kept P → IfSome kept (λ day. today ≡ day) → P today
kept_day P (Some day) today is same = subst P (sym same) is
kept_day P None today is same = elim is [ ]

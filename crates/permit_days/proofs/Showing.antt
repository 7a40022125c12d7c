-- A zone's clock shows one date at an instant.
use Rattle.std.proofs.Common.{◌≡◌, ◌∙◌, sym, ℕ, ℤ, pos}
use Rattle.jiff.specs.Words.{epoch_day}
use Rattle.jiff_core.proofs.DateTimeLemmas.{civil_nanos_injective}
use Rattle.jiff_core.specs.declared.civil.datetime.DateTime.{DateTime}
use Rattle.jiff_tz.specs.declared.timezone.TimeZone.{TimeZone}
use Rattle.permit_days.specs.Instants.{IsShownAt, IsDayAt}

-- the day of an instant is that of any date and time that the clock shows then
pub one_day : (zone : TimeZone) (instant : ℤ) (shown : DateTime) (day : ℕ) → IsShownAt zone instant shown → IsDayAt zone instant day →
    pos day ≡ epoch_day shown.date
one_day zone instant shown day here (other, there, is) = sym is ∙ (civil_nanos_injective other shown (there ∙ sym here)).0

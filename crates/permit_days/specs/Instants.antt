-- The civil date that a zone gives an instant.
use Rattle.std.specs.Prelude.{◌≡◌, ◌+ℤ◌, ℕ, ℤ}
use Rattle.jiff.specs.Words.{civil_nanos, nanos_of_seconds, offset_at}
use Rattle.jiff_core.specs.declared.civil.datetime.DateTime.{DateTime}
use Rattle.jiff_tz.specs.declared.timezone.TimeZone.{TimeZone}
use Rattle.permit_days.specs.Dates.{IsDateOf}

-- the zone's clock shows this date and time at the instant, in nanoseconds since 1970-01-01T00:00:00Z
abbrev pub IsShownAt : TimeZone → ℤ → DateTime → Type 0
IsShownAt zone instant shown = civil_nanos shown ≡ instant +ℤ nanos_of_seconds (offset_at zone instant)

-- the day is that of the date which the zone's clock shows at the instant
abbrev pub IsDayAt : TimeZone → ℤ → ℕ → Type 0
IsDayAt zone instant day = (shown : DateTime) × IsShownAt zone instant shown × IsDateOf day shown.date

-- The zone of a run, its day, and why its words give none.
use Rattle.std.specs.Prelude.{◌≡◌, ◌≤◌, ◌⊎◌, ℕ, Bool, false, IsTrue, IsSome, List, Option, None, Some, codes, is_some, option_map, unwrap_or}
use Rattle.jiff.specs.Placed.{IsPosixZone}
use Rattle.jiff_core.specs.declared.timestamp.Timestamp.{Timestamp}
use Rattle.jiff_tz.specs.PosixReader.{read_whole}
use Rattle.jiff_tz.specs.declared.timezone.TimeZone.{TimeZone}
use Rattle.permit_base.specs.Limits.{latest_day}
use Rattle.permit_days.specs.Instants.{IsDayAt}
use Rattle.permit_subcommands.specs.declared.failure.Failure.{Failure}
use Rattle.permit_subcommands.specs.declared.failure.Failure.TheVariants.{Day, Zone}
use Rattle.permit_args.specs.declared.plan.DayWords.{DayWords}

-- a POSIX rule, whole
abbrev pub is_zone : List ℕ → Bool
is_zone rule = is_some (read_whole rule)

-- the rule of the clock's zone; without one it is UTC0
abbrev pub zone_of : DayWords → List ℕ
zone_of words = unwrap_or (option_map (λ s. s.now) words.zone) (codes "UTC0")

-- The day at a reading of the clock: the one that the zone shows then, where the office takes it; where it shows none such, or
-- there is no reading, day 0, on which the office refuses.
abbrev pub IsDayAtReading : TimeZone → Option Timestamp → ℕ → Type 0
IsDayAtReading zone None day = day ≡ 0
IsDayAtReading zone (Some now) day = (IsDayAt zone now.nanosecond day × (day ≤ latest_day))
    ⊎ ((day ≡ 0) × ((shown : ℕ) → shown ≤ latest_day → IsDayAt zone now.nanosecond shown → ⊥))

-- the day at some reading of a clock that doesn't report its readings
abbrev pub IsClockDay : TimeZone → ℕ → Type 0
IsClockDay zone day = (now : Option Timestamp) × IsDayAtReading zone now day

-- the day at a reading that this clock gave
abbrev pub IsDayOn : {R : Type 0} → (R → Option Timestamp → Type 0) → R → TimeZone → ℕ → Type 0
IsDayOn gave clock zone day = (now : Option Timestamp) × gave clock now × IsDayAtReading zone now day

-- the same in the zone of a rule
abbrev pub IsDayOnIn : {R : Type 0} → (R → Option Timestamp → Type 0) → R → List ℕ → ℕ → Type 0
IsDayOnIn gave clock rule day = (zone : TimeZone) × IsPosixZone rule zone × IsDayOn gave clock zone day

-- the zone is read before the date
abbrev pub IsRefusedFor : DayWords → Failure → Type 0
IsRefusedFor words why =
    ((why ≡ Zone) × (is_zone (zone_of words) ≡ false))
    ⊎ ((why ≡ Day) × IsTrue (is_zone (zone_of words)) × IsSome words.day)

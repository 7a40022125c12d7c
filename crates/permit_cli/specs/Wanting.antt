-- Which entries of a history the words want, and how many commands tables lack that are looked for in it.
use Rattle.std.specs.Prelude.{◌≡◌, ◌-◌, ℕ, IfNone, IfSome, IsSomeAnd, None, Option, Some}
use Rattle.permit_base.specs.Limits.{is_object_number, only_if}
use Rattle.permit_days.specs.Dates.{IsTextOf}
use Rattle.permit_args.specs.declared.plan.HistoryWords.{HistoryWords}
use Rattle.permit_chronicle.specs.declared.wanted.Wanted.{Wanted}
use Rattle.permit_replay.specs.declared.opening.placing.Place.{Place}

-- the record of a number that is named, where it may be one's
abbrev pub record_of : Option ℕ → Option ℕ
record_of None = None
record_of (Some number) = only_if is_object_number number

-- those from the day of the date on, and those of the records that are named
pub record Wants (words : HistoryWords) (wanted : Wanted) : Type 0 where
  pub since : IfSome words.since (λ date. IsSomeAnd wanted.since (λ day. IsTextOf day date.now))
  pub always : IfNone words.since (wanted.since ≡ None)
  pub file : wanted.file ≡ record_of words.file
  pub parcel : wanted.parcel ≡ record_of words.parcel
  pub party : wanted.party ≡ record_of words.party

-- how many lines of a text are beyond the tables that have this place in it
abbrev pub lacking_after : Option ℕ → ℕ → ℕ
lacking_after None lines = lines
lacking_after (Some stood) lines = lines - stood

abbrev pub lacking_by : Place → ℕ
lacking_by place = lacking_after place.stood place.lines

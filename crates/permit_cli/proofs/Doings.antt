-- What is reported and said of a plan, by what an office makes of its question.
use Rattle.std.proofs.Common.{◌≡◌, ℕ, Bool, List, Option, None, Some, Result, Ok, Err, refl, sym, subst, true≢false}
use Rattle.std.specs.Prelude.{IfOk, IfSome, IfNone, IsSome}
use Rattle.jiff.specs.Placed.{IsPosixZone}
use Rattle.jiff_core.specs.declared.timestamp.Timestamp.{Timestamp}
use Rattle.jiff_tz.specs.declared.timezone.TimeZone.{TimeZone}
use Rattle.permit_days.specs.Dates.{IsTextOf}
use Rattle.permit_args.specs.declared.plan.ActWords.{ActWords}
use Rattle.permit_args.specs.declared.plan.DayWords.{DayWords}
use Rattle.permit_args.specs.declared.plan.ImportWords.{ImportWords}
use Rattle.permit_subcommands.specs.Days.{IsDayAtReading, IsDayOnIn, zone_of}
use Rattle.permit_subcommands.specs.Tokens.{IsTokenOf}
use Rattle.permit_database.specs.Asked.{AsksImport, AsksRequest}
use Rattle.permit_database.specs.Doing.{IsAnswerTo, SaysCauses, SaysIn, SaysOpening}
use Rattle.permit_database.specs.declared.outcome.Outcome.{Outcome}
use Rattle.permit_database.specs.declared.question.Question.{Question}
use Rattle.permit_database.specs.declared.question.Question.TheVariants as question
use Rattle.permit_database.proofs.Doings.{says_nothing, says_nothing_of}
use Rattle.permit_cli.specs.Doing.{ActsAs, IsClockDayIn, IsRunDay, IsToldOnRunDay, SaysImport}

-- ---- the day

clock_day : {C : Type 0} (gave : C → Option Timestamp → Type 0) (clock : C) (rule : List ℕ) (day : ℕ) → IsDayOnIn gave clock rule day → IsClockDayIn rule day
clock_day gave clock rule day h = (h.0, h.1, (h.2.0, h.2.2))

-- a day that a run's words give
pub run_day : {C : Type 0} (gave : C → Option Timestamp → Type 0) (clock : C) (words : DayWords) (day : ℕ) →
    IfSome words.day (λ date. IsTextOf day date.now) → IfNone words.day (IsDayOnIn gave clock (zone_of words) day) → IsRunDay words day
run_day gave clock words day dated of_clock = (
  dated,
  elim words.day as (λ d. IfNone d (IsDayOnIn gave clock (zone_of words) day) → IfNone d (IsClockDayIn (zone_of words) day)) [
    | None ↦ clock_day gave clock (zone_of words) day
    | Some date ↦ λ _. tt
  ] of_clock,
)

-- the same, whatever is known of the reading that the clock gave
pub run_day_read : (P : Option Timestamp → Type 0) (words : DayWords) (day : ℕ) → IfSome words.day (λ date. IsTextOf day date.now) →
    IfNone words.day ((zone : TimeZone) × IsPosixZone (zone_of words) zone × ((now : Option Timestamp) × P now × IsDayAtReading zone now day)) →
    IsRunDay words day
run_day_read P words day dated of_clock = run_day (λ (_ : ℕ). P) 0 words day dated of_clock

-- ---- what is reported of the words

pub acts_as : {R : Type 0} (words : ActWords) (token : List ℕ) (asked : Question R) (before after : Option (List ℕ)) (done : Outcome) →
    IsTokenOf words.office.token token → AsksRequest words token asked → IsToldOnRunDay words.office.days asked before after done →
    ActsAs words before after done
acts_as words token (question.Serve request) before after done named asks told =
    (token, named, told.0, told.1, subst (λ (bytes : List ℕ). IsAnswerTo told.0 bytes done) asks told.2.0, told.2.1)
acts_as words token (question.List _ _) before after done named asks told = absurd asks
acts_as words token (question.Register _ _) before after done named asks told = absurd asks
acts_as words token (question.Import _ _ _ _) before after done named asks told = absurd asks

-- each result of which something is said has that said of it
pub if_ok : {A E : Type 0} {P Q : A → Type 0} (result : Result A E) → ((a : A) → P a → Q a) → IfOk result P → IfOk result Q
if_ok (Ok a) so said = so a said
if_ok (Err e) so said = tt

-- ---- what is said on standard error on the way

-- nothing, where no office is opened
pub says_no_opening : {H : Type 0} (history : Option H) (held : Option (List ℕ)) → SaysOpening history held held
says_no_opening None held = refl
says_no_opening (Some history) held = (0, refl)

pub says_no_asking : {H R : Type 0} (history : Option H) (asked : Question R) (held : Option (List ℕ)) → SaysIn history asked held held
says_no_asking history asked held = (held, says_no_opening history held, says_nothing_of asked held)

pub says_no_import : {H : Type 0} (history : Option H) (why : Bool) (held : Option (List ℕ)) → SaysImport history why held held
says_no_import history why held = (held, says_no_opening history held, says_nothing why held)

-- what is said of a history that is opened where one is named
pub says_named : {H P : Type 0} (history : Option H) (named : Option P) (before after : Option (List ℕ)) → (IsSome history → IsSome named) →
    SaysOpening history before after → SaysOpening named before after
says_named None None before after so says = says
says_named None (Some paths) before after so says = (0, says)
says_named (Some history) None before after so says = absurd (true≢false (sym (so refl)))
says_named (Some history) (Some paths) before after so says = says

pub says_asked : {H P R : Type 0} (history : Option H) (named : Option P) (asked : Question R) (before after : Option (List ℕ)) →
    (IsSome history → IsSome named) → SaysIn history asked before after → SaysIn named asked before after
says_asked history named asked before after so says = (says.0, says_named history named before says.0 so says.1, says.2)

-- what is said of the questions that the words of a request and of an import make
pub act_says : {H R : Type 0} (words : ActWords) (token : List ℕ) (history : Option H) (asked : Question R) (before after : Option (List ℕ)) →
    AsksRequest words token asked → SaysIn history asked before after → SaysOpening history before after
act_says words token history (question.Serve _) before after asks says = subst (SaysOpening history before) (sym says.2) says.1
act_says words token history (question.List _ _) before after asks says = absurd asks
act_says words token history (question.Register _ _) before after asks says = absurd asks
act_says words token history (question.Import _ _ _ _) before after asks says = absurd asks

pub import_says : {H R : Type 0} (words : ImportWords) (token : List ℕ) (records : R) (history : Option H) (asked : Question R)
    (before after : Option (List ℕ)) → AsksImport words token records asked → SaysIn history asked before after →
    SaysImport history words.office.why before after
import_says words token records history (question.Serve _) before after asks says = absurd asks
import_says words token records history (question.List _ _) before after asks says = absurd asks
import_says words token records history (question.Register _ _) before after asks says = absurd asks
import_says words token records history (question.Import by path from why) before after asks says =
    (says.0, says.1, subst (λ (w : Bool). SaysCauses w says.0 after) asks.3 says.2)

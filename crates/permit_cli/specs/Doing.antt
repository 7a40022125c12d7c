-- What a plan that succeeds comes to, whatever the disk and the clock give.
use Rattle.std.specs.Prelude.{◌≡◌, ◌++◌, ℕ, Bool, List, Option, None, Some, IfSome, IfNone, IsTrue, length, string_bytes}
use Rattle.std.specs.Borrow.{Bor}
use Rattle.jiff.specs.Placed.{IsPosixZone}
use Rattle.jiff_tz.specs.declared.timezone.TimeZone.{TimeZone}
use Rattle.permit_days.specs.Dates.{IsTextOf}
use Rattle.permit_model.specs.Facts.{Facts}
use Rattle.permit_model.specs.Policy.{Policy, decision}
use Rattle.permit_policy.specs.Explained.{explanation}
use Rattle.permit_args.specs.Checks.{TellsDead, decided_line, rules_line, tried_lines}
use Rattle.permit_args.specs.FactsText.{facts_in, pieces}
use Rattle.permit_args.specs.declared.plan.ActWords.{ActWords}
use Rattle.permit_args.specs.declared.plan.Check.{Check}
use Rattle.permit_args.specs.declared.plan.Check.TheVariants as check
use Rattle.permit_args.specs.declared.plan.CheckDbWords.{CheckDbWords}
use Rattle.permit_args.specs.declared.plan.DayWords.{DayWords}
use Rattle.permit_args.specs.declared.plan.HistoryPaths.{HistoryPaths}
use Rattle.permit_args.specs.declared.plan.HistoryWords.{HistoryWords}
use Rattle.permit_args.specs.declared.plan.Plan.{Plan}
use Rattle.permit_args.specs.declared.plan.Plan.TheVariants as plan
use Rattle.permit_args.specs.declared.plan.RegisterWords.{RegisterWords}
use Rattle.permit_args.specs.declared.plan.VerifyWords.{VerifyWords}
use Rattle.permit_subcommands.specs.Days.{IsClockDay, zone_of}
use Rattle.permit_subcommands.specs.Requests.{body_of, request_text}
use Rattle.permit_subcommands.specs.Tokens.{IsTokenOf}
use Rattle.permit_sockets.specs.Listening.{SaysListening}
use Rattle.permit_chronicle.specs.Telling.{WritesLines as TellsLines, no_roles}
use Rattle.permit_chronicle.specs.declared.wanted.Wanted.{Wanted}
use Rattle.permit_database.specs.Doing.{IsAnswerTo, IsBegin, IsCheck, IsImported, IsListing, IsRegistered, IsReplay, IsToldOf, IsUpgrade}
use Rattle.permit_database.specs.Doing.{SaysCauses, SaysOpening}
use Rattle.permit_database.specs.declared.outcome.Outcome.{Outcome}
use Rattle.permit_database.specs.declared.outcome.Outcome.TheVariants as outcome
use Rattle.permit_database.specs.declared.question.Question.{Question}
use Rattle.permit_cli.specs.Wanting.{Wants}

-- the clock's day in the zone of a rule
abbrev pub IsClockDayIn : List ℕ → ℕ → Type 0
IsClockDayIn rule day = (zone : TimeZone) × IsPosixZone rule zone × IsClockDay zone day

-- the day of a run by its words: the date that they name, or else the clock's in their zone
abbrev pub IsRunDay : DayWords → ℕ → Type 0
IsRunDay words day = IfSome words.day (λ date. IsTextOf day date.now) × IfNone words.day (IsClockDayIn (zone_of words) day)

-- what is reported of a question on the day of a run, and written on the way
abbrev pub IsToldOnRunDay : {R : Type 0} → DayWords → Question R → Option (List ℕ) → Option (List ℕ) → Outcome → Type 0
IsToldOnRunDay words asked before after done = (day : ℕ) × IsRunDay words day × IsToldOf day asked before after done

-- ---- what is said on standard error on the way

-- of an import: first how many commands are redone, where there is a history, and then why records are refused
abbrev pub SaysImport : {H : Type 0} → Option H → Bool → Option (List ℕ) → Option (List ℕ) → Type 0
SaysImport history why before after = (opened : Option (List ℕ)) × SaysOpening history before opened × SaysCauses why opened after

-- ---- what is reported of a plan

-- What is said of some policy. What differs from another, and who may do what, is proved as a value; what prints it is only tested.
abbrev pub Says : Check → List ℕ → Type 0
Says check.Rules text = (policy : Policy) × (text ≡ rules_line (length policy))
Says check.Dead text = (policy : Policy) × TellsDead policy text
Says (check.Facts words) text = (policy : Policy) × (facts : Facts) × (facts_in (pieces 44 words.now) ≡ Some facts)
    × (text ≡ tried_lines (explanation policy facts) ++ decided_line (decision policy facts))
Says (check.Against path) text = Unit {0}
Says check.Table text = Unit {0}

abbrev pub IsPolicyChecked : Check → Outcome → Type 0
IsPolicyChecked check (outcome.Checked text) = Says check (string_bytes text)
IsPolicyChecked check _ = ⊥

-- what comes of the words of `act`, for the caller of the token that they name, and of `register`, on the day of the run
abbrev pub ActsAs : ActWords → Option (List ℕ) → Option (List ℕ) → Outcome → Type 0
ActsAs words before after done = (token : List ℕ) × IsTokenOf words.office.token token × (day : ℕ) × IsRunDay words.office.days day
    × IsAnswerTo day (request_text words.method.now words.path.now token (body_of words.body)) done × (after ≡ before)

abbrev pub RegistersAs : RegisterWords → Option (List ℕ) → Option (List ℕ) → Outcome → Type 0
RegistersAs words before after done = (day : ℕ) × IsRunDay words.office.days day × IsRegistered words.kind day before after done

abbrev pub ListsAs : Option (List ℕ) → Option (List ℕ) → Outcome → Type 0
ListsAs before after done = IsListing done × (after ≡ before)

-- the office was served, and the line of its address was written
abbrev pub ServesAs : Option (List ℕ) → Option (List ℕ) → Outcome → Type 0
ServesAs before after done = (done ≡ outcome.Ended) × SaysListening before after

-- what comes of the words of `check-db`: where a history is named, sound tables have the evidence of its lines
abbrev pub ChecksBy : Option HistoryPaths → Bool → Outcome → Type 0
ChecksBy None why done = IsCheck why done
ChecksBy (Some history) why (outcome.SoundBeside desk evidence) = Unit {0}
ChecksBy (Some history) why (outcome.Unsound fault) = IsTrue why
ChecksBy (Some history) why (outcome.Differing place) = IsTrue why
ChecksBy (Some history) why _ = ⊥

abbrev pub ChecksAs : CheckDbWords → Outcome → Type 0
ChecksAs words done = ChecksBy words.history words.why done

-- what is reported of entries that are written: nothing more, or how many of the commands the tables of a database lack that is named
abbrev pub IsTelling : Option (Bor (List ℕ)) → Outcome → Type 0
IsTelling None done = done ≡ outcome.Told
IsTelling (Some db) done = (lacking : ℕ) × (done ≡ outcome.ToldBeside lacking)

-- what comes of the words of `history`: lines that are as they were, where that is asked, and else the entries
abbrev pub TellsBy : Option VerifyWords → HistoryWords → Option (List ℕ) → Option (List ℕ) → Outcome → Type 0
TellsBy (Some verify) words before after done = (done ≡ outcome.Verified verify.lines) × (after ≡ before)
TellsBy None words before after done = IsTelling words.db done × ((wanted : Wanted) × Wants words wanted × TellsLines wanted no_roles before after)

-- what a plan that succeeds comes to, and what is written on the way
abbrev pub ComesTo : Plan → Option (List ℕ) → Option (List ℕ) → Outcome → Type 0
ComesTo plan.Name before after done = (done ≡ outcome.Name) × (after ≡ before)
ComesTo (plan.CheckPolicy words) before after done = IsPolicyChecked words.check done × (after ≡ before)
ComesTo (plan.Init words) before after done = (done ≡ outcome.Founded) × (after ≡ before)
ComesTo (plan.Act words) before after done = ActsAs words before after done
ComesTo (plan.List words) before after done = ListsAs before after done
ComesTo (plan.Register words) before after done = RegistersAs words before after done
ComesTo (plan.Import words) before after done = IsImported before after done
ComesTo (plan.Serve words) before after done = ServesAs before after done
ComesTo (plan.Upgrade words) before after done = IsUpgrade done × (after ≡ before)
ComesTo (plan.CheckDb words) before after done = ChecksAs words done × (after ≡ before)
ComesTo (plan.History words) before after done = TellsBy words.verify words before after done
ComesTo (plan.RenewToken words) before after done = (done ≡ outcome.Renewed words.party) × (after ≡ before)
ComesTo (plan.Replay words) before after done = IsReplay done × (after ≡ before)
ComesTo (plan.BeginHistory words) before after done = IsBegin done × (after ≡ before)

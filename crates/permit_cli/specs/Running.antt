-- How the program's run ends.
use Rattle.std.specs.Prelude.{◌≡◌, ◌⊎◌, ℕ, List, Option, Result, Ok, Err}
use Rattle.permit_args.specs.Faults.{IsNoPlan}
use Rattle.permit_args.specs.Keepings.{named_history}
use Rattle.permit_args.specs.Plans.{IsPlanOf}
use Rattle.permit_args.specs.declared.plan.Plan.{Plan}
use Rattle.permit_args.specs.declared.plan.Plan.TheVariants as plan
use Rattle.permit_args.specs.declared.plan.PlanFault.{PlanFault}
use Rattle.permit_args.specs.declared.plan.ServeWords.{ServeWords}
use Rattle.permit_subcommands.specs.Failures.{failure_status}
use Rattle.permit_subcommands.specs.Printing.{TellsNoPlan}
use Rattle.permit_subcommands.specs.declared.failure.Failure.{Failure}
use Rattle.permit_subcommands.specs.declared.failure.Failure.TheVariants as failure
use Rattle.permit_database.specs.Doing.{SaysOpening, SaysRedone}
use Rattle.permit_database.specs.declared.outcome.Outcome.{Outcome}
use Rattle.permit_cli.specs.Doing.{ComesTo, SaysImport}
use Rattle.permit_cli.specs.Explained.{database_of, FailsWith}
use Rattle.permit_cli.specs.Failing.{FailsAs}
use Rattle.permit_cli.specs.Telling.{IsTold, NamesPlace, SaysEnd, SaysNoPlan, Warns}

-- what is said on standard error while an office is served: that the address isn't this machine's alone, where it isn't, and how
-- many commands were redone, where there is a history
abbrev pub SaysServing : ServeWords → Option (List ℕ) → Option (List ℕ) → Type 0
SaysServing words before after = (warned : Option (List ℕ)) × Warns words.listen.now before warned × SaysOpening (named_history words.history) warned after

-- what is said on standard error while a plan is carried out
abbrev pub SaysFirst : Plan → Option (List ℕ) → Option (List ℕ) → Type 0
SaysFirst (plan.Act words) before after = SaysOpening (named_history words.history) before after
SaysFirst (plan.Import words) before after = SaysImport (named_history words.history) words.office.why before after
SaysFirst (plan.Serve words) before after = SaysServing words before after
SaysFirst (plan.RenewToken words) before after = SaysOpening (named_history words.history) before after
SaysFirst (plan.BeginHistory words) before after = (redone : ℕ) × SaysRedone redone before after
SaysFirst _ before after = after ≡ before

-- a refusal that an answer gives is explained where that is asked for
abbrev pub ExplainsAnswer : Plan → Result ℕ Failure → Option (List ℕ) → Option (List ℕ) → Type 0
ExplainsAnswer planned (Err (failure.Refused why)) before after = FailsWith planned (failure.Refused why) before after
ExplainsAnswer _ _ before after = after ≡ before

-- what is printed of an outcome, on standard output and on standard error
pub record Reports (planned : Plan) (done : Outcome) (before after said saying : Option (List ℕ)) (result : Result ℕ Failure) : Type 0 where
  pub named : Option (List ℕ)
  pub prints : IsTold done before after result
  pub names : NamesPlace (database_of planned) done said named
  pub explains : ExplainsAnswer planned result named saying

-- What a plan came to is printed, and the run ends so; or there is a failure that the plan may come to, which is explained where
-- that is asked for, and with which the run ends. The first two are the output before and after, the next two the errors.
abbrev pub Performs : Plan → (before after said saying : Option (List ℕ)) → Result ℕ Failure → Type 0
Performs planned before after said saying result = (first : Option (List ℕ)) × SaysFirst planned said first
    × (((done : Outcome) × (between : Option (List ℕ)) × ComesTo planned before between done × Reports planned done between after first saying result)
    ⊎ ((why : Failure) × FailsAs planned before after why × FailsWith planned why first saying × (result ≡ Err why)))

-- the status: the one that is given, or the failure's
abbrev pub status_of : Result ℕ Failure → ℕ
status_of (Ok status) = status
status_of (Err why) = failure_status why

-- How the program ends that runs on words: they give no plan, and that is printed; or they give one, which is performed, and
-- a failure's line is printed. The first two are the output before and after, the next two the errors.
abbrev pub RunsAs : List (List ℕ) → (before after said saying : Option (List ℕ)) → ℕ → Type 0
RunsAs words before after said saying status =
    ((fault : PlanFault) × IsNoPlan words fault × TellsNoPlan fault before after status × SaysNoPlan fault said saying status)
    ⊎ ((planned : Plan) × (ended : Result ℕ Failure) × (explained : Option (List ℕ)) × IsPlanOf words planned
    × Performs planned before after said explained ended × SaysEnd ended explained saying × (status ≡ status_of ended))

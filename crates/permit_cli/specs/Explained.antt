-- What is printed on standard error before the line of a failure, where `--why` asks for it.
use Rattle.std.specs.Prelude.{◌≡◌, ◌⊎◌, ◌++◌, ℕ, Bool, true, false, IsTrue, List, [], Option, None, Some, Result, Ok, Err, codes, string_bytes}
use Rattle.std.specs.Borrow.{Bor}
use Rattle.permit_base.specs.declared.words.Edition.{Edition}
use Rattle.permit_base.specs.declared.words.Edition.TheVariants.{First, Second}
use Rattle.permit_import.specs.Headings.{IsHeadingText}
use Rattle.permit_import.specs.declared.refused.RefusalWord.TheVariants.{Syntax}
use Rattle.permit_import.specs.declared.refused.Refused.{Refused}
use Rattle.permit_import.specs.declared.refused.Refused.TheVariants.{Plain}
use Rattle.permit_policy.specs.PolicyText.{meaning, Means}
use Rattle.permit_policy.specs.declared.fault.PolicyError.{PolicyError}
use Rattle.permit_reasons.specs.Reasons.{IsReason}
use Rattle.permit_args.specs.FactsText.{fault_in, facts_reason, pieces}
use Rattle.permit_args.specs.Keepings.{named_history}
use Rattle.permit_args.specs.declared.facts.FactsFault.{FactsFault}
use Rattle.permit_args.specs.declared.plan.Check.{Check}
use Rattle.permit_args.specs.declared.plan.Check.TheVariants as check
use Rattle.permit_args.specs.declared.plan.HistoryPaths.{HistoryPaths}
use Rattle.permit_args.specs.declared.plan.Plan.{Plan}
use Rattle.permit_args.specs.declared.plan.Plan.TheVariants as plan
use Rattle.permit_subcommands.specs.Explaining.{act_reason, day_reason, founder_reason, listen_reason, since_reason, token_reason, unread_reason, zone_reason}
use Rattle.permit_subcommands.specs.Printing.{Prints}
use Rattle.permit_subcommands.specs.declared.explaining.Unread.{Unread}
use Rattle.permit_subcommands.specs.declared.failure.Failure.{Failure}
use Rattle.permit_subcommands.specs.declared.failure.Failure.TheVariants as failure
use Rattle.permit_subcommands.specs.declared.failure.HistoryFailure.{HistoryFailure}
use Rattle.permit_subcommands.specs.declared.failure.HistoryFailure.TheVariants as history
use Rattle.permit_cli.specs.Keeping.{IsBeside}
use Rattle.permit_cli.specs.Reasons.{history_reason, reason_line, IsReasonFor}
use Rattle.permit_cli.specs.Telling.{about}
use Rattle.permit_cli.specs.declared.reason.Reason.{Reason}

-- whether the words of a plan ask why it fails
abbrev pub asks_why : Plan → Bool
asks_why plan.Name = false
asks_why (plan.CheckPolicy words) = words.why
asks_why (plan.Init words) = words.why
asks_why (plan.Act words) = words.office.why
asks_why (plan.List words) = words.office.why
asks_why (plan.Register words) = words.office.why
asks_why (plan.Import words) = words.office.why
asks_why (plan.Serve words) = words.why
asks_why (plan.Upgrade words) = words.why
asks_why (plan.CheckDb words) = words.why
asks_why (plan.RenewToken words) = words.why
asks_why (plan.History words) = words.why
asks_why (plan.Replay words) = words.why
asks_why (plan.BeginHistory words) = words.why

-- which tables a plan wants in its database
abbrev pub wanted_by : Plan → Edition
wanted_by (plan.Upgrade words) = First
wanted_by _ = Second

-- a path that is named; else empty
abbrev pub named_path : Option (Bor (List ℕ)) → List ℕ
named_path None = []
named_path (Some path) = path.now

-- the path of a plan's database; empty where it has none
abbrev pub database_of : Plan → List ℕ
database_of plan.Name = []
database_of (plan.CheckPolicy words) = []
database_of (plan.Init words) = words.db.now
database_of (plan.Act words) = words.office.db.now
database_of (plan.List words) = words.office.db.now
database_of (plan.Register words) = words.office.db.now
database_of (plan.Import words) = words.office.db.now
database_of (plan.Serve words) = words.db.now
database_of (plan.Upgrade words) = words.db.now
database_of (plan.CheckDb words) = words.db.now
database_of (plan.RenewToken words) = words.db.now
database_of (plan.History words) = named_path words.db
database_of (plan.Replay words) = words.db.now
database_of (plan.BeginHistory words) = words.db.now

-- that of its policy
abbrev pub policy_of : Plan → List ℕ
policy_of (plan.CheckPolicy words) = words.policy.now
policy_of (plan.Act words) = words.office.policy.now
policy_of (plan.List words) = words.office.policy.now
policy_of (plan.Register words) = words.office.policy.now
policy_of (plan.Import words) = words.office.policy.now
policy_of (plan.Serve words) = words.policy.now
policy_of _ = []

-- that of the policy that it is compared with
abbrev pub against_in : Check → List ℕ
against_in (check.Against path) = path.now
against_in _ = []

abbrev pub against_of : Plan → List ℕ
against_of (plan.CheckPolicy words) = against_in words.check
against_of _ = []

abbrev pub text_path : Option HistoryPaths → List ℕ
text_path None = []
text_path (Some paths) = paths.text.now

-- that of its history
abbrev pub history_of : Plan → List ℕ
history_of (plan.Init words) = named_path words.history
history_of (plan.Act words) = text_path (named_history words.history)
history_of (plan.Import words) = text_path (named_history words.history)
history_of (plan.Serve words) = text_path (named_history words.history)
history_of (plan.Upgrade words) = named_path (named_history words.history)
history_of (plan.CheckDb words) = text_path words.history
history_of (plan.RenewToken words) = text_path (named_history words.history)
history_of (plan.History words) = words.history.now
history_of (plan.Replay words) = words.history.text.now
history_of (plan.BeginHistory words) = words.history.now
history_of _ = []

-- ---- what is printed, by the output before and after, and how the printing ends

-- how a printing ends
abbrev pub Said : Type 0
Said = Result (Unit {0}) Failure

-- nothing is
abbrev pub IsUnsaid : Option (List ℕ) → Option (List ℕ) → Said → Type 0
IsUnsaid before after said = (said ≡ Ok tt) × (after ≡ before)

-- one line
abbrev pub PrintsLine : List ℕ → Option (List ℕ) → Option (List ℕ) → Said → Type 0
PrintsLine line before after said = Prints (line ++ codes "\n") before after said

abbrev pub PrintsSome : Option (List ℕ) → Option (List ℕ) → Option (List ℕ) → Said → Type 0
PrintsSome None before after said = IsUnsaid before after said
PrintsSome (Some line) before after said = PrintsLine line before after said

-- what is wrong with the text of the policy at a path, which is refused so; or nothing, for want of memory or of the text
abbrev pub ExplainsPolicy : List ℕ → PolicyError → Option (List ℕ) → Option (List ℕ) → Said → Type 0
ExplainsPolicy path error before after said =
    ((text : List ℕ) × (line : List ℕ) × Means (Err error) (meaning text) × IsReason error text line × Prints (about path line) before after said)
    ⊎ IsUnsaid before after said

-- what is found at the path of a file that can't be read, or why a copy of the database can't be used
abbrev pub IsUnreadLine : List ℕ → Type 0
IsUnreadLine line = ((found : Unread) × (line ≡ unread_reason found)) ⊎ ((found : Reason) × (line ≡ reason_line found))

-- why the file at a path can't be read: by one of these lines, or by a first record that is no parcel list's; or nothing, for want of
-- memory
abbrev pub ExplainsFile : List ℕ → Option (List ℕ) → Option (List ℕ) → Said → Type 0
ExplainsFile path before after said =
    ((line : List ℕ) × IsUnreadLine line × Prints (about path line) before after said)
    ⊎ (((left : Option (List ℕ)) × (text : List ℕ) × IsHeadingText left text × Prints (about path text) before after said)
    ⊎ IsUnsaid before after said)

-- which of the six words of some facts is no word of its kind; or nothing, for want of memory
abbrev pub ExplainsFacts : Check → Option (List ℕ) → Option (List ℕ) → Said → Type 0
ExplainsFacts (check.Facts text) before after said =
    ((fault : FactsFault) × (fault_in (pieces 44 text.now) ≡ Some fault) × PrintsLine (facts_reason fault) before after said)
    ⊎ IsUnsaid before after said
ExplainsFacts _ before after said = IsUnsaid before after said

abbrev pub ExplainsFactsOf : Plan → Option (List ℕ) → Option (List ℕ) → Said → Type 0
ExplainsFactsOf (plan.CheckPolicy words) before after said = ExplainsFacts words.check before after said
ExplainsFactsOf _ before after said = IsUnsaid before after said

-- which word of a plan is refused as syntax, and what it takes
abbrev pub syntax_reason : Plan → Option (List ℕ)
syntax_reason (plan.Init words) = Some (founder_reason words.name.now words.token)
syntax_reason (plan.Act words) = Some (act_reason words)
syntax_reason (plan.RenewToken words) = Some (token_reason words.token)
syntax_reason _ = None

abbrev pub ExplainsRefusal : Plan → Refused → Option (List ℕ) → Option (List ℕ) → Said → Type 0
ExplainsRefusal planned (Plain Syntax) before after said = PrintsSome (syntax_reason planned) before after said
ExplainsRefusal planned why before after said = IsUnsaid before after said

-- what is taken as the day that is refused
abbrev pub refused_day : Plan → List ℕ
refused_day (plan.History words) = since_reason
refused_day _ = day_reason

-- whether it begins the history of an office that is there
abbrev pub begins_history : Plan → Bool
begins_history (plan.BeginHistory words) = true
begins_history _ = false

-- Whether what is wrong is so of the history that lies beside the database: it isn't named, or is to be redone before a new one begins.
abbrev pub is_beside : Plan → HistoryFailure → Bool
is_beside planned history.Unused = true
is_beside planned history.Differs = begins_history planned
is_beside planned (history.Line line reason) = begins_history planned
is_beside planned history.Short = begins_history planned
is_beside planned history.Copy = begins_history planned
is_beside planned _ = false

-- what is wrong with the history that lies beside a database; nothing is, for want of memory
abbrev pub ExplainsBeside : List ℕ → HistoryFailure → Option (List ℕ) → Option (List ℕ) → Said → Type 0
ExplainsBeside db why before after said =
    ((path : List ℕ) × IsBeside db path × Prints (about path (history_reason why)) before after said) ⊎ IsUnsaid before after said

-- why a history can't be used
abbrev pub ExplainsHistory : Plan → HistoryFailure → Option (List ℕ) → Option (List ℕ) → Said → Type 0
ExplainsHistory planned why before after said =
    (IsTrue (is_beside planned why) × ExplainsBeside (database_of planned) why before after said)
    ⊎ ((is_beside planned why ≡ false) × Prints (about (history_of planned) (history_reason why)) before after said)

-- what is printed before the line of a failure that is to be explained
abbrev pub Explains : Plan → Failure → Option (List ℕ) → Option (List ℕ) → Said → Type 0
Explains planned (failure.Refused why) before after said = ExplainsRefusal planned why before after said
Explains planned (failure.File path) before after said = ExplainsFile (string_bytes path) before after said
Explains planned (failure.Policy error) before after said = ExplainsPolicy (policy_of planned) error before after said
Explains planned (failure.Against error) before after said = ExplainsPolicy (against_of planned) error before after said
Explains planned failure.Facts before after said = ExplainsFactsOf planned before after said
Explains planned (failure.Database why) before after said =
    (found : Reason) × IsReasonFor (wanted_by planned) why found × Prints (about (database_of planned) (reason_line found)) before after said
Explains planned (failure.History why) before after said = ExplainsHistory planned why before after said
Explains planned failure.Day before after said = PrintsLine (refused_day planned) before after said
Explains planned failure.Zone before after said = PrintsLine zone_reason before after said
Explains planned (failure.Listen address) before after said = PrintsLine listen_reason before after said
Explains planned failure.Output before after said = IsUnsaid before after said

-- what is printed before it, with `--why` and without; a writer that fails is left alone
abbrev pub FailsBy : Bool → Plan → Failure → Option (List ℕ) → Option (List ℕ) → Type 0
FailsBy true planned why before after = (said : Said) × Explains planned why before after said
FailsBy false planned why before after = after ≡ before

abbrev pub FailsWith : Plan → Failure → Option (List ℕ) → Option (List ℕ) → Type 0
FailsWith planned why before after = FailsBy (asks_why planned) planned why before after

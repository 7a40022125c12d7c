-- Which failures each plan may come to, whatever its files, the disk and the clock give, and what is written before them.
use Rattle.std.specs.Prelude.{◌≡◌, ◌⊎◌, ℕ, false, List, Option, None, Err, IsSomeAnd}
use Rattle.std.specs.Borrow.{Bor}
use Rattle.sqlite.specs.declared.error.Error.{Error}
use Rattle.sqlite.specs.declared.error.Error.TheVariants as error
use Rattle.sqlite.specs.declared.error.ErrorCode.TheVariants as code
use Rattle.permit_base.specs.Texts.{is_token}
use Rattle.permit_import.specs.declared.refused.RefusalWord.TheVariants as word
use Rattle.permit_policy.specs.PolicyText.{meaning, Means}
use Rattle.permit_policy.specs.declared.fault.PolicyError.{PolicyError}
use Rattle.permit_store.specs.declared.store.OpenError.TheVariants as opening
use Rattle.permit_args.specs.FactsText.{facts_in, pieces}
use Rattle.permit_args.specs.Keepings.{named_history}
use Rattle.permit_args.specs.declared.plan.ActWords.{ActWords}
use Rattle.permit_args.specs.declared.plan.Check.{Check}
use Rattle.permit_args.specs.declared.plan.Check.TheVariants as check
use Rattle.permit_args.specs.declared.plan.CheckPolicyWords.{CheckPolicyWords}
use Rattle.permit_args.specs.declared.plan.HistoryPaths.{HistoryPaths}
use Rattle.permit_args.specs.declared.plan.HistoryWords.{HistoryWords}
use Rattle.permit_args.specs.declared.plan.ImportWords.{ImportWords}
use Rattle.permit_args.specs.declared.plan.InitWords.{InitWords}
use Rattle.permit_args.specs.declared.plan.Keeping.{Keeping}
use Rattle.permit_args.specs.declared.plan.Keeping.TheVariants.{Unsaid}
use Rattle.permit_args.specs.declared.plan.OfficeWords.{OfficeWords}
use Rattle.permit_args.specs.declared.plan.Plan.{Plan}
use Rattle.permit_args.specs.declared.plan.Plan.TheVariants as plan
use Rattle.permit_args.specs.declared.plan.RegisterWords.{RegisterWords}
use Rattle.permit_args.specs.declared.plan.RenewTokenWords.{RenewTokenWords}
use Rattle.permit_args.specs.declared.plan.ServeWords.{ServeWords}
use Rattle.permit_args.specs.declared.plan.TokenWords.{TokenWords}
use Rattle.permit_subcommands.specs.Days as days
use Rattle.permit_subcommands.specs.Failures.{against_failure, plain, policy_failure, IsUnread}
use Rattle.permit_subcommands.specs.Founders as founders
use Rattle.permit_subcommands.specs.Listings.{WritesSome}
use Rattle.permit_subcommands.specs.Requests as requests
use Rattle.permit_subcommands.specs.Tokens.{IsTokenFailure, IsTokenOf}
use Rattle.permit_subcommands.specs.declared.failure.Failure.{Failure}
use Rattle.permit_subcommands.specs.declared.failure.Failure.TheVariants as failure
use Rattle.permit_subcommands.specs.declared.failure.HistoryFailure.TheVariants as history
use Rattle.permit_chronicle.specs.Telling.{WritesSome as TellsSome, no_roles}
use Rattle.permit_chronicle.specs.declared.wanted.Wanted.{Wanted}
use Rattle.permit_database.specs.Asked.{IsRefusedCaller}
use Rattle.permit_database.specs.Failing.{FailsOf, FailsToListen, IsOfHistory, IsRefusal, IsUnfounded, IsUnrenewed, IsUnusable, StopsImport}
use Rattle.permit_database.specs.Served.{SaysWhere}
use Rattle.permit_database.specs.declared.question.Question.{Question}
use Rattle.permit_cli.specs.Doing.{IsRunDay}
use Rattle.permit_cli.specs.Wanting.{Wants}

-- ---- of a policy

-- no policy is read at a path: the file can't be read, or a text is refused as it has to be; or memory ran out
abbrev pub IsPolicyFailure : List ℕ → Failure → Type 0
IsPolicyFailure path why =
    IsUnread path why ⊎ ((text : List ℕ) × (error : PolicyError) × Means (Err error) (meaning text) × (why ≡ policy_failure error))

-- the same of the policy that another one is compared with
abbrev pub IsAgainstFailure : List ℕ → Failure → Type 0
IsAgainstFailure path why =
    IsUnread path why ⊎ ((text : List ℕ) × (error : PolicyError) × Means (Err error) (meaning text) × (why ≡ against_failure error))

-- the facts to decide by can't be read, or the policy to compare with, where there are any
abbrev pub IsFactsFailure : Check → Failure → Type 0
IsFactsFailure check.Rules why = ⊥
IsFactsFailure check.Dead why = ⊥
IsFactsFailure check.Table why = ⊥
IsFactsFailure (check.Against path) why = IsAgainstFailure path.now why
IsFactsFailure (check.Facts words) why = (why ≡ failure.Facts) × (facts_in (pieces 44 words.now) ≡ None)

-- ---- of a database and of a history

-- why a file isn't opened, by the library's error: memory ran out, it holds no database or a damaged one, or a call failed
abbrev pub opening_failure : Error → Failure
opening_failure (error.SqliteFailure code.OutOfMemory) = plain word.Store
opening_failure (error.SqliteFailure code.NotADatabase) = failure.Database opening.Damaged
opening_failure (error.SqliteFailure code.DatabaseCorrupt) = failure.Database opening.Damaged
opening_failure _ = failure.Database opening.Store

-- the file of a history can't be read, or the copy with which it begins, where one is named
abbrev pub AreUnread : HistoryPaths → Failure → Type 0
AreUnread paths why = IsUnread paths.text.now why ⊎ IsSomeAnd paths.copy (λ copy. IsUnread copy.now why)

-- one of these failures, where a history is named
abbrev pub IsUnkept : Option HistoryPaths → Failure → Type 0
IsUnkept history why = IsSomeAnd history (λ paths. IsOfHistory why ⊎ AreUnread paths why)

-- nothing is said of a history, and one lies beside the database, or memory ran out for its path
abbrev pub IsUnused : {H : Type 0} → Keeping H → Failure → Type 0
IsUnused Unsaid why = (why ≡ failure.History history.Unused) ⊎ (why ≡ plain word.Store)
IsUnused _ why = ⊥

-- the history that is named can't be used, or one lies beside the database that isn't
abbrev pub IsUnkeptBy : Keeping HistoryPaths → Failure → Type 0
IsUnkeptBy keeping why = IsUnkept (named_history keeping) why ⊎ IsUnused keeping why

-- a history that lies beside the database, or the copy with which it begins, can't be used, or memory ran out
abbrev pub IsUnfinished : Failure → Type 0
IsUnfinished why = IsOfHistory why ⊎ ((paths : HistoryPaths) × AreUnread paths why)

-- no history is begun in a file, where one is named
abbrev pub IsUnbegun : Option (Bor (List ℕ)) → Failure → Type 0
IsUnbegun history why = IsSomeAnd history (λ path. IsOfHistory why)

-- ---- of what is asked of an office

-- the words name no office that can be asked: no day, no policy or no database
abbrev pub IsUnasked : OfficeWords → Failure → Type 0
IsUnasked words why = days.IsRefusedFor words.days why ⊎ (IsPolicyFailure words.policy.now why ⊎ IsUnusable why)

-- there is none, or one fails that is asked on the day of the run
abbrev pub FailsOnRunDay : {R : Type 0} → OfficeWords → Question R → Option (List ℕ) → Option (List ℕ) → Failure → Type 0
FailsOnRunDay words asked before after why =
    (IsUnasked words why × (after ≡ before)) ⊎ ((day : ℕ) × IsRunDay words.days day × FailsOf day asked before after why)

-- the same of one with its history, where one is named, which may be unusable
abbrev pub FailsToAsk : {R : Type 0} → OfficeWords → Keeping HistoryPaths → Question R → Option (List ℕ) → Option (List ℕ) → Failure → Type 0
FailsToAsk words keeping asked before after why =
    FailsOnRunDay words asked before after why ⊎ (IsUnkeptBy keeping why × (after ≡ before))

-- the words name no caller: no token can be read, or what they name is none
abbrev pub IsUncalled : TokenWords → Failure → Type 0
IsUncalled words why = IsTokenFailure words why ⊎ ((token : List ℕ) × IsTokenOf words token × IsRefusedCaller token why)

-- they make no request: no token can be read, or the method, the path or the token is refused
abbrev pub IsUnmade : ActWords → Failure → Type 0
IsUnmade words why =
    IsTokenFailure words.office.token why ⊎ ((token : List ℕ) × IsTokenOf words.office.token token × requests.IsRefusedFor words token why)

-- ---- of each plan

-- memory ran out, or the policy isn't read, or the facts to decide by
abbrev pub FailsToCheck : CheckPolicyWords → Failure → Type 0
FailsToCheck words why = (why ≡ plain word.Store) ⊎ (IsPolicyFailure words.policy.now why ⊎ IsFactsFailure words.check why)

-- the words name no founder: the name, the token or the day is refused
abbrev pub IsNoFounder : InitWords → Failure → Type 0
IsNoFounder words why = (token : List ℕ) × (day : ℕ) × IsTokenOf words.token token × IsRunDay words.days day
    × founders.IsRefusedFor words.name.now token day why

-- there is no day, no token or no founder, or none is founded
abbrev pub FailsToFound : InitWords → Failure → Type 0
FailsToFound words why =
    days.IsRefusedFor words.days why ⊎ (IsTokenFailure words.token why ⊎ (IsNoFounder words why ⊎ IsUnfounded why))

abbrev pub FailsToAct : ActWords → Failure → Type 0
FailsToAct words why = IsUnmade words why ⊎ IsUnasked words.office why

abbrev pub FailsToList : OfficeWords → Failure → Type 0
FailsToList words why = IsUncalled words.token why ⊎ (IsUnasked words why ⊎ IsRefusal why)

-- nothing is written, or a prefix of a register of the day of the run
abbrev pub FailsToRegister : RegisterWords → Option (List ℕ) → Option (List ℕ) → Failure → Type 0
FailsToRegister words before after why = ((IsUncalled words.office.token why ⊎ IsUnasked words.office why) × (after ≡ before))
    ⊎ ((day : ℕ) × IsRunDay words.office.days day × WritesSome words.kind day before after (Err why))

-- nothing is written, or the lines of an import that stops
abbrev pub FailsToImport : ImportWords → Option (List ℕ) → Option (List ℕ) → Failure → Type 0
FailsToImport words before after why =
    ((IsUncalled words.office.token why ⊎ (IsUnread words.file.now why ⊎ IsUnasked words.office why)) × (after ≡ before))
    ⊎ StopsImport words.file.now before after why

abbrev pub FailsToServe : ServeWords → Failure → Type 0
FailsToServe words why = days.IsRefusedFor words.days why
    ⊎ (IsPolicyFailure words.policy.now why ⊎ (IsUnusable why ⊎ FailsToListen words.listen.now why))

-- what the words name is no token
abbrev pub IsNoToken : TokenWords → Failure → Type 0
IsNoToken words why = (token : List ℕ) × IsTokenOf words token × (why ≡ plain word.Syntax) × (is_token token ≡ false)

-- no token can be read, or what the words name is none, or it isn't renewed
abbrev pub FailsToRenew : RenewTokenWords → Failure → Type 0
FailsToRenew words why = IsTokenFailure words.token why ⊎ (IsNoToken words.token why ⊎ IsUnrenewed why)

-- the day from which on entries are wanted is refused, or the history can't be read, or the output fails, or the database that is named
-- can't be used
abbrev pub FailsToTell : HistoryWords → Failure → Type 0
FailsToTell words why = (why ≡ failure.Day) ⊎ ((IsOfHistory why ⊎ IsUnread words.history.now why)
    ⊎ ((why ≡ failure.Output) ⊎ IsSomeAnd words.db (λ db. IsUnusable why)))

-- which failures a plan may come to, and what is written before
abbrev pub FailsAs : Plan → Option (List ℕ) → Option (List ℕ) → Failure → Type 0
FailsAs plan.Name before after why = ⊥
FailsAs (plan.CheckPolicy words) before after why = FailsToCheck words why × (after ≡ before)
FailsAs (plan.Init words) before after why = (FailsToFound words why ⊎ IsUnbegun words.history why) × (after ≡ before)
FailsAs (plan.Act words) before after why = (FailsToAct words why ⊎ IsUnkeptBy words.history why) × (after ≡ before)
FailsAs (plan.List words) before after why = FailsToList words.office why × (after ≡ before)
FailsAs (plan.Register words) before after why = FailsToRegister words before after why
FailsAs (plan.Import words) before after why = FailsToImport words before after why ⊎ (IsUnkeptBy words.history why × (after ≡ before))
FailsAs (plan.Serve words) before after why = (FailsToServe words why ⊎ IsUnkeptBy words.history why) × SaysWhere before after (Err why)
FailsAs (plan.Upgrade words) before after why =
    (IsUnusable why ⊎ (IsUnbegun (named_history words.history) why ⊎ IsUnused words.history why)) × (after ≡ before)
FailsAs (plan.CheckDb words) before after why = (IsUnusable why ⊎ IsUnkept words.history why) × (after ≡ before)
FailsAs (plan.History words) before after why =
    FailsToTell words why × ((after ≡ before) ⊎ ((wanted : Wanted) × Wants words wanted × TellsSome wanted no_roles before after))
FailsAs (plan.RenewToken words) before after why = (FailsToRenew words why ⊎ IsUnkeptBy words.history why) × (after ≡ before)
FailsAs (plan.Replay words) before after why = (IsUnusable why ⊎ (IsOfHistory why ⊎ AreUnread words.history why)) × (after ≡ before)
FailsAs (plan.BeginHistory words) before after why = (IsUnusable why ⊎ IsUnfinished why) × (after ≡ before)

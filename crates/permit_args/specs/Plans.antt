-- The subcommands as simple commands of the command line library, and the plan that their words give.
use Rattle.std.specs.Prelude.{IsSome, ◌≡◌, List, [], ◌∷◌, ℕ, Bool, Option, None, Some, true, false, IfSome, IsSomeAnd, IsTrue, MatchOption, option_map, codes, if◌then◌else◌}
use Rattle.std.specs.Prelude.{decimal, bytes_eq, option_and_then, slice_get, ◌≤◌, ◌^◌, ◌-◌}
use Rattle.std.specs.Option.{option_map_or}
use Rattle.std.specs.Borrow.{Bor}
use Rattle.clap.specs.Simple.{new_shape}
use Rattle.clap.specs.Words.{App, Row, Rule, Text, all_of, fault_of, first_of, matches_of, new_app, new_rule, with_rule, with_subcommand}
use Rattle.clap.specs.declared.builder.ArgAction.TheVariants.{Set, SetTrue}
use Rattle.permit_base.specs.Limits.{most_records}
use Rattle.permit_base.specs.Stages.{is_file_stage}
use Rattle.permit_base.specs.Texts.{is_digest}
use Rattle.permit_base.specs.Words.{register_word, stage_word}
use Rattle.permit_base.specs.declared.words.Stage.{Stage}
use Rattle.permit_args.specs.Keepings.{is_without, named_history}
use Rattle.permit_args.specs.declared.plan.Check.{Check}
use Rattle.permit_args.specs.declared.plan.Check.TheVariants.{Rules, Dead, Facts, Against, Table}
use Rattle.permit_args.specs.declared.plan.Choice.{Choice}
use Rattle.permit_args.specs.declared.plan.Choice.TheVariants as choice
use Rattle.permit_args.specs.declared.plan.Clash.{Clash}
use Rattle.permit_args.specs.declared.plan.Clash.TheVariants as clash
use Rattle.permit_policy.specs.declared.pages.TableForm.{TableForm}
use Rattle.permit_policy.specs.declared.pages.TableForm.TheVariants as form
use Rattle.permit_args.specs.declared.plan.BeginHistoryWords.{BeginHistoryWords}
use Rattle.permit_args.specs.declared.plan.CheckPolicyWords.{CheckPolicyWords}
use Rattle.permit_args.specs.declared.plan.CheckDbWords.{CheckDbWords}
use Rattle.permit_args.specs.declared.plan.DayWords.{DayWords}
use Rattle.permit_args.specs.declared.plan.HistoryPaths.{HistoryPaths}
use Rattle.permit_args.specs.declared.plan.HistoryWords.{HistoryWords}
use Rattle.permit_args.specs.declared.plan.InitWords.{InitWords}
use Rattle.permit_args.specs.declared.plan.Keeping.{Keeping}
use Rattle.permit_args.specs.declared.plan.RenewTokenWords.{RenewTokenWords}
use Rattle.permit_args.specs.declared.plan.ReplayWords.{ReplayWords}
use Rattle.permit_args.specs.declared.plan.TokenWords.{TokenWords}
use Rattle.permit_args.specs.declared.plan.TokenWords.TheVariants.{Given, File}
use Rattle.permit_args.specs.declared.plan.OfficeWords.{OfficeWords}
use Rattle.permit_args.specs.declared.plan.ActWords.{ActWords}
use Rattle.permit_args.specs.declared.plan.ListWords.{ListWords}
use Rattle.permit_args.specs.declared.plan.RegisterWords.{RegisterWords}
use Rattle.permit_args.specs.declared.plan.ImportWords.{ImportWords}
use Rattle.permit_args.specs.declared.plan.ServeWords.{ServeWords}
use Rattle.permit_args.specs.declared.plan.UpgradeWords.{UpgradeWords}
use Rattle.permit_args.specs.declared.plan.VerifyWords.{VerifyWords}
use Rattle.permit_args.specs.declared.plan.Subcommand.{Subcommand}
use Rattle.permit_args.specs.declared.plan.Subcommand.TheVariants.{CheckPolicy, Init, Act, List as List', Register, Import, Serve, Upgrade, CheckDb, RenewToken, History, Replay, BeginHistory}
use Rattle.permit_args.specs.declared.plan.Plan.{Plan}
use Rattle.permit_args.specs.declared.plan.Plan.TheVariants as plan

-- ---- the subcommands

-- an option with a value, which may be left out
abbrev pub optional_option : Text → Rule
optional_option name = record (new_rule name) { long = Some name; value_names = 1; action = Some Set }

-- an option with a value, which has to be there
abbrev pub required_option : Text → Rule
required_option name = record (optional_option name) { required = true }

-- an option with two values, which may be left out
abbrev pub pair_option : Text → Rule
pair_option name = record (optional_option name) { value_names = 2 }

-- an option without a value
abbrev pub flag : Text → Rule
flag name = record (new_rule name) { long = Some name; action = Some SetTrue }

-- a word by its place, which may be left out
abbrev pub optional_word : Text → Rule
optional_word name = record (new_rule name) { value_names = 1; action = Some Set }

-- a word by its place, which has to be there
abbrev pub required_word : Text → Rule
required_word name = record (optional_word name) { required = true }

-- the option for which failures are explained
abbrev pub with_why : App → App
with_why app = with_rule app (flag (codes "why"))

-- the option for the file of the office's history, where one is kept
abbrev pub with_history : App → App
with_history app = with_rule app (optional_option (codes "history"))

-- the option for the copy of the database with which a history begins
abbrev pub with_copy : App → App
with_copy app = with_rule app (optional_option (codes "from"))

-- the options for the files of the office's history, where one is kept
abbrev pub with_paths : App → App
with_paths app = with_copy (with_history app)

-- the option for which the office is used without a history
abbrev pub with_no_history : App → App
with_no_history app = with_rule app (flag (codes "no-history"))

-- the options for the history that the office keeps, or for none
abbrev pub with_keeping : App → App
with_keeping app = with_no_history (with_paths app)

-- the options for the day
abbrev pub with_days : App → App
with_days app = with_rule (with_rule app (optional_option (codes "day"))) (optional_option (codes "zone"))

-- the options for a token, of which one is to be given
abbrev pub with_token : App → App
with_token app = with_rule (with_rule app (optional_option (codes "token"))) (optional_option (codes "token-file"))

-- the options for the office that is asked
abbrev pub with_office : App → App
with_office app = with_why (with_days (with_token (with_rule (with_rule app (required_option (codes "db"))) (required_option (codes "policy")))))

-- the subcommand that reads a policy
unfoldable pub check_policy_app : App
check_policy_app = with_why (with_rule (with_rule (with_rule (with_rule (with_rule (with_rule (with_rule (new_app (codes "check-policy"))
    (required_option (codes "policy"))) (flag (codes "dead"))) (optional_option (codes "facts"))) (optional_option (codes "against")))
    (flag (codes "table"))) (flag (codes "csv"))) (flag (codes "markdown")))

-- the subcommand that founds an office
unfoldable pub init_app : App
init_app = with_why (with_history (with_days (with_token (with_rule (with_rule (new_app (codes "init"))
    (required_option (codes "db"))) (required_option (codes "name"))))))

-- the subcommand that has the office serve one request
unfoldable pub act_app : App
act_app = with_rule (with_rule (with_rule (with_keeping (with_office (new_app (codes "act"))))
    (required_word (codes "method"))) (required_word (codes "path"))) (optional_word (codes "body"))

-- the subcommand that lists files
unfoldable pub list_app : App
list_app = with_rule (with_office (new_app (codes "list"))) (optional_option (codes "stage"))

-- the subcommand that writes a register
unfoldable pub register_app : App
register_app = with_rule (with_office (new_app (codes "register"))) (required_word (codes "name"))

-- the subcommand that imports parcels
unfoldable pub import_app : App
import_app = with_rule (with_keeping (with_office (new_app (codes "import")))) (required_word (codes "file"))

-- the subcommand that serves the office
unfoldable pub serve_app : App
serve_app = with_why (with_rule (with_rule (with_rule (with_keeping (with_days (with_rule (with_rule (new_app (codes "serve"))
    (required_option (codes "db"))) (required_option (codes "policy")))))
    (required_option (codes "listen"))) (optional_option (codes "workers"))) (optional_option (codes "connections")))

-- the subcommand that says whether a database's tables are sound
unfoldable pub check_db_app : App
check_db_app = with_why (with_copy (with_rule (with_rule (new_app (codes "check-db"))
    (required_option (codes "db"))) (optional_option (codes "history"))))

-- the subcommand that upgrades a database
unfoldable pub upgrade_app : App
upgrade_app = with_why (with_no_history (with_rule (with_rule (new_app (codes "upgrade")) (required_option (codes "db"))) (optional_option (codes "history"))))

-- the subcommand that replaces a party's token
unfoldable pub renew_token_app : App
renew_token_app = with_why (with_keeping (with_token (with_rule (with_rule (new_app (codes "renew-token"))
    (required_option (codes "db"))) (required_option (codes "party")))))

-- the subcommand that prints the entries of a history
unfoldable pub history_app : App
history_app = with_why (with_rule (with_rule (with_rule (with_rule (with_rule (with_rule (with_rule (new_app (codes "history"))
    (required_option (codes "history"))) (optional_option (codes "file"))) (optional_option (codes "parcel")))
    (optional_option (codes "party"))) (optional_option (codes "since"))) (optional_option (codes "db"))) (pair_option (codes "verify")))

-- the subcommand that makes an office of a history, or brings one further to it
unfoldable pub replay_app : App
replay_app = with_why (with_rule (with_copy (with_rule (with_rule (new_app (codes "replay"))
    (required_option (codes "db"))) (required_option (codes "history")))) (flag (codes "settled")))

-- the subcommand that begins the history of an office
unfoldable pub begin_history_app : App
begin_history_app = with_why (with_rule (with_rule (new_app (codes "begin-history"))
    (required_option (codes "db"))) (required_option (codes "history")))

-- ---- what their words give

-- the text of a value that may be left out
abbrev pub text_of : Option (Bor Text) → Option Text
text_of = option_map (λ s. s.now)

-- the day and the zone that were found
pub record IsDaysOf (rows : List Row) (words : DayWords) : Type 0 where
  pub day : first_of (codes "day") rows ≡ text_of words.day
  pub zone : first_of (codes "zone") rows ≡ text_of words.zone

-- whether an option without a value was given
abbrev pub is_given : Text → List Row → Bool
is_given name rows = option_map_or (bytes_eq (codes "true")) (first_of name rows) false

-- the token that was found, or its file, and not both
abbrev pub IsTokenOf : List Row → TokenWords → Type 0
IsTokenOf rows (Given text) = (first_of (codes "token") rows ≡ Some text.now) × (first_of (codes "token-file") rows ≡ None)
IsTokenOf rows (File path) = (first_of (codes "token") rows ≡ None) × (first_of (codes "token-file") rows ≡ Some path.now)

-- the files of a history that were found: there is a copy only beside the text
abbrev pub ArePathsOf : List Row → Option HistoryPaths → Type 0
ArePathsOf rows None = (first_of (codes "history") rows ≡ None) × (first_of (codes "from") rows ≡ None)
ArePathsOf rows (Some paths) = (first_of (codes "history") rows ≡ Some paths.text.now) × (first_of (codes "from") rows ≡ text_of paths.copy)

-- the file of a history that was found, where one was
abbrev pub IsPathOf : List Row → Option (Bor Text) → Type 0
IsPathOf rows path = first_of (codes "history") rows ≡ text_of path

-- the history that was found, and whether none is to be kept: not both
pub record IsKeepingOf {H : Type 0} (IsNamed : Option H → Type 0) (rows : List Row) (keeping : Keeping H) : Type 0 where
  pub named : IsNamed (named_history keeping)
  pub without : is_given (codes "no-history") rows ≡ is_without keeping

-- what is said of a policy by what is given of four words: one at most is there, and without any its rules are counted
abbrev pub IsCheckBy : Bool → Option Text → Option Text → Bool → Check → Type 0
IsCheckBy dead facts against table Rules = (dead ≡ false) × (facts ≡ None) × (against ≡ None) × (table ≡ false)
IsCheckBy dead facts against table Dead = (dead ≡ true) × (facts ≡ None) × (against ≡ None) × (table ≡ false)
IsCheckBy dead facts against table (Facts text) = (dead ≡ false) × (facts ≡ Some text.now) × (against ≡ None) × (table ≡ false)
IsCheckBy dead facts against table (Against path) = (dead ≡ false) × (facts ≡ None) × (against ≡ Some path.now) × (table ≡ false)
IsCheckBy dead facts against table Table = (dead ≡ false) × (facts ≡ None) × (against ≡ None) × (table ≡ true)

-- two of them are there
abbrev pub Clashes : Bool → Option Text → Option Text → Bool → Clash → Type 0
Clashes dead facts against table clash.DeadFacts = (dead ≡ true) × IsSome facts
Clashes dead facts against table clash.DeadAgainst = (dead ≡ true) × IsSome against
Clashes dead facts against table clash.DeadTable = (dead ≡ true) × (table ≡ true)
Clashes dead facts against table clash.FactsAgainst = IsSome facts × IsSome against
Clashes dead facts against table clash.FactsTable = IsSome facts × (table ≡ true)
Clashes dead facts against table clash.AgainstTable = IsSome against × (table ≡ true)

abbrev pub IsCheckOf : List Row → Check → Type 0
IsCheckOf rows check =
    IsCheckBy (is_given (codes "dead") rows) (first_of (codes "facts") rows) (first_of (codes "against") rows) (is_given (codes "table") rows) check

-- how a table is written
abbrev pub IsFormOf : List Row → TableForm → Type 0
IsFormOf rows form.Columns = (is_given (codes "csv") rows ≡ false) × (is_given (codes "markdown") rows ≡ false)
IsFormOf rows form.Csv = (is_given (codes "csv") rows ≡ true) × (is_given (codes "markdown") rows ≡ false) × (is_given (codes "table") rows ≡ true)
IsFormOf rows form.Markdown = (is_given (codes "csv") rows ≡ false) × (is_given (codes "markdown") rows ≡ true) × (is_given (codes "table") rows ≡ true)

-- the policy that was found, and what is said of it
pub record IsCheckPolicyOf (rows : List Row) (words : CheckPolicyWords) : Type 0 where
  pub policy : first_of (codes "policy") rows ≡ Some words.policy.now
  pub check : IsCheckOf rows words.check
  pub form : IsFormOf rows words.form
  pub why : is_given (codes "why") rows ≡ words.why

-- the founding that was found
pub record IsInitOf (rows : List Row) (words : InitWords) : Type 0 where
  pub db : first_of (codes "db") rows ≡ Some words.db.now
  pub name : first_of (codes "name") rows ≡ Some words.name.now
  pub token : IsTokenOf rows words.token
  pub days : IsDaysOf rows words.days
  pub history : first_of (codes "history") rows ≡ text_of words.history
  pub why : is_given (codes "why") rows ≡ words.why

-- the office that was found
pub record IsOfficeOf (rows : List Row) (words : OfficeWords) : Type 0 where
  pub db : first_of (codes "db") rows ≡ Some words.db.now
  pub policy : first_of (codes "policy") rows ≡ Some words.policy.now
  pub token : IsTokenOf rows words.token
  pub days : IsDaysOf rows words.days
  pub why : is_given (codes "why") rows ≡ words.why

-- the request that was found
pub record IsActOf (rows : List Row) (words : ActWords) : Type 0 where
  pub office : IsOfficeOf rows words.office
  pub history : IsKeepingOf (ArePathsOf rows) rows words.history
  pub method : first_of (codes "method") rows ≡ Some words.method.now
  pub path : first_of (codes "path") rows ≡ Some words.path.now
  pub body : first_of (codes "body") rows ≡ text_of words.body

-- the stage that was found, by its word, is one that a file can be in
pub record IsStageOf (rows : List Row) (stage : Option Stage) : Type 0 where
  pub word : first_of (codes "stage") rows ≡ option_map stage_word stage
  pub within : IfSome stage (λ s. IsTrue (is_file_stage s))

-- the listing that was found
pub record IsListOf (rows : List Row) (words : ListWords) : Type 0 where
  pub office : IsOfficeOf rows words.office
  pub stage : IsStageOf rows words.stage

-- the register that was found, by its word
pub record IsRegisterOf (rows : List Row) (words : RegisterWords) : Type 0 where
  pub office : IsOfficeOf rows words.office
  pub name : first_of (codes "name") rows ≡ Some (register_word words.kind)

-- the import that was found
pub record IsImportOf (rows : List Row) (words : ImportWords) : Type 0 where
  pub office : IsOfficeOf rows words.office
  pub history : IsKeepingOf (ArePathsOf rows) rows words.history
  pub file : first_of (codes "file") rows ≡ Some words.file.now

-- a number from 1 to the greatest, as it is written out
pub record IsCountOf (greatest : ℕ) (text : Text) (n : ℕ) : Type 0 where
  pub spelled : text ≡ decimal n
  pub least : 1 ≤ n
  pub most : n ≤ greatest

-- the most workers that serve at once
abbrev pub most_workers : ℕ
most_workers = 8

-- the most connections after which a worker ends
abbrev pub most_connections : ℕ
most_connections = 99999

-- workers as many as are given, and without the option 4
abbrev pub IsWorkersOf : List Row → ℕ → Type 0
IsWorkersOf rows workers = MatchOption (first_of (codes "workers") rows) (workers ≡ 4) (λ text. IsCountOf most_workers text workers)

-- a number that may be left out: of the text that was found, or of none
abbrev pub IsOptionalCountOf : ℕ → Option Text → Option ℕ → Type 0
IsOptionalCountOf greatest found None = found ≡ None
IsOptionalCountOf greatest found (Some n) = IsSomeAnd found (λ text. IsCountOf greatest text n)

-- a worker ends after the connections that are given, and without the option never
abbrev pub IsConnectionsOf : List Row → Option ℕ → Type 0
IsConnectionsOf rows connections = IsOptionalCountOf most_connections (first_of (codes "connections") rows) connections

-- the serving that was found
pub record IsServeOf (rows : List Row) (words : ServeWords) : Type 0 where
  pub db : first_of (codes "db") rows ≡ Some words.db.now
  pub policy : first_of (codes "policy") rows ≡ Some words.policy.now
  pub days : IsDaysOf rows words.days
  pub history : IsKeepingOf (ArePathsOf rows) rows words.history
  pub listen : first_of (codes "listen") rows ≡ Some words.listen.now
  pub workers : IsWorkersOf rows words.workers
  pub connections : IsConnectionsOf rows words.connections
  pub why : is_given (codes "why") rows ≡ words.why

-- the upgrade that was found
pub record IsUpgradeOf (rows : List Row) (words : UpgradeWords) : Type 0 where
  pub db : first_of (codes "db") rows ≡ Some words.db.now
  pub history : IsKeepingOf (IsPathOf rows) rows words.history
  pub why : is_given (codes "why") rows ≡ words.why

-- the check that was found
pub record IsCheckDbOf (rows : List Row) (words : CheckDbWords) : Type 0 where
  pub db : first_of (codes "db") rows ≡ Some words.db.now
  pub history : ArePathsOf rows words.history
  pub why : is_given (codes "why") rows ≡ words.why

-- the party's number that was found
abbrev pub IsPartyOf : List Row → ℕ → Type 0
IsPartyOf rows party = IsSomeAnd (first_of (codes "party") rows) (λ text. IsCountOf most_records text party)

-- the renewal that was found
pub record IsRenewalOf (rows : List Row) (words : RenewTokenWords) : Type 0 where
  pub db : first_of (codes "db") rows ≡ Some words.db.now
  pub party : IsPartyOf rows words.party
  pub token : IsTokenOf rows words.token
  pub history : IsKeepingOf (ArePathsOf rows) rows words.history
  pub why : is_given (codes "why") rows ≡ words.why

-- the number of a record that was found under a name, where one was
abbrev pub IsRecordOf : Text → List Row → Option ℕ → Type 0
IsRecordOf name rows number = IsOptionalCountOf most_records (first_of name rows) number

-- the most lines of a history that are counted
abbrev pub most_lines : ℕ
most_lines = 2 ^ 64 - 1

-- the second value of an option that takes two
abbrev pub second_of : Text → List Row → Option Text
second_of name rows = option_and_then (λ values. slice_get values 1) (all_of name rows)

-- a digest, as it is written out
pub record IsDigestOf (text digest : Text) : Type 0 where
  pub same : digest ≡ text
  pub within : IsTrue (is_digest digest)

-- the name of an option that chooses entries of a history, or names the database beside it
abbrev pub choice_name : Choice → Text
choice_name choice.File = codes "file"
choice_name choice.Parcel = codes "parcel"
choice_name choice.Party = codes "party"
choice_name choice.Since = codes "since"
choice_name choice.Db = codes "db"

-- no option chooses entries or names the database
abbrev pub ChoosesNone : List Row → Type 0
ChoosesNone rows = (choice : Choice) → first_of (choice_name choice) rows ≡ None

-- the lines that were found and the digest that they are to have, and no option that chooses entries or names the database
pub record IsVerifyBy (rows : List Row) (words : VerifyWords) : Type 0 where
  pub lines : IsSomeAnd (first_of (codes "verify") rows) (λ text. IsCountOf most_lines text words.lines)
  pub sha256 : IsSomeAnd (second_of (codes "verify") rows) (λ text. IsDigestOf text words.sha256)
  pub alone : ChoosesNone rows

abbrev pub IsVerifyOf : List Row → Option VerifyWords → Type 0
IsVerifyOf rows None = first_of (codes "verify") rows ≡ None
IsVerifyOf rows (Some words) = IsVerifyBy rows words

-- the entries that were found
pub record IsHistoryOf (rows : List Row) (words : HistoryWords) : Type 0 where
  pub history : first_of (codes "history") rows ≡ Some words.history.now
  pub file : IsRecordOf (codes "file") rows words.file
  pub parcel : IsRecordOf (codes "parcel") rows words.parcel
  pub party : IsRecordOf (codes "party") rows words.party
  pub since : first_of (codes "since") rows ≡ text_of words.since
  pub db : first_of (codes "db") rows ≡ text_of words.db
  pub verify : IsVerifyOf rows words.verify
  pub why : is_given (codes "why") rows ≡ words.why

-- the replay that was found
pub record IsReplayOf (rows : List Row) (words : ReplayWords) : Type 0 where
  pub db : first_of (codes "db") rows ≡ Some words.db.now
  pub history : ArePathsOf rows (Some words.history)
  pub settled : is_given (codes "settled") rows ≡ words.settled
  pub why : is_given (codes "why") rows ≡ words.why

-- the words to begin a history that were found
pub record IsBeginningOf (rows : List Row) (words : BeginHistoryWords) : Type 0 where
  pub db : first_of (codes "db") rows ≡ Some words.db.now
  pub history : first_of (codes "history") rows ≡ Some words.history.now
  pub why : is_given (codes "why") rows ≡ words.why

-- ---- the plan

-- the program without its subcommands
abbrev pub bare_app : App
bare_app = record {
  top = record (new_shape (codes "permit")) { no_binary_name = true; has_version = true; subcommand_required = true };
  subs = [];
}

-- the program with the subcommands that read a policy, found an office and ask it
unfoldable pub asking_app : App
asking_app = with_subcommand (with_subcommand (with_subcommand (with_subcommand (with_subcommand bare_app check_policy_app.top) init_app.top)
    act_app.top) list_app.top) register_app.top

-- and those that bring in parcels, serve an office and look after its database
unfoldable pub serving_app : App
serving_app = with_subcommand (with_subcommand (with_subcommand (with_subcommand asking_app import_app.top) serve_app.top) upgrade_app.top)
    check_db_app.top

-- the program itself, which reads the words where the first names no subcommand
unfoldable pub program_app : App
program_app = with_subcommand (with_subcommand (with_subcommand (with_subcommand serving_app renew_token_app.top) history_app.top)
    replay_app.top) begin_history_app.top

-- the subcommand of a word
abbrev pub named : Text → Option Subcommand
named word =
    if bytes_eq word (codes "check-policy") then Some CheckPolicy else (
    if bytes_eq word (codes "init") then Some Init else (
    if bytes_eq word (codes "act") then Some Act else (
    if bytes_eq word (codes "list") then Some List' else (
    if bytes_eq word (codes "register") then Some Register else (
    if bytes_eq word (codes "import") then Some Import else (
    if bytes_eq word (codes "serve") then Some Serve else (
    if bytes_eq word (codes "upgrade") then Some Upgrade else (
    if bytes_eq word (codes "check-db") then Some CheckDb else (
    if bytes_eq word (codes "renew-token") then Some RenewToken else (
    if bytes_eq word (codes "history") then Some History else (
    if bytes_eq word (codes "replay") then Some Replay else (
    if bytes_eq word (codes "begin-history") then Some BeginHistory else None))))))))))))

-- the subcommand that the first word names
abbrev pub subcommand_in : List Text → Option Subcommand
subcommand_in [] = None
subcommand_in (word ∷ words) = named word

-- what reads the words: the subcommand, or the program where they name none
abbrev pub reader_of : Option Subcommand → App
reader_of None = program_app
reader_of (Some CheckPolicy) = check_policy_app
reader_of (Some Init) = init_app
reader_of (Some Act) = act_app
reader_of (Some List') = list_app
reader_of (Some Register) = register_app
reader_of (Some Import) = import_app
reader_of (Some Serve) = serve_app
reader_of (Some Upgrade) = upgrade_app
reader_of (Some CheckDb) = check_db_app
reader_of (Some RenewToken) = renew_token_app
reader_of (Some History) = history_app
reader_of (Some Replay) = replay_app
reader_of (Some BeginHistory) = begin_history_app

-- the subcommand that a plan is of; the plan to print the name is of none
abbrev pub subcommand_of : Plan → Option Subcommand
subcommand_of plan.Name = None
subcommand_of (plan.CheckPolicy checked) = Some CheckPolicy
subcommand_of (plan.Init founding) = Some Init
subcommand_of (plan.Act request) = Some Act
subcommand_of (plan.List listing) = Some List'
subcommand_of (plan.Register register) = Some Register
subcommand_of (plan.Import imported) = Some Import
subcommand_of (plan.Serve serving) = Some Serve
subcommand_of (plan.Upgrade upgrade) = Some Upgrade
subcommand_of (plan.CheckDb check) = Some CheckDb
subcommand_of (plan.RenewToken renewal) = Some RenewToken
subcommand_of (plan.History entries) = Some History
subcommand_of (plan.Replay replay) = Some Replay
subcommand_of (plan.BeginHistory beginning) = Some BeginHistory

-- the plan is what was found
abbrev pub IsFoundAs : List Row → Plan → Type 0
IsFoundAs rows plan.Name = ⊥
IsFoundAs rows (plan.CheckPolicy checked) = IsCheckPolicyOf rows checked
IsFoundAs rows (plan.Init founding) = IsInitOf rows founding
IsFoundAs rows (plan.Act request) = IsActOf rows request
IsFoundAs rows (plan.List listing) = IsListOf rows listing
IsFoundAs rows (plan.Register register) = IsRegisterOf rows register
IsFoundAs rows (plan.Import imported) = IsImportOf rows imported
IsFoundAs rows (plan.Serve serving) = IsServeOf rows serving
IsFoundAs rows (plan.Upgrade upgrade) = IsUpgradeOf rows upgrade
IsFoundAs rows (plan.CheckDb check) = IsCheckDbOf rows check
IsFoundAs rows (plan.RenewToken renewal) = IsRenewalOf rows renewal
IsFoundAs rows (plan.History entries) = IsHistoryOf rows entries
IsFoundAs rows (plan.Replay replay) = IsReplayOf rows replay
IsFoundAs rows (plan.BeginHistory beginning) = IsBeginningOf rows beginning

-- the plan is one of the subcommand, and what was found
pub record IsPlanIn (s : Subcommand) (rows : List Row) (plan : Plan) : Type 0 where
  pub own : subcommand_of plan ≡ Some s
  pub found : IsFoundAs rows plan

-- the library takes the words: it finds no fault in them
abbrev pub IsTaken : App → List Text → Type 0
IsTaken app words = fault_of app words ≡ []

-- the first word names the subcommand, which takes the words, and the plan is what is found there
pub record IsPlanBy (s : Subcommand) (words : List Text) (plan : Plan) : Type 0 where
  pub named : subcommand_in words ≡ Some s
  pub taken : IsTaken (reader_of (Some s)) words
  pub found : IsFoundAs (matches_of (reader_of (Some s)) words) plan

-- the plan is one by its subcommand; no words give the plan to print the name
abbrev pub IsPlanFor : Option Subcommand → List Text → Plan → Type 0
IsPlanFor None words plan = words ≡ []
IsPlanFor (Some s) words plan = IsPlanBy s words plan

abbrev pub IsPlanOf : List Text → Plan → Type 0
IsPlanOf words plan = IsPlanFor (subcommand_of plan) words plan

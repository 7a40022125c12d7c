-- Which line blames what is wrong with the words of a subcommand, where the command line library takes them.
use Rattle.std.specs.Prelude.{◌≡◌, ◌⊎◌, ℕ, List, Option, None, Some, IsSome, IsTrue, codes, false, true}
use Rattle.permit_args.specs.declared.plan.Choice.{Choice}
use Rattle.permit_args.specs.declared.plan.Clash.{Clash}
use Rattle.clap.specs.Words.{Row, Text, first_of}
use Rattle.permit_base.specs.Limits.{most_records}
use Rattle.permit_base.specs.Stages.{is_file_stage}
use Rattle.permit_base.specs.Words.{register_word, stage_word}
use Rattle.permit_base.specs.declared.words.RegisterKind.{RegisterKind}
use Rattle.permit_base.specs.declared.words.Stage.{Stage}
use Rattle.permit_args.specs.Lines.{choice_line, invalid_line, missing_line, no_digest_line, no_history_line, no_subcommand_line, no_table_line, no_token_line, record_name, clash_line, two_forms_line, two_histories_line, two_tokens_line}
use Rattle.permit_args.specs.Plans.{choice_name, is_given, most_connections, most_lines, most_workers, second_of, Clashes, IsCountOf, IsDigestOf}
use Rattle.permit_args.specs.declared.places.Place.{Place}
use Rattle.permit_args.specs.declared.places.Place.TheVariants as place
use Rattle.permit_args.specs.declared.places.RecordKind.TheVariants as kind
use Rattle.permit_args.specs.declared.plan.Subcommand.{Subcommand}
use Rattle.permit_args.specs.declared.plan.Subcommand.TheVariants.{CheckPolicy, Init, Act, List as List', Register, Import, Serve, Upgrade, CheckDb, RenewToken, History, Replay, BeginHistory}

-- the option or the word of a place
abbrev pub name_of : Place → Text
name_of place.Stage = codes "stage"
name_of place.Register = codes "name"
name_of place.Workers = codes "workers"
name_of place.Connections = codes "connections"
name_of (place.Record k) = record_name k
name_of place.Lines = codes "verify"
name_of place.Sha256 = codes "verify"

-- what is found at a place
abbrev pub found_at : Place → List Row → Option Text
found_at place.Sha256 rows = second_of (codes "verify") rows
found_at place rows = first_of (name_of place) rows

-- the text is taken at the place
abbrev pub IsTakenAt : Place → Text → Type 0
IsTakenAt place.Stage text = (stage : Stage) × (stage_word stage ≡ text) × IsTrue (is_file_stage stage)
IsTakenAt place.Register text = (kind : RegisterKind) × (register_word kind ≡ text)
IsTakenAt place.Workers text = (n : ℕ) × IsCountOf most_workers text n
IsTakenAt place.Connections text = (n : ℕ) × IsCountOf most_connections text n
IsTakenAt (place.Record k) text = (n : ℕ) × IsCountOf most_records text n
IsTakenAt place.Lines text = (n : ℕ) × IsCountOf most_lines text n
IsTakenAt place.Sha256 text = (digest : Text) × IsDigestOf text digest

-- what is found at the place isn't taken there, and the line says so
pub record BlamesPlace (place : Place) (rows : List Row) (line : Text) : Type 0 where
  pub value : Text
  pub found : found_at place rows ≡ Some value
  pub refused : IsTakenAt place value → ⊥
  pub said : line ≡ invalid_line place value

-- the option or the word has to be there and isn't
abbrev pub Misses : Text → List Row → Text → Type 0
Misses name rows line = (first_of name rows ≡ None) × (line ≡ missing_line name)

-- neither a token nor its file is there, or both are
abbrev pub BlamesToken : List Row → Text → Type 0
BlamesToken rows line =
    ((first_of (codes "token") rows ≡ None) × (first_of (codes "token-file") rows ≡ None) × (line ≡ no_token_line))
    ⊎ (IsSome (first_of (codes "token") rows) × IsSome (first_of (codes "token-file") rows) × (line ≡ two_tokens_line))

-- two of the words are there that ask for something to be said of a policy
abbrev pub BlamesCheck : List Row → Text → Type 0
BlamesCheck rows line =
    (two : Clash) × Clashes (is_given (codes "dead") rows) (first_of (codes "facts") rows) (first_of (codes "against") rows) (is_given (codes "table") rows) two
    × (line ≡ clash_line two)

-- both forms of a table are there, or one without the table
abbrev pub BlamesForm : List Row → Text → Type 0
BlamesForm rows line =
    ((is_given (codes "csv") rows ≡ true) × (is_given (codes "markdown") rows ≡ true) × (line ≡ two_forms_line))
    ⊎ ((is_given (codes "table") rows ≡ false) × (((is_given (codes "csv") rows ≡ true) ⊎ (is_given (codes "markdown") rows ≡ true)) × (line ≡ no_table_line)))

-- a copy of the database is there, and the history that begins with it isn't
abbrev pub BlamesPaths : List Row → Text → Type 0
BlamesPaths rows line = (first_of (codes "history") rows ≡ None) × IsSome (first_of (codes "from") rows) × (line ≡ no_history_line)

-- a history is there, and that none is to be kept
abbrev pub BlamesBoth : List Row → Text → Type 0
BlamesBoth rows line = IsSome (first_of (codes "history") rows) × (is_given (codes "no-history") rows ≡ true) × (line ≡ two_histories_line)

abbrev pub BlamesKeeping : List Row → Text → Type 0
BlamesKeeping rows line = BlamesPaths rows line ⊎ BlamesBoth rows line

-- the lines to verify are there without their digest
abbrev pub MissesDigest : List Row → Text → Type 0
MissesDigest rows line = IsSome (first_of (codes "verify") rows) × (second_of (codes "verify") rows ≡ None) × (line ≡ no_digest_line)

-- the lines to verify are there, and an option that chooses entries or names the database
abbrev pub BlamesChoice : List Row → Text → Type 0
BlamesChoice rows line =
    (choice : Choice) × IsSome (first_of (codes "verify") rows) × IsSome (first_of (choice_name choice) rows) × (line ≡ choice_line choice)

abbrev pub BlamesVerify : List Row → Text → Type 0
BlamesVerify rows line = MissesDigest rows line ⊎ (BlamesChoice rows line ⊎ (BlamesPlace place.Lines rows line ⊎ BlamesPlace place.Sha256 rows line))

abbrev pub BlamesOffice : List Row → Text → Type 0
BlamesOffice rows line = Misses (codes "db") rows line ⊎ (Misses (codes "policy") rows line ⊎ BlamesToken rows line)

-- what can be wrong with the words of each subcommand; of none, that none is named
abbrev pub Blames : Option Subcommand → List Row → Text → Type 0
Blames None rows line = line ≡ no_subcommand_line
Blames (Some CheckPolicy) rows line = Misses (codes "policy") rows line ⊎ (BlamesCheck rows line ⊎ BlamesForm rows line)
Blames (Some Init) rows line = Misses (codes "db") rows line ⊎ (Misses (codes "name") rows line ⊎ BlamesToken rows line)
Blames (Some Act) rows line = BlamesOffice rows line ⊎ (Misses (codes "method") rows line ⊎ (Misses (codes "path") rows line
    ⊎ BlamesKeeping rows line))
Blames (Some List') rows line = BlamesOffice rows line ⊎ BlamesPlace place.Stage rows line
Blames (Some Register) rows line = BlamesOffice rows line ⊎ (Misses (codes "name") rows line ⊎ BlamesPlace place.Register rows line)
Blames (Some Import) rows line = BlamesOffice rows line ⊎ (Misses (codes "file") rows line ⊎ BlamesKeeping rows line)
Blames (Some Serve) rows line = Misses (codes "db") rows line ⊎ (Misses (codes "policy") rows line ⊎ (Misses (codes "listen") rows line
    ⊎ (BlamesPlace place.Workers rows line ⊎ (BlamesPlace place.Connections rows line ⊎ BlamesKeeping rows line))))
Blames (Some Upgrade) rows line = Misses (codes "db") rows line ⊎ BlamesBoth rows line
Blames (Some CheckDb) rows line = Misses (codes "db") rows line ⊎ BlamesPaths rows line
Blames (Some RenewToken) rows line = Misses (codes "db") rows line ⊎ (Misses (codes "party") rows line
    ⊎ (BlamesPlace (place.Record kind.Party) rows line ⊎ (BlamesToken rows line ⊎ BlamesKeeping rows line)))
Blames (Some History) rows line = Misses (codes "history") rows line ⊎ (BlamesPlace (place.Record kind.File) rows line
    ⊎ (BlamesPlace (place.Record kind.Parcel) rows line ⊎ (BlamesPlace (place.Record kind.Party) rows line ⊎ BlamesVerify rows line)))
Blames (Some Replay) rows line = Misses (codes "db") rows line ⊎ Misses (codes "history") rows line
Blames (Some BeginHistory) rows line = Misses (codes "db") rows line ⊎ Misses (codes "history") rows line

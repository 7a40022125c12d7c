-- The lines that say what is wrong with words, where the program finds it and not the command line library.
use Rattle.std.specs.Prelude.{◌++◌, codes}
use Rattle.clap.specs.Words.{Text}
use Rattle.permit_args.specs.declared.places.Place.{Place}
use Rattle.permit_args.specs.declared.places.Place.TheVariants.{Stage, Register, Workers, Connections, Record, Lines, Sha256}
use Rattle.permit_args.specs.declared.places.RecordKind.{RecordKind}
use Rattle.permit_args.specs.declared.places.RecordKind.TheVariants.{File, Parcel, Party}
use Rattle.permit_args.specs.declared.plan.Choice.{Choice}
use Rattle.permit_args.specs.declared.plan.Choice.TheVariants as choice
use Rattle.permit_args.specs.declared.plan.Clash.{Clash}
use Rattle.permit_args.specs.declared.plan.Clash.TheVariants as clash

-- the option for the number of a file, a parcel or a party
abbrev pub record_name : RecordKind → Text
record_name File = codes "file"
record_name Parcel = codes "parcel"
record_name Party = codes "party"

-- how the line names a place
abbrev pub place_name : Place → Text
place_name Stage = codes "--stage <STAGE>"
place_name Register = codes "<NAME>"
place_name Workers = codes "--workers <WORKERS>"
place_name Connections = codes "--connections <CONNECTIONS>"
place_name (Record File) = codes "--file <N>"
place_name (Record Parcel) = codes "--parcel <N>"
place_name (Record Party) = codes "--party <N>"
place_name Lines = codes "--verify <LINES> <SHA256>"
place_name Sha256 = codes "--verify <LINES> <SHA256>"

-- what is taken at a place
abbrev pub taken_text : Place → Text
taken_text Stage = codes "filed, review, returned, approved, rejected, issued, working, revoked, finaled, certified, abandoned, lapsed"
taken_text Register = codes "files, deadlines, inspections"
taken_text Workers = codes "1 to 8"
taken_text Connections = codes "1 to 99999"
taken_text (Record kind) = codes "1 to 99999"
taken_text Lines = codes "1 to 18446744073709551615"
taken_text Sha256 = codes "64 hexadecimal digits in lower case"

-- an example of it
abbrev pub example_text : Place → Text
example_text Stage = codes "--stage review"
example_text Register = codes "permit register deadlines"
example_text Workers = codes "--workers 4"
example_text Connections = codes "--connections 1000"
example_text (Record File) = codes "--file 1"
example_text (Record Parcel) = codes "--parcel 1"
example_text (Record Party) = codes "--party 2"
example_text Lines = codes "--verify 2 8e4ad670e47c05c90fb8f36b87c0fe417be8208108542e1427ab9f9bc402fc97"
example_text Sha256 = codes "--verify 2 8e4ad670e47c05c90fb8f36b87c0fe417be8208108542e1427ab9f9bc402fc97"

-- a value isn't taken at its place
abbrev pub invalid_line : Place → Text → Text
invalid_line place value =
    codes "error: invalid value '" ++ (value ++ (codes "' for '" ++ (place_name place ++ (codes "'\n  [possible values: " ++ (taken_text place
    ++ (codes "]\n  [example: " ++ (example_text place ++ codes "]\n\nFor more information, try '--help'.\n")))))))

-- a value that has to be there isn't
abbrev pub missing_line : Text → Text
missing_line name = codes "error: no " ++ (name ++ codes " is given\n")

-- neither a token nor its file
abbrev pub no_token_line : Text
no_token_line =
    codes "error: the following required arguments were not provided:\n  <--token <TOKEN>|--token-file <PATH>>\n\nFor more information, try '--help'.\n"

-- a token and a file
abbrev pub two_tokens_line : Text
two_tokens_line = codes "error: the argument '--token <TOKEN>' cannot be used with '--token-file <PATH>'\n\nFor more information, try '--help'.\n"

-- two words of which each asks for something else to be said of a policy
abbrev pub clash_line : Clash → Text
clash_line clash.DeadFacts = codes "error: the argument '--dead' cannot be used with '--facts <FACTS>'\n\nFor more information, try '--help'.\n"
clash_line clash.DeadAgainst = codes "error: the argument '--dead' cannot be used with '--against <OLD>'\n\nFor more information, try '--help'.\n"
clash_line clash.DeadTable = codes "error: the argument '--dead' cannot be used with '--table'\n\nFor more information, try '--help'.\n"
clash_line clash.FactsAgainst = codes "error: the argument '--facts <FACTS>' cannot be used with '--against <OLD>'\n\nFor more information, try '--help'.\n"
clash_line clash.FactsTable = codes "error: the argument '--facts <FACTS>' cannot be used with '--table'\n\nFor more information, try '--help'.\n"
clash_line clash.AgainstTable = codes "error: the argument '--against <OLD>' cannot be used with '--table'\n\nFor more information, try '--help'.\n"

-- two forms of a table
abbrev pub two_forms_line : Text
two_forms_line = codes "error: the argument '--csv' cannot be used with '--markdown'\n\nFor more information, try '--help'.\n"

-- a form without a table
abbrev pub no_table_line : Text
no_table_line = codes "error: the following required arguments were not provided:\n  --table\n\nFor more information, try '--help'.\n"

-- a copy of the database without the history that begins with it
abbrev pub no_history_line : Text
no_history_line = codes "error: the following required arguments were not provided:\n  --history <PATH>\n\nFor more information, try '--help'.\n"

-- a history, and that none is to be kept
abbrev pub two_histories_line : Text
two_histories_line = codes "error: the argument '--history <PATH>' cannot be used with '--no-history'\n\nFor more information, try '--help'.\n"

-- lines to verify without their digest
abbrev pub no_digest_line : Text
no_digest_line = codes "error: 2 values required for '--verify <LINES> <SHA256>' but 1 was provided\n\nFor more information, try '--help'.\n"

-- lines to verify, and an option that chooses entries or names the database
abbrev pub choice_line : Choice → Text
choice_line choice.File = codes "error: the argument '--file <N>' cannot be used with '--verify <LINES> <SHA256>'\n\nFor more information, try '--help'.\n"
choice_line choice.Parcel = codes "error: the argument '--parcel <N>' cannot be used with '--verify <LINES> <SHA256>'\n\nFor more information, try '--help'.\n"
choice_line choice.Party = codes "error: the argument '--party <N>' cannot be used with '--verify <LINES> <SHA256>'\n\nFor more information, try '--help'.\n"
choice_line choice.Since = codes "error: the argument '--since <DAY>' cannot be used with '--verify <LINES> <SHA256>'\n\nFor more information, try '--help'.\n"
choice_line choice.Db = codes "error: the argument '--db <PATH>' cannot be used with '--verify <LINES> <SHA256>'\n\nFor more information, try '--help'.\n"

-- no subcommand
abbrev pub no_subcommand_line : Text
no_subcommand_line = codes "error: no subcommand is named\n"

-- a word that is no text
abbrev pub no_text_line : Text
no_text_line = codes "error: a word is not UTF-8\n"

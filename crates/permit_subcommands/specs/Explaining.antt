-- What is taken in place of words that are refused, and why a file can't be read.
use Rattle.std.specs.Prelude.{ℕ, List, codes, if◌then◌else◌}
use Rattle.permit_base.specs.Texts.{is_printable}
use Rattle.permit_args.specs.declared.plan.ActWords.{ActWords}
use Rattle.permit_args.specs.declared.plan.TokenWords.{TokenWords}
use Rattle.permit_args.specs.declared.plan.TokenWords.TheVariants.{Given, File}
use Rattle.permit_subcommands.specs.Requests.{is_word}
use Rattle.permit_subcommands.specs.declared.explaining.Unread.{Unread}
use Rattle.permit_subcommands.specs.declared.explaining.Unread.TheVariants as unread
use Rattle.permit_subcommands.specs.declared.failure.LineReason.{LineReason}
use Rattle.permit_subcommands.specs.declared.failure.LineReason.TheVariants as reason

-- what is taken as a day
abbrev pub day_reason : List ℕ
day_reason = codes "--day takes a date, YYYY-MM-DD, from 1970-01-01 to 2243-10-17; example: --day 2026-07-15"

-- what is taken as the day from which on entries of a history are printed
abbrev pub since_reason : List ℕ
since_reason = codes "--since takes a date, YYYY-MM-DD, from 1970-01-01 to 2243-10-17; example: --since 2026-07-15"

-- what is taken as a zone
abbrev pub zone_reason : List ℕ
zone_reason = codes "--zone takes a POSIX rule, as the last line of a city's file in /usr/share/zoneinfo has it; example: --zone PST8PDT,M3.2.0,M11.1.0"

-- what is taken as a founder's name
abbrev pub name_reason : List ℕ
name_reason = codes "--name takes 1 to 2000 bytes of UTF-8 without a control character"

-- what is taken as a token, by where the words have it
abbrev pub token_reason : TokenWords → List ℕ
token_reason (Given token) = codes "--token takes 16 to 64 letters and digits of ASCII"
token_reason (File path) = codes "the first line of --token-file's file is no token: 16 to 64 letters and digits of ASCII"

-- what is taken as a request's method
abbrev pub method_reason : List ℕ
method_reason = codes "METHOD takes printed ASCII characters without a space"

-- what is taken as a request's path
abbrev pub path_reason : List ℕ
path_reason = codes "PATH takes printed ASCII characters without a space"

-- where the limits of a request are
abbrev pub request_reason : List ℕ
request_reason = codes "the request's path or body is refused: a number, a key or a value breaks a limit of docs/HTTP.md"

-- what is taken as an address to listen on
abbrev pub listen_reason : List ℕ
listen_reason = codes "--listen takes HOST:PORT, an address of this machine on which no other program listens; example: --listen 127.0.0.1:8080"

-- what is taken in place of a founder's name and token, the first of which that is wrong; the name is tried first
abbrev pub founder_reason : List ℕ → TokenWords → List ℕ
founder_reason name token = if is_printable name then token_reason token else name_reason

-- what is taken in place of a request's words: its method, its path or, where both are words, what they make
abbrev pub act_reason : ActWords → List ℕ
act_reason words = if is_word words.method.now then (if is_word words.path.now then request_reason else path_reason) else method_reason

-- why a file can't be read
abbrev pub unread_reason : Unread → List ℕ
unread_reason unread.NoFile = codes "no such file or folder"
unread_reason unread.Folder = codes "the path is a folder"
unread_reason unread.NoRight = codes "no right to read the file"
unread_reason unread.NotRegular = codes "the path is no regular file"
unread_reason unread.SecondName = codes "the file has a second name, a hard link"
unread_reason unread.Failed = codes "the file can't be read, or isn't UTF-8"

-- what is wrong with a line of a history: the word for a line that is no entry, or for an entry that is not the next one
abbrev pub line_reason : LineReason → List ℕ
line_reason reason.Long = codes "that line is no entry of a history: long"
line_reason reason.Syntax = codes "that line is no entry of a history: syntax"
line_reason reason.Fields = codes "that line is no entry of a history: fields"
line_reason reason.Form = codes "that line is no entry of a history: form"
line_reason reason.NoFounding = codes "that line may not follow those before it: no founding"
line_reason reason.SecondBeginning = codes "that line may not follow those before it: second beginning"
line_reason reason.SecondFounding = codes "that line may not follow those before it: second founding"
line_reason reason.FirstEdition = codes "that line may not follow those before it: first edition"
line_reason reason.UpgradeDay = codes "that line may not follow those before it: upgrade day"
line_reason reason.SecondUpgrade = codes "that line may not follow those before it: second upgrade"
line_reason reason.Caller = codes "that line may not follow those before it: caller"
line_reason reason.Clock = codes "that line may not follow those before it: clock"
line_reason reason.Record = codes "that line may not follow those before it: record"
line_reason reason.NotAdmitted = codes "that line may not follow those before it: not admitted"
line_reason reason.Number = codes "that line may not follow those before it: number"

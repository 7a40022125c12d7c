-- The text of a token that words name.
use Rattle.std.specs.Prelude.{◌≡◌, ◌⊎◌, ℕ, List, [], take}
use Rattle.std.specs.Io.BufRead.{strip_last, take_through}
use Rattle.std.specs.Str.{IsUtf8}
use Rattle.permit_args.specs.declared.plan.TokenWords.{TokenWords}
use Rattle.permit_args.specs.declared.plan.TokenWords.TheVariants.{Given, File}
use Rattle.permit_import.specs.declared.refused.RefusalWord.TheVariants.{Store}
use Rattle.permit_subcommands.specs.Failures.{plain, IsUnread}
use Rattle.permit_subcommands.specs.declared.failure.Failure.{Failure}

-- what is read of a token's file: at most 65 bytes, and nothing after the first LF
abbrev pub line_read : List ℕ → List ℕ
line_read bytes = take_through 10 (take 65 bytes)

-- a line without its end, which is LF or CR LF
abbrev pub without_end : List ℕ → List ℕ
without_end line = strip_last 13 (strip_last 10 line)

-- the text of a line; bytes that aren't UTF-8 are no token, and make no text
abbrev pub IsTextOfLine : List ℕ → List ℕ → Type 0
IsTextOfLine line text = (text ≡ without_end line) ⊎ ((text ≡ []) × (IsUtf8 (without_end line) → ⊥))

-- the text that words name: the token itself, or that of a line of the file
abbrev pub IsTokenOf : TokenWords → List ℕ → Type 0
IsTokenOf (Given token) text = text ≡ token.now
IsTokenOf (File path) text = (line : List ℕ) × IsTextOfLine line text

-- why they name none: memory ran out, or the file can't be read
abbrev pub IsTokenFailure : TokenWords → Failure → Type 0
IsTokenFailure (Given token) why = why ≡ plain Store
IsTokenFailure (File path) why = IsUnread path.now why

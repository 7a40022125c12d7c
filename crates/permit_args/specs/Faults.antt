-- Why words give no plan.
use Rattle.std.specs.Prelude.{◌≡◌, ◌⊎◌, List, Bool, Option, true, false, string_bytes}
use Rattle.clap.specs.Words.{App, IsAmong, Row, Text, fault_of, matches_of}
use Rattle.clap.specs.declared.error.kind.ErrorKind.{ErrorKind}
use Rattle.clap.specs.declared.error.kind.ErrorKind.TheVariants as kind
use Rattle.permit_args.specs.Blames.{Blames}
use Rattle.permit_args.specs.Plans.{IsPlanOf, IsTaken, reader_of, subcommand_in}
use Rattle.permit_args.specs.declared.plan.Plan.{Plan}
use Rattle.permit_args.specs.declared.plan.PlanFault.{PlanFault}
use Rattle.permit_args.specs.declared.plan.PlanFault.TheVariants.{Help, Words, Memory}
use Rattle.permit_args.specs.declared.plan.Subcommand.{Subcommand}

-- ---- the library's errors

-- memory ran out
abbrev pub is_memory : ErrorKind → Bool
is_memory kind.OutOfMemory = true
is_memory _ = false

-- no error, but help or the version
abbrev pub is_help : ErrorKind → Bool
is_help kind.DisplayHelp = true
is_help kind.DisplayVersion = true
is_help _ = false

-- how an error of this kind is reported; that memory ran out says nothing of it
abbrev pub IsFaultBy : ErrorKind → PlanFault → Type 0
IsFaultBy k (Help text) = is_help k ≡ true
IsFaultBy k (Words text) = (is_help k ≡ false) × (is_memory k ≡ false)
IsFaultBy k Memory = Unit {0}

-- the library answers the words with help, or the version
abbrev pub AsksHelp : App → List Text → Type 0
AsksHelp app words = (k : ErrorKind) × IsAmong k (fault_of app words) × (is_help k ≡ true)

-- the library refuses the words, and not with help
abbrev pub IsRefused : App → List Text → Type 0
IsRefused app words = (k : ErrorKind) × IsAmong k (fault_of app words) × (is_help k ≡ false)

-- why the library finds nothing in the words
abbrev pub IsParserFault : App → List Text → PlanFault → Type 0
IsParserFault app words (Help text) = AsksHelp app words
IsParserFault app words (Words text) = IsRefused app words
IsParserFault app words Memory = Unit {0}

-- the library takes the words, and finds these rows
pub record IsFoundIn (app : App) (words : List Text) (rows : List Row) : Type 0 where
  pub taken : IsTaken app words
  pub found : rows ≡ matches_of app words

-- ---- values

-- the line is said, or memory ran out for it: help isn't asked for
abbrev pub Says : Text → PlanFault → Type 0
Says line (Help text) = ⊥
Says line (Words text) = string_bytes text ≡ line
Says line Memory = Unit {0}

-- Words are refused only where no value is theirs, and by a line that blames what is wrong; that memory ran out says nothing of
-- them.
abbrev pub Refuses : {A : Type 0} → (A → Type 0) → (Text → Type 0) → PlanFault → Type 0
Refuses {A} IsOf Blames (Help text) = ⊥
Refuses {A} IsOf Blames (Words text) = ((x : A) → IsOf x → ⊥) × Blames (string_bytes text)
Refuses {A} IsOf Blames Memory = Unit {0}

-- ---- plans

-- the library takes the words of the subcommand, or of none, and the line blames what is wrong with what it finds
pub record IsBlamed (o : Option Subcommand) (words : List Text) (line : Text) : Type 0 where
  pub taken : IsTaken (reader_of o) words
  pub blames : Blames o (matches_of (reader_of o) words) line

-- what is said of the words of a subcommand, or of none, that are refused: help where they ask for it, else the library's error, or
-- the program's own line
abbrev pub IsUnread : Option Subcommand → List Text → PlanFault → Type 0
IsUnread o words (Help text) = AsksHelp (reader_of o) words
IsUnread o words (Words text) = IsRefused (reader_of o) words ⊎ IsBlamed o words (string_bytes text)
IsUnread o words Memory = Unit {0}

-- Why words give no plan: help is what the library answers them with, where they ask for it; they are bad only where no plan is
-- theirs, and the line is right. That memory ran out says nothing of them.
abbrev pub IsNoPlan : List Text → PlanFault → Type 0
IsNoPlan words (Help text) = IsUnread (subcommand_in words) words (Help text)
IsNoPlan words (Words text) = IsUnread (subcommand_in words) words (Words text) × ((plan : Plan) → IsPlanOf words plan → ⊥)
IsNoPlan words Memory = Unit {0}

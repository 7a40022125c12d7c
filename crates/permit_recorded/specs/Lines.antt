-- The line of the entry that a request adds to a history.
use Rattle.std.specs.Prelude.{◌≡◌, ℕ, List, [], ◌∷◌, ◌++◌, Option, Some}
use Rattle.permit_base.specs.declared.request.Request.{Request}
use Rattle.permit_model.specs.History.{History}
use Rattle.permit_model.specs.Machine.{number_made}
use Rattle.permit_office.specs.Callers.{number_of}
use Rattle.permit_history.specs.LineData.{line_of}
use Rattle.permit_history.specs.Told.{act_told, told_on}
use Rattle.permit_history.specs.declared.entry.Act.{Act}
use Rattle.permit_history.specs.declared.entry.Deed.TheVariants as deed
use Rattle.permit_history.specs.declared.entry.Entry.{Entry}

-- a line with its LF
abbrev pub whole_line_of : Entry → List ℕ
whole_line_of entry = line_of entry ++ 10 ∷ []

-- the line of the caller's request on the day, which gives its record this number, if it makes one
pub record IsLineOf (caller : ℕ) (asked : Request) (number : Option ℕ) (day : ℕ) (line : List ℕ) : Type 0 where
  pub act : Act
  pub is : act_told asked number ≡ Some act
  pub line_is : line ≡ whole_line_of (told_on day (deed.Accepted caller act))

-- the line gives the entry that the request of the party with the digest adds to the history on the day
pub record IsLineBehind (h : History) (digest : List ℕ) (asked : Request) (day : ℕ) (line : List ℕ) : Type 0 where
  pub caller : ℕ
  pub known : number_of h digest ≡ Some caller
  pub entry : IsLineOf caller asked (number_made h asked) day line

-- What is written for each record of a list, and for all of them.
use Rattle.std.specs.Prelude.{ℕ, ◌+◌, List, [], ◌∷◌, ◌++◌, codes, decimal, Option, None, Some}
use Rattle.permit_import.specs.Causes.{why_text}
use Rattle.permit_import.specs.Outcomes.{why_of}
use Rattle.permit_import.specs.Refusals.{refused_line}
use Rattle.permit_import.specs.declared.outcome.Outcome.{Outcome}
use Rattle.permit_import.specs.declared.outcome.Outcome.TheVariants.{Added, Kept, Malformed, Refused}
use Rattle.permit_import.specs.declared.refused.RefusalWord.TheVariants.{Syntax}
use Rattle.permit_import.specs.declared.refused.Refused.TheVariants.{Plain}
use Rattle.permit_import.specs.declared.tally.Tally.{Tally}
use Rattle.permit_import.specs.declared.why.Why.{Why}

abbrev pub outcome_text : Outcome → List ℕ
outcome_text (Added number) = codes "added " ++ decimal number
outcome_text Kept = codes "kept"
outcome_text (Malformed fault) = refused_line (Plain Syntax)
outcome_text (Refused why) = refused_line why

-- the line of the record of this number
abbrev pub record_line : ℕ → Outcome → List ℕ
record_line number outcome = decimal number ++ codes " " ++ outcome_text outcome ++ codes "\n"

-- the line that says why the record of this number is refused, where it is
abbrev pub cause_line : ℕ → Option Why → List ℕ
cause_line number None = []
cause_line number (Some why) = decimal number ++ codes " why: " ++ why_text why ++ codes "\n"

-- the lines of records, by what became of them; the first has this number
abbrev pub lines_from : ℕ → List Outcome → List ℕ
lines_from number [] = []
lines_from number (outcome ∷ outcomes) = record_line number outcome ++ lines_from (number + 1) outcomes

-- the lines that say why those of them that are refused are; the first record has this number
abbrev pub causes_from : ℕ → List Outcome → List ℕ
causes_from number [] = []
causes_from number (outcome ∷ outcomes) = cause_line number (why_of outcome) ++ causes_from (number + 1) outcomes

abbrev pub count_text : Tally → List ℕ
count_text tally = codes "added " ++ decimal tally.added ++ codes " kept " ++ decimal tally.kept ++ codes " refused " ++ decimal tally.refused

-- the line after all records
abbrev pub count_line : Tally → List ℕ
count_line tally = count_text tally ++ codes "\n"

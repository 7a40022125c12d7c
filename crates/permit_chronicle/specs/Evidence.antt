-- What is said of a text beside its entries.
use Rattle.std.specs.Prelude.{ℕ, List, ◌++◌, codes, decimal}
use Rattle.permit_history.specs.declared.evidence.Evidence.{Evidence}

-- how many lines it has, and their digest
abbrev pub evidence_line : Evidence → List ℕ
evidence_line evidence = codes "history lines " ++ (decimal evidence.lines ++ (codes " sha256 " ++ (evidence.sha256 ++ codes "\n")))

-- so many lines are those that they were
abbrev pub verified_line : ℕ → List ℕ
verified_line lines = codes "verified lines " ++ (decimal lines ++ codes "\n")

-- a database's tables lack so many of its last commands
abbrev pub lacks_line : ℕ → List ℕ
lacks_line commands = codes "history: the tables lack " ++ (decimal commands ++ codes " commands\n")

-- The lines that say what was done.
use Rattle.std.specs.Prelude.{ℕ, List, ◌++◌, codes, decimal}
use Rattle.permit_model.specs.Tables.{Desk}

-- without words, the program's name
abbrev pub name_line : List ℕ
name_line = codes "permit\n"

-- an office is founded, with its first party
abbrev pub founded_line : List ℕ
founded_line = codes "party 1\n"

-- a database is upgraded, with so many files that keep their list of inspections
abbrev pub upgraded_line : ℕ → List ℕ
upgraded_line files = codes "upgraded files " ++ decimal files ++ codes "\n"

-- tables are sound, and the desk counts their records
abbrev pub sound_line : Desk → List ℕ
sound_line desk =
    codes "sound parties " ++ (decimal desk.parties ++ (codes " parcels " ++ (decimal desk.parcels ++ (codes " files " ++ (decimal desk.files ++ codes "\n")))))

-- What is written of a register, and what comes next.
use Rattle.std.specs.Prelude.{ℕ, ◌+◌, ◌==◌, if◌then◌else◌, List, [], ◌++◌}
use Rattle.permit_base.specs.declared.words.RegisterKind.{RegisterKind}
use Rattle.permit_model.specs.Register.{header, file_line, foot}
use Rattle.permit_model.specs.Tables.{FileView}

-- a register on a day, with the count of the lines that are written
pub record Progress : Type 0 where
  pub kind : RegisterKind
  pub day : ℕ
  pub lines : ℕ

-- what comes before the next line or the foot, after so many lines: the header before the first, else nothing
abbrev pub opening : RegisterKind → ℕ → List ℕ
opening kind lines = if lines == 0 then header kind else []

-- what a file adds: its line, after the header where it is the first
abbrev pub part : Progress → FileView → List ℕ
part at file = opening at.kind at.lines ++ file_line at.kind at.day file

-- what the end adds: the foot, after the header where no line came
abbrev pub ending : Progress → List ℕ
ending at = opening at.kind at.lines ++ foot at.lines

-- the register with one line more
abbrev pub one_line_more : Progress → Progress
one_line_more at = record at { lines = at.lines + 1 }

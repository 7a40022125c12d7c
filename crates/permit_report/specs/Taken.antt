-- What a writer of a register does with a file.
use Rattle.std.specs.Prelude.{◌≡◌, ℕ, Bool, true, false, List, Option}
use Rattle.std.specs.Io.KnownBytes.{Appends}
use Rattle.permit_model.specs.Tables.{FileView}
use Rattle.permit_report.specs.declared.writer.RegisterWriter.{RegisterWriter}
use Rattle.permit_report.specs.Outgoing.{WroteFront}
use Rattle.permit_report.specs.Progress.{Progress, part, one_line_more}

-- what is written of the register
abbrev pub progress : {W : Type 0} → RegisterWriter W → Progress
progress writer = record { kind = writer.kind; day = writer.day; lines = writer.lines }

-- the second writes to the output of the first
abbrev pub IsSameOutput : {W : Type 0} → RegisterWriter W → RegisterWriter W → Type 0
IsSameOutput old new = new.writer.ghost_name ≡ old.writer.ghost_name

-- A file was taken. Where the answer is true, known bytes grew by the file's part. Where it is false, they grew by a
-- prefix of that part, which isn't the whole.
abbrev pub TakesFile : {W : Type 0} → (W → Option (List ℕ)) → RegisterWriter W → FileView → RegisterWriter W → Bool → Type 0
TakesFile contents old file new true =
    IsSameOutput old new × (progress new ≡ one_line_more (progress old))
    × Appends (contents old.writer.now) (contents new.writer.now) (part (progress old) file)
TakesFile contents old file new false =
    IsSameOutput old new × (progress new ≡ progress old) × WroteFront (contents old.writer.now) (contents new.writer.now) (part (progress old) file)

-- What a writer of a register has written after some files.
use Rattle.std.specs.Prelude.{◌≡◌, ℕ, Option, List}
use Rattle.std.specs.Io.KnownBytes.{Appends}
use Rattle.permit_base.specs.declared.words.RegisterKind.{RegisterKind}
use Rattle.permit_core.specs.Taking.{TookAll, StoppedIn, BeganOf}
use Rattle.permit_model.specs.Register.{register_text}
use Rattle.permit_model.specs.Tables.{FileView}
use Rattle.permit_report.specs.declared.writer.RegisterWriter.{RegisterWriter}
use Rattle.permit_report.specs.Outgoing.{WroteFront}
use Rattle.permit_report.specs.Progress.{ending}
use Rattle.permit_report.specs.Taken.{progress, IsSameOutput, TakesFile}

-- nothing is written yet of the register on the day
abbrev pub IsBegun : {W : Type 0} → RegisterKind → ℕ → RegisterWriter W → Type 0
IsBegun kind day writer = progress writer ≡ record { kind = kind; day = day; lines = 0 }

module _ {W : Type 0} (contents : W → Option (List ℕ)) where
  -- a writer that took files writes to where it wrote
  abbrev pub KeepsOutput : Type 0
  KeepsOutput = (files : List FileView) (old new : RegisterWriter W) → TookAll (TakesFile contents) files old new → IsSameOutput old new

  -- all files and then the ending make the register's text
  abbrev pub MakesText : Type 0
  MakesText = (kind : RegisterKind) (day : ℕ) (files : List FileView) (old new : RegisterWriter W) (after : Option (List ℕ)) → IsBegun kind day old
      → TookAll (TakesFile contents) files old new → Appends (contents new.writer.now) after (ending (progress new)) →
      Appends (contents old.writer.now) after (register_text kind day files)

  -- all files and then a prefix of the ending make a prefix of the text
  abbrev pub CutsEnding : Type 0
  CutsEnding = (kind : RegisterKind) (day : ℕ) (files : List FileView) (old new : RegisterWriter W) (after : Option (List ℕ)) → IsBegun kind day old
      → TookAll (TakesFile contents) files old new → WroteFront (contents new.writer.now) after (ending (progress new)) →
      WroteFront (contents old.writer.now) after (register_text kind day files)

  -- files of which the last was answered false make a prefix of the text of all
  abbrev pub CutsLine : Type 0
  CutsLine = (kind : RegisterKind) (day : ℕ) (files : List FileView) (old new : RegisterWriter W) → IsBegun kind day old
      → StoppedIn (TakesFile contents) files old new → WroteFront (contents old.writer.now) (contents new.writer.now) (register_text kind day files)
      × IsSameOutput old new

  -- the first of the files, without the ending, make a prefix of the text of all
  abbrev pub LacksEnding : Type 0
  LacksEnding = (kind : RegisterKind) (day : ℕ) (files : List FileView) (old new : RegisterWriter W) → IsBegun kind day old
      → BeganOf (TakesFile contents) files old new → WroteFront (contents old.writer.now) (contents new.writer.now) (register_text kind day files)
      × IsSameOutput old new

-- What a file on a disk shows.
use Rattle.std.specs.Prelude.{ℕ, Option}
use Rattle.sqlite_disk.specs.declared.Disk.{Ghosts}
use Rattle.permit_journal.specs.declared.disk_file.DiskFile.{DiskFile}

module _ {D : Type 0} {g : Ghosts D} where
  -- the disk on which it is
  abbrev pub disk_of : DiskFile D g → D
  disk_of file = file.disk

  -- where the text ends: none after a write or a cut that failed
  abbrev pub end_of : DiskFile D g → Option ℕ
  end_of file = file.end

-- What a copy of a file has, and what reading the file leaves of it.
use Rattle.std.specs.Prelude.{◌≡◌, ◌⊎◌, ℕ, List, IsTrue}
use Rattle.std.specs.IoError.{error_kind}
use Rattle.std.specs.declared.io.Error.{Error}
use Rattle.std.specs.declared.io.ErrorKind.TheVariants.{OutOfMemory}
use Rattle.sqlite_disk.specs.Disk.{MoreFaults}
use Rattle.sqlite_disk.specs.declared.Disk.{Ghosts}
use Rattle.sqlite_disk.specs.Memory.{memory_bytes, memory_is_usable}
use Rattle.permit_office_file.specs.declared.office_file.OfficeFile.{OfficeFile}
use Rattle.permit_office_file.specs.Either.{either}

module _ {D : Type 0} (g : Ghosts D) where
  -- A file that was read: it has the bytes that it had, and a crash leaves nothing that it couldn't have left before.
  pub record IsOnlyRead (old new : D) : Type 0 where
    pub seen : g.seen new ≡ g.seen old
    pub crash : (c : List ℕ) → g.may_leave new c → g.may_leave old c
    pub clean : IsTrue (g.is_clean new) → IsTrue (g.is_clean old)
    pub usable : IsTrue (g.is_usable new)

  -- why a file isn't copied: memory is missing, or a call of its disk has failed
  abbrev pub IsCause : (old new : D) → Error → Type 0
  IsCause old new e = (error_kind e ≡ OutOfMemory) ⊎ MoreFaults (g.faults old) (g.faults new)

  -- a file that may be used has the bytes of the disk, if that has reported nothing false
  pub record IsCopyIn (disk : D) (copy : OfficeFile D) : Type 0 where
    pub same : IsTrue (g.is_clean disk) → either g.seen memory_bytes copy ≡ g.seen disk
    pub usable : IsTrue (either g.is_usable memory_is_usable copy)

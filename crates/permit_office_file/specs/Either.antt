-- What a file shows, on its disk or in memory.
use Rattle.sqlite_disk.specs.declared.memory.Memory.{Memory}
use Rattle.permit_office_file.specs.declared.office_file.OfficeFile.{OfficeFile}
use Rattle.permit_office_file.specs.declared.office_file.OfficeFile.TheVariants.{OnDisk, InMemory}

abbrev pub either {ℓ} : {D : Type 0} {A : Type ℓ} → (D → A) → (Memory → A) → OfficeFile D → A
either of_disk of_memory (OnDisk disk) = of_disk disk
either of_disk of_memory (InMemory memory) = of_memory memory

-- The text of a file in memory.
use Rattle.std.specs.Prelude.{ℕ, List}
use Rattle.permit_history_tests.specs.declared.recorded.memory.MemoryFile.{MemoryFile}

abbrev pub memory_bytes : MemoryFile → List ℕ
memory_bytes m = m.bytes.items

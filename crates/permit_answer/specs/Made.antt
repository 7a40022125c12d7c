-- The bytes of an answer or its body, in place or in memory.
use Rattle.std.specs.Prelude.{◌≤◌, ℕ, List, IsTrue, not, length}
use Rattle.permit_answer.specs.AnswerText.{AnswerData}
use Rattle.permit_answer.specs.Outgoing.{is_read_out}
use Rattle.permit_answer.specs.declared.write.Made.{Made}
use Rattle.permit_answer.specs.declared.write.Made.TheVariants.{InPlace, InMemory}

abbrev pub made_bytes : Made → List ℕ
made_bytes (InPlace text) = text
made_bytes (InMemory bytes) = bytes.items

-- what is read out is made in memory, and all else in place, where a body has at most 128 bytes
abbrev pub IsPlacedFor : AnswerData → Made → Type 0
IsPlacedFor answer (InPlace body) = IsTrue (not (is_read_out answer)) × (length body ≤ 128)
IsPlacedFor answer (InMemory body) = IsTrue (is_read_out answer)

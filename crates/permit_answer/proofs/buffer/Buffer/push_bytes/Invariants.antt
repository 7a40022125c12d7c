use Rattle.std.proofs.Common.{◌≡◌, ◌++◌, take}
use Rattle.permit_answer.specs.Buffer.{room}
use Rattle.permit_answer.proofs.buffer.Buffer.push_bytes.Given as goal

abbrev pub invariant-loop-byte : goal.invariant-loop-byte
invariant-loop-byte l = l.self ≡ take room (l.initial.self ++ take l.byte-index l.bytes)

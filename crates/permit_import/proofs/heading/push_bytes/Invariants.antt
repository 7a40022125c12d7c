use Rattle.std.proofs.Common.{◌≡◌, ◌++◌, map, string_bytes, take}
use Rattle.permit_import.specs.Headings.{shown_byte}
use Rattle.permit_import.proofs.heading.push_bytes.Given as goal

-- the bytes so far are shown after what was there
abbrev pub invariant-loop-byte : goal.invariant-loop-byte
invariant-loop-byte l = string_bytes l.text ≡ string_bytes l.initial.text ++ map shown_byte (take l.byte-index l.byte-items)

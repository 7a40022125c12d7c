use Rattle.std.proofs.Common.{◌≡◌, map, string_bytes}
use Rattle.std.specs.Prelude.{encode_utf8_all}
use Rattle.permit_reasons.specs.Shown.{shown_letter}
use Rattle.permit_reasons.proofs.shown.shown.Given as goal

-- the characters so far are shown
abbrev pub invariant-loop-letter : goal.invariant-loop-letter
invariant-loop-letter l = string_bytes l.shown ≡ encode_utf8_all (map shown_letter l.yielded)

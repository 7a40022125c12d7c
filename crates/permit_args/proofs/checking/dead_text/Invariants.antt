use Rattle.std.proofs.Common.{◌≡◌, ◌++◌, drop, string_bytes}
use Rattle.permit_args.specs.Checks.{dead_lines}
use Rattle.permit_args.proofs.checking.dead_text.Given as goal

-- the text so far, and the lines of the rules that are left
abbrev pub invariant-loop-rule : goal.invariant-loop-rule
invariant-loop-rule l = string_bytes l.text ++ dead_lines (drop l.rule-index l.rule-items) ≡ string_bytes l.initial.text ++ dead_lines l.rule-items

use Rattle.std.proofs.Common.{◌≡◌, ◌++◌, drop, string_bytes}
use Rattle.permit_args.specs.Checks.{tried_lines}
use Rattle.permit_args.proofs.checking.explained_text.Given as goal

-- the text so far, and the lines of the rules that are left
abbrev pub invariant-loop-tried : goal.invariant-loop-tried
invariant-loop-tried l = string_bytes l.text ++ tried_lines (drop l.tried-index l.tried-items) ≡ tried_lines l.tried-items

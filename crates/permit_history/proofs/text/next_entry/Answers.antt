use Rattle.std.proofs.Common.{arith, Option, IfSome, Result}
use Rattle.permit_history.specs.Text.{OnBadLine}
use Rattle.permit_history.specs.declared.entry.Entry.{Entry}
use Rattle.permit_history.specs.declared.text.TextFault.{TextFault}
use Rattle.permit_history.proofs.LineByLine.{next_line_is}
use Rattle.permit_history.proofs.text.next_entry.Goals as goal

weaker : {T : Type 0} (o : Option T) (P Q : T → Type 0) → ((x : T) → P x → Q x) → IfSome o P → IfSome o Q
weaker o P Q step h = grind arith

pub returns-in-Ok-clause-exact : goal.returns-in-Ok-clause-exact
returns-in-Ok-clause-exact g c = grind (arith, weaker, next_line_is)

on_bad_line : (result : Result (Option Entry) TextFault) (fact : Type 0) → fact → OnBadLine result fact
on_bad_line result fact holds = grind arith

pub returns-in-Ok-clause-behind : goal.returns-in-Ok-clause-behind
returns-in-Ok-clause-behind g c = on_bad_line _ _ c.in-Ok.ensures.rest

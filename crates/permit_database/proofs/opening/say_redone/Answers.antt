use Rattle.std.proofs.Common.{◌∙◌}
use Rattle.permit_database.proofs.Doings.{says_none, says_printed, says_unprinted}
use Rattle.permit_database.proofs.opening.say_redone.Goals as goal

pub returns-then-redone-eq0 : goal.returns-then-redone-eq0
returns-then-redone-eq0 g c = says_none c.args.redone _ c.if-redone-eq0.true

pub returns-in-Ok : goal.returns-in-Ok
returns-in-Ok g c = says_printed c.args.redone _ _ c.print_text.result c.if-redone-eq0.false _ (c.as_str.ensures.value ∙ c.in-Ok.ensures) c.print_text.ensures

pub returns-in_default : goal.returns-in_default
returns-in_default g c = says_unprinted c.args.redone _ c.if-redone-eq0.false

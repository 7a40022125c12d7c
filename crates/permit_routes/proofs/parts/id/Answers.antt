use Rattle.std.proofs.Common.{sym, ◌∙◌}
use Rattle.permit_routes.proofs.Numbers.{unread}
use Rattle.permit_routes.proofs.parts.id.Goals as goal

pub returns-in_default-3-clause-number : goal.returns-in_default-3-clause-number
returns-in_default-3-clause-number c =
    let is = sym c.is_plain_number.ensures ∙ c.if-not-is_plain_number.false in
    unread c.args.word.now c.parse.result _ is c.parse.ensures.value.0 c.in_default.is

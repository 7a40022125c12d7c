use Rattle.std.proofs.Common.{sym, ◌∙◌}
use Rattle.std.proofs.lemmas.Str.{IsUtf8-from_ascii}
use Rattle.permit_routes.proofs.Ascii.{test-ascii}
use Rattle.permit_routes.proofs.routing.ascii.Goals as goal

pub returns-in-Err : goal.returns-in-Err
returns-in-Err c =
    let is = sym c.are_ascii.ensures ∙ c.if-not-are_ascii.false in
    absurd (c.in-Err.ensures.cases.0 (IsUtf8-from_ascii c.args.path.now (test-ascii c.args.path.now is)))

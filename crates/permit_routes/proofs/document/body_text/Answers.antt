use Rattle.std.proofs.Common.{◌≡◌, length, true, arith, eq-eqb}
use Rattle.std.specs.Str.Lossy.{utf8_valid_len}
use Rattle.std.proofs.lemmas.Str.{utf8_valid_len-IsUtf8}
use Rattle.permit_routes.specs.Bodies.{is_utf8}
use Rattle.permit_routes.proofs.document.body_text.Goals as goal

pub returns-in-Ok : goal.returns-in-Ok
returns-in-Ok c =
    let whole : utf8_valid_len c.args.body.now ≡ length c.args.body.now = utf8_valid_len-IsUtf8 _ c.in-Ok.ensures.cases.1 in
    let test : is_utf8 c.args.body.now ≡ true = eq-eqb _ _ whole in
    grind (arith, test)

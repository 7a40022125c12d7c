use Rattle.permit_chronicle.proofs.Parts.{told_is}
use Rattle.std.proofs.lemmas.Result.{on_ok_weaker}
use Rattle.permit_chronicle.proofs.line.push_told.Goals as goal

pub returns : goal.returns
returns c = on_ok_weaker c.push_about.result (told_is c.args.role c.args.deed.now c.caller.result _ _ _ _ _ c.caller.ensures c.word.ensures
    c.in_ok-push_who.ensures c.in_ok-push_word.ensures) c.push_about.ensures

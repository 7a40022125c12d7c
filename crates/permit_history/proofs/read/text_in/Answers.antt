use Rattle.std.proofs.Common.{arith}
use Rattle.std.proofs.lemmas.Bool.{cases_Bool}
use Rattle.std.proofs.lemmas.Str.{IsUtf8-from_is_utf8, is_utf8-from_IsUtf8}
use Rattle.permit_history.proofs.read.text_in.Goals as goal

pub returns-in-Ok : goal.returns-in-Ok
returns-in-Ok c = grind (arith, is_utf8-from_IsUtf8)

pub returns-in-Err : goal.returns-in-Err
returns-in-Err c = grind (arith, cases_Bool, IsUtf8-from_is_utf8)

-- No line has a float, so that each entry has one line.
use Rattle.std.proofs.Common.{arith, ◌≡◌, ℕ, false, Option, refl}
use Rattle.serde_json.specs.Written.{has_float, members_have_float}
use Rattle.permit_base.specs.declared.request.Command.{Command}
use Rattle.permit_history.specs.declared.entry.Act.{Act}
use Rattle.permit_history.specs.declared.entry.Deed.{Deed}
use Rattle.permit_history.specs.declared.entry.Entry.{Entry}
use Rattle.permit_history.specs.LineData.{count_or_null, command_body, act_body, deed_body, id_in, number_in, line_data}

command_plain : (c : Command) → members_have_float (command_body c) ≡ false
command_plain c = grind arith

act_plain : (a : Act) → members_have_float (act_body a) ≡ false
act_plain a = grind (arith, command_plain)

deed_plain : (d : Deed) → members_have_float (deed_body d) ≡ false
deed_plain d = grind (arith, act_plain)

number_plain : (n : Option ℕ) → has_float (count_or_null n) ≡ false
number_plain n = grind arith

pub line_plain : (e : Entry) → has_float (line_data e) ≡ false
line_plain e = rw (deed_plain e.deed, number_plain (id_in e.deed), number_plain (number_in e.deed)) refl

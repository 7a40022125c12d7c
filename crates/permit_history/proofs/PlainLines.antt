-- The value of a line is an object of texts, small numbers and one such object, with its keys in order.
use Rattle.std.proofs.Common.{ℕ, ◌^◌, ◌<◌, ◌≤◌, Option, arith, nat_le, lit<}
use Rattle.std.specs.Prelude.{IsTrue}
use Rattle.std.proofs.lemmas.Bool.{leb-true}
use Rattle.serde_json.specs.Data.{no_members}
use Rattle.permit_base.specs.declared.request.Command.{Command}
use Rattle.permit_base.specs.Limits.{is_between, is_object_number, is_paper_number, is_day, is_days, is_cents, most_records, most_papers, latest_day}
use Rattle.permit_base.specs.Limits.{most_days, most_cents}
use Rattle.permit_history.specs.declared.entry.Act.{Act}
use Rattle.permit_history.specs.declared.entry.Deed.{Deed}
use Rattle.permit_history.specs.declared.entry.Entry.{Entry}
use Rattle.permit_history.specs.LineData.{count_or_null, command_body, act_body, act_id, act_number, deed_body, caller_in, id_in, number_in, line_data}
use Rattle.permit_history.specs.Within.{is_command_within, is_paper_or_none, is_act_within, is_deed_within, is_within}
use Rattle.permit_history.proofs.RoundTrip.{IsPlain, ArePlain}
use Rattle.permit_history.proofs.Tests.{left, right}

pub most : (low high n : ℕ) → IsTrue (is_between low high n) → n ≤ high
most low high n h = leb-true n high (right (nat_le low n) (nat_le n high) h)

record_small : (n : ℕ) → IsTrue (is_object_number n) → n < 2 ^ 64
record_small n h = omega (arith, most 1 most_records n h)

paper_small : (n : ℕ) → IsTrue (is_paper_number n) → n < 2 ^ 64
paper_small n h = omega (arith, most 1 most_papers n h)

days_small : (n : ℕ) → IsTrue (is_days n) → n < 2 ^ 64
days_small n h = omega (arith, most 1 most_days n h)

cents_small : (n : ℕ) → IsTrue (is_cents n) → n < 2 ^ 64
cents_small n h = omega (arith, most 0 most_cents n h)

day_small : (n : ℕ) → IsTrue (is_day n) → n < 2 ^ 64
day_small n h = omega (arith, most 0 latest_day n h)

none : (0 < 2 ^ 64) × (1 < 2 ^ 64)
none = (lit< tt, lit< tt)

command_plain : (c : Command) → IsTrue (is_command_within c) → ArePlain 0 no_members (command_body c)
command_plain c h = grind (arith, days_small, left, paper_small)

act_plain : (a : Act) → IsTrue (is_act_within a) → ArePlain 0 no_members (act_body a)
act_plain a h = grind (arith, right, left, cents_small, command_plain)

deed_plain : (d : Deed) → IsTrue (is_deed_within d) → ArePlain 0 no_members (deed_body d)
deed_plain d h = grind (arith, left, act_plain, right)

caller_plain : (d : Deed) → IsTrue (is_deed_within d) → caller_in d < 2 ^ 64
caller_plain d h = grind (arith, left)

act_id_plain : (a : Act) → IsTrue (is_act_within a) → IsPlain 1 (count_or_null (act_id a))
act_id_plain a h = grind (arith, left)

id_plain : (d : Deed) → IsTrue (is_deed_within d) → IsPlain 1 (count_or_null (id_in d))
id_plain d h = grind (arith, act_id_plain, right)

paper_plain : (number : Option ℕ) → IsTrue (is_paper_or_none number) → IsPlain 1 (count_or_null number)
paper_plain number h = grind (arith, paper_small)

act_number_plain : (a : Act) → IsTrue (is_act_within a) → IsPlain 1 (count_or_null (act_number a))
act_number_plain a h = grind (arith, right, paper_plain)

number_plain : (d : Deed) → IsTrue (is_deed_within d) → IsPlain 1 (count_or_null (number_in d))
number_plain d h = grind (arith, act_number_plain, right)

pub line_plain : (e : Entry) → IsTrue (is_within e) → IsPlain 2 (line_data e)
line_plain e h = grind (arith, day_small, left, right, deed_plain, caller_plain, id_plain, number_plain)

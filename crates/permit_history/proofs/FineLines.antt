-- Each text in a line is fine: it is within its limits, or a word.
use Rattle.std.proofs.Common.{◌≡◌, refl, ℕ, ◌≤◌, ◌&&◌, nat_le, nat_lt, ◌==◌, Bool, true, List, [], ◌∷◌, length, Option, arith}
use Rattle.std.specs.Prelude.{IsTrue}
use Rattle.std.specs.List.{list_all}
use Rattle.std.proofs.lemmas.Bool.{and_parts, and_from, leb-true, eqb-true}
use Rattle.std.proofs.lemmas.Bool.Decides.{nat_tests}
use Rattle.std.proofs.lemmas.Str.{IsUtf8-from_is_utf8}
use Rattle.json.specs.Print.{escape_byte}
use Rattle.json.proofs.Printed.Utf8.{are_ascii, IsUtf8-are_ascii}
use Rattle.permit_base.specs.declared.words.Role.{Role}
use Rattle.permit_base.specs.declared.words.Kind.{Kind}
use Rattle.permit_base.specs.declared.words.Step.{Step}
use Rattle.permit_base.specs.declared.words.Action.{Action}
use Rattle.permit_base.specs.declared.request.Command.{Command}
use Rattle.permit_base.specs.Limits.{is_day}
use Rattle.permit_base.specs.Texts.{is_long, is_printable_letter, is_lot, is_lot_letter, is_digest, is_hex_letter}
use Rattle.permit_base.specs.Words.{role_word, kind_word, step_word, action_word}
use Rattle.permit_history.specs.declared.entry.Act.{Act}
use Rattle.permit_history.specs.declared.entry.Deed.{Deed}
use Rattle.permit_history.specs.declared.entry.Entry.{Entry}
use Rattle.permit_history.specs.LineData.{count_or_null, command_body, act_body, deed_body, done_word, id_in, number_in, line_data, line_of}
use Rattle.permit_history.specs.Within.{is_text, is_command_within, is_act_within, is_deed_within, is_within}
use Rattle.permit_history.proofs.Tests.{left, right}
use Rattle.permit_history.proofs.Clean.{IsClean, IsFine, is_word, word_fine, AllFine, MembersFine, value_clean, room, members_room, value_short}
use Rattle.permit_history.proofs.PlainLines.{line_plain}

-- ---- texts within their limits

-- where each letter that passes one test passes another, so does the list
all_weaker : (p q : ℕ → Bool) → ((c : ℕ) → p c ≡ true → q c ≡ true) → (xs : List ℕ) → list_all p xs ≡ true → list_all q xs ≡ true
all_weaker p q each [] h = refl
all_weaker p q each (x ∷ xs) h =
    let parts = and_parts (p x) _ h in
    and_from _ _ (each x parts.0) (all_weaker p q each xs parts.1)

printable_mild : (c : ℕ) → is_printable_letter c ≡ true → nat_le 32 c ≡ true
printable_mild c h = left (nat_le 32 c) _ h

text_fine : (text : List ℕ) → IsTrue (is_text text) → IsFine text
text_fine text h = grind (arith, left, all_weaker, printable_mild, right, IsUtf8-from_is_utf8, leb-true)

-- printable ASCII
abbrev is_plain_letter : ℕ → Bool
is_plain_letter c = nat_le 32 c && nat_lt c 128

lot_letter : (c : ℕ) → is_lot_letter c ≡ true → is_plain_letter c ≡ true
lot_letter c h = grind (arith, nat_tests)

hex_letter : (c : ℕ) → is_hex_letter c ≡ true → is_plain_letter c ≡ true
hex_letter c h = grind (arith, nat_tests)

plain_mild : (c : ℕ) → is_plain_letter c ≡ true → nat_le 32 c ≡ true
plain_mild c h = left (nat_le 32 c) _ h

plain_ascii : (xs : List ℕ) → list_all is_plain_letter xs ≡ true → are_ascii xs ≡ true
plain_ascii [] h = refl
plain_ascii (x ∷ xs) h =
    let parts = and_parts (is_plain_letter x) _ h in
    and_from _ _ (right (nat_le 32 x) _ parts.0) (plain_ascii xs parts.1)

letters_fine : (text : List ℕ) → list_all is_plain_letter text ≡ true → length text ≤ 2000 → IsFine text
letters_fine text h short = grind (arith, all_weaker, plain_mild, IsUtf8-are_ascii, plain_ascii)

lot_fine : (lot : List ℕ) → IsTrue (is_lot lot) → IsFine lot
lot_fine lot h =
    let long = leb-true _ _ (right (nat_le 1 (length lot)) _ (left (is_long 1 20 lot) _ h)) in
    letters_fine lot (all_weaker is_lot_letter is_plain_letter lot_letter lot (right (is_long 1 20 lot) _ h)) (omega (arith, long))

digest_fine : (digest : List ℕ) → IsTrue (is_digest digest) → IsFine digest
digest_fine digest h =
    let long = eqb-true _ _ (left (length digest == 64) _ h) in
    letters_fine digest (all_weaker is_hex_letter is_plain_letter hex_letter digest (right (length digest == 64) _ h)) (omega (arith, long))

-- ---- words

role_fine : (r : Role) → IsTrue (is_word (role_word r))
role_fine r = grind arith

kind_fine : (k : Kind) → IsTrue (is_word (kind_word k))
kind_fine k = grind arith

step_fine : (s : Step) → IsTrue (is_word (step_word s))
step_fine s = grind arith

action_fine : (a : Action) → IsTrue (is_word (action_word a))
action_fine a = grind arith

done_fine : (d : Deed) → IsTrue (is_word (done_word d))
done_fine d = grind (arith, action_fine)

-- ---- bodies

command_fine : (c : Command) → IsTrue (is_command_within c) → MembersFine (command_body c)
command_fine c h = grind (arith, text_fine, right, word_fine, step_fine, left)

act_fine : (a : Act) → IsTrue (is_act_within a) → MembersFine (act_body a)
act_fine a h = grind (arith, right, digest_fine, left, text_fine, word_fine, role_fine, lot_fine, kind_fine, command_fine)

deed_fine : (d : Deed) → IsTrue (is_deed_within d) → MembersFine (deed_body d)
deed_fine d h = grind (arith, digest_fine, right, text_fine, left, act_fine)

number_fine : (n : Option ℕ) → AllFine (count_or_null n)
number_fine n = grind arith

line_fine : (e : Entry) → IsTrue (is_within e) → AllFine (line_data e)
line_fine e h = (
  refl,
  deed_fine e.deed (right (is_day e.day) (is_deed_within e.deed) h),
  (
    refl,
    tt,
    (
      refl,
      tt,
      (refl, word_fine (done_word e.deed) (done_fine e.deed), (refl, number_fine (id_in e.deed), (refl, number_fine (number_in e.deed), tt))),
    ),
  ),
)

-- ---- the line

pub line_clean : (e : Entry) → IsTrue (is_within e) → IsClean (line_of e)
line_clean e h = value_clean 2 (line_data e) (line_plain e h) (line_fine e h)

command_room : (c : Command) → members_room (command_body c) ≤ 14000
unfolding escape_byte
command_room c = grind arith

act_room : (a : Act) → members_room (act_body a) ≤ 14000
unfolding escape_byte
act_room a = grind (arith, command_room)

deed_room : (d : Deed) → members_room (deed_body d) ≤ 14000
unfolding escape_byte
deed_room d = grind (arith, act_room)

number_room : (n : Option ℕ) → room (count_or_null n) ≤ 20
number_room n = grind arith

pub line_short : (e : Entry) → IsTrue (is_within e) → length (line_of e) ≤ 20000
unfolding escape_byte
line_short e h =
    omega (arith, value_short 2 (line_data e) (line_plain e h) (line_fine e h), deed_room e.deed, number_room (id_in e.deed), number_room (number_in e.deed))

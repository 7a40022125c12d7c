-- What the value of an entry's line says is the entry.
use Rattle.std.proofs.Common.{arith, ◌≡◌, ◌∙◌, refl, ℕ, List, Bool, false, ◌&&◌, if◌then◌else◌, Option, None, Some, codes, bytes_eq, rules}
use Rattle.std.specs.Prelude.{IsTrue}
use Rattle.std.specs.Str.{is_utf8}
use Rattle.serde_json.specs.Data.{Data, null, object, no_members, member}
use Rattle.permit_base.specs.declared.words.Role.{Role}
use Rattle.permit_base.specs.declared.words.Action.{Action}
use Rattle.permit_base.specs.declared.request.Command.{Command}
use Rattle.permit_base.specs.Actions.{adding_action, command_action}
use Rattle.permit_base.specs.Limits.{only_if, is_object_number, is_paper_number, is_cents}
use Rattle.permit_base.specs.Texts.{is_printable, is_lot, is_digest}
use Rattle.permit_base.specs.Words.{IsReadBack, role_word, all_roles, kind_word, all_kinds, step_word, all_steps, action_word, all_actions}
use Rattle.permit_history.specs.declared.entry.Act.{Act}
use Rattle.permit_history.specs.declared.entry.Act.TheVariants as act
use Rattle.permit_history.specs.declared.entry.Deed.{Deed}
use Rattle.permit_history.specs.declared.entry.Entry.{Entry}
use Rattle.permit_history.specs.Fields.{number_or_null_at}
use Rattle.permit_history.specs.LineData.{count, count_or_null, command_body, act_body, act_action, act_id, act_number, deed_body, done_word}
use Rattle.permit_history.specs.LineData.{caller_in, id_in, number_in, line_data}
use Rattle.permit_history.specs.LineRead.{command_in, on_file_in, party_in, act_in, deed_in, entry_in}
use Rattle.permit_history.proofs.Tests.{left, right}
use Rattle.permit_history.specs.Within.{is_text, is_command_within, is_paper_or_none, is_act_within, is_deed_within, is_within}

taken : {A : Type 0} (b : Bool) (x : A) → IsTrue b → (if b then Some x else None) ≡ Some x
taken b x h = rw h refl

-- a value within its limits is read
number_taken : (limits : ℕ → Bool) (n : ℕ) → IsTrue (limits n) → only_if limits n ≡ Some n
number_taken limits n h = taken (limits n) n h

text_taken : (limits : List ℕ → Bool) (text : List ℕ) → IsTrue (limits text) → only_if limits text ≡ Some text
text_taken limits text h = taken (limits text) text h

printable_taken : (text : List ℕ) → IsTrue (is_text text) → only_if is_printable text ≡ Some text
printable_taken text h = text_taken is_printable text (left (is_printable text) (is_utf8 text) h)

roles_read : IsReadBack role_word all_roles
roles_read = search rules

kinds_read : IsReadBack kind_word all_kinds
kinds_read = search rules

steps_read : IsReadBack step_word all_steps
steps_read = search rules

actions_read : IsReadBack action_word all_actions
actions_read = search rules

-- ---- the command on a file

pub command_read : (c : Command) → IsTrue (is_command_within c) → command_in (command_action c) (object (command_body c)) ≡ Some c
command_read c h = grind (arith, number_taken, printable_taken, left, right, steps_read)

-- ---- the accepted command

-- a command on a file is read as one
on_file_read : (c : Command) (line body : Data) → act_in (command_action c) line body ≡ on_file_in (command_action c) line body
on_file_read c line body = grind arith

-- a party is read by either word of adding one
party_read : (r : Role) (line body : Data) → act_in (adding_action r) line body ≡ party_in line body
party_read r line body = grind arith

-- the value of a line with these members
abbrev line_with : Data → Data → Data → Data → Data → Data → Data
line_with body caller day done id made =
    object (member (codes "body") body (member (codes "caller") caller (member (codes "day") day (member (codes "done") done
    (member (codes "id") id (member (codes "number") made no_members))))))

paper_read : (made : Option ℕ) → IsTrue (is_paper_or_none made) → (body caller day done id : Data)
    → number_or_null_at is_paper_number (codes "number") (line_with body caller day done id (count_or_null made)) ≡ Some made
paper_read made h body caller day done id = grind (arith, number_taken)

act_read : (a : Act) → IsTrue (is_act_within a) → (caller day done : Data)
    → act_in (act_action a) (line_with (object (act_body a)) caller day done (count_or_null (act_id a)) (count_or_null (act_number a)))
    (object (act_body a)) ≡ Some a
act_read (act.AddParty name role digest made) h caller day done =
    let body = object (act_body (act.AddParty name role digest made)) in
    let later = right (is_text name) (is_digest digest && is_object_number made) h in
    party_read role (line_with body caller day done null (count made)) body
    ∙ rw (
      printable_taken name (left (is_text name) (is_digest digest && is_object_number made) h),
      roles_read role,
      text_taken is_digest digest (left (is_digest digest) (is_object_number made) later),
      number_taken is_object_number made (right (is_digest digest) (is_object_number made) later),
    ) refl
act_read (act.AddParcel lot address owner made) h caller day done =
    let later = right (is_lot lot) _ h in
    let last = right (is_text address) _ later in
    rw (
      text_taken is_lot lot (left (is_lot lot) _ h),
      printable_taken address (left (is_text address) _ later),
      number_taken is_object_number owner (left (is_object_number owner) _ last),
      number_taken is_object_number made (right (is_object_number owner) _ last),
    ) refl
act_read (act.Transfer parcel to) h caller day done =
    rw (
      number_taken is_object_number parcel (left (is_object_number parcel) _ h),
      number_taken is_object_number to (right (is_object_number parcel) _ h),
    ) refl
act_read (act.Declare parcel) h caller day done = rw (number_taken is_object_number parcel h) refl
act_read (act.File parcel kind valuation description made) h caller day done =
    let later = right (is_object_number parcel) _ h in
    let last = right (is_cents valuation) _ later in
    rw (
      number_taken is_object_number parcel (left (is_object_number parcel) _ h),
      kinds_read kind,
      number_taken is_cents valuation (left (is_cents valuation) _ later),
      printable_taken description (left (is_text description) _ last),
      number_taken is_object_number made (right (is_text description) _ last),
    ) refl
act_read (act.OnFile file command made) h caller day done =
    let later = right (is_object_number file) _ h in
    let body = object (command_body command) in
    on_file_read command (line_with body caller day done (count file) (count_or_null made)) body
    ∙ rw (
      number_taken is_object_number file (left (is_object_number file) _ h),
      command_read command (left (is_command_within command) _ later),
      paper_read made (right (is_command_within command) _ later) body caller day done (count file),
    ) refl

-- ---- the entry

-- no command has the word of what is none
commands_apart : (a : Action) → (bytes_eq (action_word a) (codes "found") ≡ false) × (bytes_eq (action_word a) (codes "upgrade") ≡ false)
    × (bytes_eq (action_word a) (codes "renew-token") ≡ false) × (bytes_eq (action_word a) (codes "begin") ≡ false)
commands_apart a = search rules

deed_read : (d : Deed) → IsTrue (is_deed_within d) → (day done : Data)
    → deed_in (done_word d) (line_with (object (deed_body d)) (count (caller_in d)) day done (count_or_null (id_in d)) (count_or_null (number_in d)))
    (object (deed_body d)) ≡ Some d
deed_read d h day done = grind (arith, printable_taken, left, text_taken, right, number_taken, commands_apart, actions_read, act_read)

pub entry_read : (e : Entry) → IsTrue (is_within e) → entry_in (line_data e) ≡ Some e
entry_read e h = grind (arith, number_taken, left, deed_read, right)

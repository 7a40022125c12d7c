-- What is wrong with a record that is refused: the field, and what would be taken there.
use Rattle.std.specs.Prelude.{ℕ, Bool, false, not, ◌==◌, if◌then◌else◌, List, length, ◌++◌, codes, decimal, Option, None, Some, option_map, option_and_then, unwrap_or}
use Rattle.csv.specs.Records.{field_at}
use Rattle.permit_base.specs.Texts.{is_lot, is_printable}
use Rattle.permit_base.specs.Words.{reason_word}
use Rattle.permit_base.specs.declared.refusal.Reason.{Reason}
use Rattle.permit_base.specs.declared.refusal.Reason.TheVariants as reason
use Rattle.permit_import.specs.Records.{Fields, text_in}
use Rattle.permit_import.specs.declared.refused.RefusalWord.{RefusalWord}
use Rattle.permit_import.specs.declared.refused.RefusalWord.TheVariants as word
use Rattle.permit_import.specs.declared.refused.Refused.{Refused}
use Rattle.permit_import.specs.declared.refused.Refused.TheVariants.{Plain, Denied, NotAdmitted}
use Rattle.permit_import.specs.declared.why.Field.{Field}
use Rattle.permit_import.specs.declared.why.Field.TheVariants.{Lot, Address, Owner}
use Rattle.permit_import.specs.declared.why.RecordFault.{RecordFault}
use Rattle.permit_import.specs.declared.why.RecordFault.TheVariants.{Count, Encoding, Limits}
use Rattle.permit_import.specs.declared.why.Why.{Why}
use Rattle.permit_import.specs.declared.why.Why.TheVariants as why

-- ---- a record that is no request

-- the text of the field at a place, where it is there and is UTF-8
abbrev pub text_at : Fields → ℕ → Option (List ℕ)
text_at fields place = option_and_then text_in (field_at fields place)

-- the text is there, and within its limits
abbrev pub is_within : (List ℕ → Bool) → Option (List ℕ) → Bool
is_within test text = unwrap_or (option_map test text) false

-- what is wrong with a field that isn't within its limits
abbrev pub field_fault : Field → Option (List ℕ) → RecordFault
field_fault field None = Encoding field
field_fault field (Some text) = Limits field

-- what is wrong with a record that is no request: the number of its fields, else the first field that is wrong
abbrev pub record_fault : Fields → RecordFault
record_fault fields =
    if not (length fields == 3) then Count (length fields)
    else (if not (is_within is_lot (text_at fields 0)) then field_fault Lot (text_at fields 0)
    else (if not (is_within is_printable (text_at fields 1)) then field_fault Address (text_at fields 1)
    else field_fault Owner (text_at fields 2)))

abbrev pub field_word : Field → List ℕ
field_word Lot = codes "lot"
field_word Address = codes "address"
field_word Owner = codes "owner"

-- what a field takes
abbrev pub limits_text : Field → List ℕ
limits_text Lot = codes "lot: 1 to 20 of A-Z, 0-9 and -"
limits_text Address = codes "address: 1 to 2000 bytes without a control character"
limits_text Owner = codes "owner: a party's number, 1 to 99999"

abbrev pub fault_text : RecordFault → List ℕ
fault_text (Count fields) = codes "record: field count " ++ decimal fields ++ codes ": lot,address,owner"
fault_text (Encoding field) = field_word field ++ codes ": not UTF-8"
fault_text (Limits field) = limits_text field

-- ---- a request that the office refuses

abbrev pub word_cause : RefusalWord → List ℕ
word_cause word.Syntax = codes "record: the office doesn't take it"
word_cause word.Caller = codes "token: no party has it"
word_cause word.Clock = codes "day: before that of the last accepted command"
word_cause word.Record = codes "record: the office doesn't take it"
word_cause word.Store = codes "office: out of memory, or its database failed"
word_cause word.Route = codes "record: the office doesn't take it"
word_cause word.Large = codes "record: the office doesn't take it"

abbrev pub reason_cause : Reason → List ℕ
reason_cause reason.Person = codes "owner: no party has this number"
reason_cause reason.Taken = codes "lot: a parcel has it already"
reason_cause reason.Full = codes "record: the office has no room for another parcel"
reason_cause other = codes "record: not admitted, " ++ reason_word other

abbrev pub refusal_cause : Refused → List ℕ
refusal_cause (Plain word) = word_cause word
refusal_cause (Denied rule) = codes "policy: denied by " ++ rule
refusal_cause (NotAdmitted reason) = reason_cause reason

-- the field, and what is wrong with it
abbrev pub why_text : Why → List ℕ
why_text (why.Record fault) = fault_text fault
why_text (why.Office refused) = refusal_cause refused

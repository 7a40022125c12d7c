-- What became of each record of a list, and how many came to what.
use Rattle.std.specs.Prelude.{◌+◌, Bool, true, false, List, [], ◌∷◌, count_by, Option, None, Some}
use Rattle.permit_base.specs.declared.refusal.Reason.TheVariants as reason
use Rattle.permit_base.specs.declared.refusal.Refusal.TheVariants as refusal
use Rattle.permit_base.specs.declared.request.Request.{Request}
use Rattle.permit_office.specs.declared.reply.Reply.{Reply}
use Rattle.permit_office.specs.declared.reply.Reply.TheVariants as given
use Rattle.permit_import.specs.Causes.{record_fault}
use Rattle.permit_import.specs.Refusals.{refused_by}
use Rattle.permit_import.specs.Records.{Fields, request_of_record}
use Rattle.permit_import.specs.declared.refused.RefusalWord.TheVariants as word
use Rattle.permit_import.specs.declared.refused.Refused.TheVariants as refused
use Rattle.permit_import.specs.declared.outcome.Outcome.{Outcome}
use Rattle.permit_import.specs.declared.outcome.Outcome.TheVariants.{Added, Kept, Malformed, Refused}
use Rattle.permit_import.specs.declared.tally.Tally.{Tally}
use Rattle.permit_import.specs.declared.why.Why.{Why}
use Rattle.permit_import.specs.declared.why.Why.TheVariants as why

-- a parcel was added, or its lot is taken, or it is refused; no other reply comes to a request for a parcel
abbrev pub outcome_of : Reply → Outcome
outcome_of (given.Done (Some number)) = Added number
outcome_of (given.Refused (refusal.NotAdmitted reason.Taken)) = Kept
outcome_of (given.Refused why) = Refused (refused_by why)
outcome_of _ = Refused (refused.Plain word.Store)

-- a record that is no request
abbrev pub unasked : Fields → Outcome
unasked row = Malformed (record_fault row)

-- why a record is refused, where it is
abbrev pub why_of : Outcome → Option Why
why_of (Added number) = None
why_of Kept = None
why_of (Malformed fault) = Some (why.Record fault)
why_of (Refused refused) = Some (why.Office refused)

-- what became of a record and of those after it, by the replies that are left
abbrev pub outcomes_with : Fields → Option Request → List Reply → (List Reply → List Outcome) → List Outcome
outcomes_with row None replies behind = unasked row ∷ behind replies
outcomes_with row (Some request) (reply ∷ replies) behind = outcome_of reply ∷ behind replies
outcomes_with row (Some request) [] behind = []

-- what became of each record: the records that are requests have the replies, in order
abbrev pub outcomes_of : List Fields → List Reply → List Outcome
outcomes_of [] replies = []
outcomes_of (row ∷ rows) replies = outcomes_with row (request_of_record row) replies (outcomes_of rows)

-- ---- counts

abbrev pub is_added : Outcome → Bool
is_added (Added number) = true
is_added Kept = false
is_added (Malformed fault) = false
is_added (Refused why) = false

abbrev pub is_kept : Outcome → Bool
is_kept (Added number) = false
is_kept Kept = true
is_kept (Malformed fault) = false
is_kept (Refused why) = false

abbrev pub is_refused : Outcome → Bool
is_refused (Added number) = false
is_refused Kept = false
is_refused (Malformed fault) = true
is_refused (Refused why) = true

-- how many came to what
abbrev pub tally_of : List Outcome → Tally
tally_of outcomes = record { added = count_by is_added outcomes; kept = count_by is_kept outcomes; refused = count_by is_refused outcomes }

-- one record more
abbrev pub counted : Tally → Outcome → Tally
counted tally (Added number) = record tally { added = tally.added + 1 }
counted tally Kept = record tally { kept = tally.kept + 1 }
counted tally (Malformed fault) = record tally { refused = tally.refused + 1 }
counted tally (Refused why) = record tally { refused = tally.refused + 1 }

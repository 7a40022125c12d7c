-- The exact bytes of every answer.
use Rattle.std.specs.Prelude.{ℕ, Bool, ◌==◌, if◌then◌else◌, List, [], ◌∷◌, ◌++◌, length, codes, decimal, Option, None, Some}
use Rattle.serde_json.specs.Written.{compact_text}
use Rattle.permit_base.specs.declared.words.Action.{Action}
use Rattle.permit_base.specs.declared.refusal.Refusal.{Refusal}
use Rattle.permit_base.specs.declared.refusal.Refusal.TheVariants as refusal
use Rattle.permit_base.specs.Words.{action_word, reason_word}
use Rattle.permit_model.specs.Machine.{Reply, Done, ParcelShown, FileShown, Listed, RegisterShown, Refused}
use Rattle.permit_model.specs.Register.{register_text}
use Rattle.permit_office.specs.Answers.{reply_of}
use Rattle.permit_answer.specs.RowData.{parcel_data, file_data, listing_data}
use Rattle.permit_http.specs.declared.fault.Fault.{Fault}
use Rattle.permit_http.specs.declared.fault.Fault.TheVariants as fault
use Rattle.permit_answer.specs.declared.answer.Answer.{Answer}
use Rattle.permit_answer.specs.declared.answer.Answer.TheVariants as given

-- a reply with its request's action and day, or a fault
pub data AnswerData : Type 0 where
  Replied : (reply : Reply) (action : Action) (day : ℕ) → AnswerData
  Faulted : (fault : Fault) → AnswerData

-- the answer that a value of the program represents
abbrev pub answer_data : Answer → AnswerData
answer_data (given.Replied reply action day) = Replied (reply_of reply) action day
answer_data (given.Fault fault) = Faulted fault

-- ---- the status

abbrev pub refusal_code : Refusal → ℕ
refusal_code refusal.Syntax = 400
refusal_code refusal.Caller = 401
refusal_code refusal.Clock = 503
refusal_code refusal.Record = 404
refusal_code (refusal.Denied _) = 403
refusal_code (refusal.NotAdmitted _) = 409
refusal_code refusal.Store = 500

abbrev pub fault_code : Fault → ℕ
fault_code fault.Head = 400
fault_code fault.Version = 400
fault_code fault.Length = 400
fault_code fault.Large = 413
fault_code fault.Route = 404
fault_code fault.Caller = 401
fault_code fault.Body = 400
fault_code fault.Memory = 500

-- everything that isn't refused is 200
abbrev pub reply_code : Reply → ℕ
reply_code (Refused why) = refusal_code why
reply_code _ = 200

abbrev pub status_code : AnswerData → ℕ
status_code (Replied reply action day) = reply_code reply
status_code (Faulted fault) = fault_code fault

-- the phrase of a code (RFC 9110, section 15)
abbrev pub phrase : ℕ → List ℕ
phrase code =
    if code == 200 then codes "OK" else (
    if code == 400 then codes "Bad Request" else (
    if code == 401 then codes "Unauthorized" else (
    if code == 403 then codes "Forbidden" else (
    if code == 404 then codes "Not Found" else (
    if code == 409 then codes "Conflict" else (
    if code == 413 then codes "Content Too Large" else (
    if code == 503 then codes "Service Unavailable" else
    codes "Internal Server Error")))))))

-- ---- the body

-- {"refused":"WORD"}
abbrev pub refused_text : List ℕ → List ℕ
refused_text word = codes "{\"refused\":\"" ++ word ++ codes "\"}"

-- a denial names its rule
abbrev pub denied_text : List ℕ → List ℕ
denied_text rule = codes "{\"refused\":\"denied\",\"rule\":\"" ++ rule ++ codes "\"}"

-- a refusal of a command that isn't admitted names the reason
abbrev pub not_admitted_text : List ℕ → List ℕ
not_admitted_text reason = codes "{\"reason\":\"" ++ reason ++ codes "\",\"refused\":\"not-admitted\"}"

abbrev pub refusal_text : Refusal → List ℕ
refusal_text refusal.Syntax = refused_text (codes "syntax")
refusal_text refusal.Caller = refused_text (codes "caller")
refusal_text refusal.Clock = refused_text (codes "clock")
refusal_text refusal.Record = refused_text (codes "record")
refusal_text (refusal.Denied rule) = denied_text rule
refusal_text (refusal.NotAdmitted reason) = not_admitted_text (reason_word reason)
refusal_text refusal.Store = refused_text (codes "store")

abbrev pub fault_text : Fault → List ℕ
fault_text fault.Head = refused_text (codes "syntax")
fault_text fault.Version = refused_text (codes "syntax")
fault_text fault.Length = refused_text (codes "syntax")
fault_text fault.Large = refused_text (codes "large")
fault_text fault.Route = refused_text (codes "route")
fault_text fault.Caller = refused_text (codes "caller")
fault_text fault.Body = refused_text (codes "syntax")
fault_text fault.Memory = refused_text (codes "store")

abbrev pub number_text : Option ℕ → List ℕ
number_text None = codes "null"
number_text (Some n) = decimal n

-- {"day":D,"done":"ACTION","number":N}
abbrev pub done_text : ℕ → Action → Option ℕ → List ℕ
done_text day action number =
    codes "{\"day\":" ++ decimal day ++ codes ",\"done\":\"" ++ action_word action ++ codes "\",\"number\":" ++ number_text number ++ codes "}"

abbrev pub body_text : AnswerData → List ℕ
body_text (Replied (Done number) action day) = done_text day action number
body_text (Replied (ParcelShown parcel) action day) = compact_text (parcel_data parcel)
body_text (Replied (FileShown file papers) action day) = compact_text (file_data file papers)
body_text (Replied (Listed files) action day) = compact_text (listing_data files)
body_text (Replied (RegisterShown kind files) action day) = register_text kind day files
body_text (Replied (Refused why) action day) = refusal_text why
body_text (Faulted fault) = fault_text fault

-- registers are plain text, all else is JSON
abbrev pub content_type : AnswerData → List ℕ
content_type (Replied (RegisterShown kind files) action day) = codes "text/plain; charset=utf-8"
content_type _ = codes "application/json"

-- ---- the whole

abbrev pub line : List ℕ → List ℕ
line text = text ++ 13 ∷ 10 ∷ []

-- a 401 asks for a token (RFC 6750)
abbrev pub challenge : ℕ → List ℕ
challenge code = if code == 401 then line (codes "WWW-Authenticate: Bearer") else []

-- the line of a connection that closes
abbrev pub closing : Bool → List ℕ
closing close = if close then line (codes "Connection: close") else []

-- the lines before the body
abbrev pub head_text : ℕ → List ℕ → ℕ → Bool → List ℕ
head_text code kind size close =
    line (codes "HTTP/1.1 " ++ decimal code ++ codes " " ++ phrase code)
    ++ line (codes "Content-Type: " ++ kind)
    ++ line (codes "Content-Length: " ++ decimal size)
    ++ challenge code ++ closing close ++ line []

-- the bytes of an answer, on a connection that closes or stays open
unfoldable pub answer_text : AnswerData → Bool → List ℕ
answer_text answer close = head_text (status_code answer) (content_type answer) (length (body_text answer)) close ++ body_text answer

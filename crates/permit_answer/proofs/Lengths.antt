-- No answer in place is longer than its buffer.
use Rattle.std.proofs.lemmas.Bool.Decides.{nat_tests}
use Rattle.std.proofs.Common.{lit<, lit≤, Bool, true, false, ◌==◌, if◌then◌else◌, ◌≡◌, ◌^◌, ℕ, ◌<◌, ◌≤◌, List, [], ◌∷◌, ◌++◌, length, Option, codes, arith}
use Rattle.std.proofs.Common.{length-append, append_assoc}
use Rattle.std.specs.Fmt.{decimal}
use Rattle.std.proofs.lemmas.Fmt.{length-decimal-le}
use Rattle.permit_base.specs.declared.words.Action.{Action}
use Rattle.permit_base.specs.declared.words.Action.TheVariants as action
use Rattle.permit_base.specs.declared.refusal.Reason.{Reason}
use Rattle.permit_base.specs.declared.refusal.Reason.TheVariants as reason
use Rattle.std.specs.Prelude.{IsTrue, nat_le, ◌&&◌}
use Rattle.std.specs.List.{list_all}
use Rattle.permit_base.specs.Texts.{is_rule_name, is_name_letter}
use Rattle.permit_base.specs.Words.{action_word, reason_word}
use Rattle.permit_answer.specs.AnswerText.{number_text, closing, challenge, line, phrase, head_text, done_text, refused_text, denied_text, not_admitted_text}

pub number_short : (n : ℕ) → n < 2 ^ 32 → length (decimal n) ≤ 10
number_short n h = length-decimal-le 10 n (lit< tt) (omega arith) (omega arith)

pub size_short : (n : ℕ) → n < 2 ^ 64 → length (decimal n) ≤ 20
size_short n h = length-decimal-le 20 n (lit< tt) (omega arith) (omega arith)

pub closing_short : (b : Bool) → length (closing b) ≤ 19
closing_short true = lit≤ tt
closing_short false = lit≤ tt

challenge_short_at : (b : Bool) → length (if b then line (codes "WWW-Authenticate: Bearer") else []) ≤ 26
challenge_short_at true = lit≤ tt
challenge_short_at false = lit≤ tt

pub challenge_short : (code : ℕ) → length (challenge code) ≤ 26
challenge_short code = challenge_short_at (code == 401)

pub action_short : (a : Action) → length (action_word a) ≤ 18
action_short action.AddParty = lit≤ tt
action_short action.AddStaff = lit≤ tt
action_short action.AddParcel = lit≤ tt
action_short action.Transfer = lit≤ tt
action_short action.Declare = lit≤ tt
action_short action.ReadParcel = lit≤ tt
action_short action.File = lit≤ tt
action_short action.Read = lit≤ tt
action_short action.List = lit≤ tt
action_short action.AssignReviewer = lit≤ tt
action_short action.AssignInspector = lit≤ tt
action_short action.NameContractor = lit≤ tt
action_short action.StartReview = lit≤ tt
action_short action.Return = lit≤ tt
action_short action.Resubmit = lit≤ tt
action_short action.ApprovePlans = lit≤ tt
action_short action.Reject = lit≤ tt
action_short action.Issue = lit≤ tt
action_short action.AskExtension = lit≤ tt
action_short action.GrantExtension = lit≤ tt
action_short action.RefuseExtension = lit≤ tt
action_short action.BeginWork = lit≤ tt
action_short action.RequestInspection = lit≤ tt
action_short action.ApproveStep = lit≤ tt
action_short action.Notice = lit≤ tt
action_short action.ClearNotice = lit≤ tt
action_short action.Stop = lit≤ tt
action_short action.Lift = lit≤ tt
action_short action.Revoke = lit≤ tt
action_short action.Temporary = lit≤ tt
action_short action.Certify = lit≤ tt

pub reason_short : (r : Reason) → length (reason_word r) ≤ 18
reason_short reason.Stage = lit≤ tt
reason_short reason.Stopped = lit≤ tt
reason_short reason.Person = lit≤ tt
reason_short reason.Interested = lit≤ tt
reason_short reason.Days = lit≤ tt
reason_short reason.Pending = lit≤ tt
reason_short reason.NothingPending = lit≤ tt
reason_short reason.Step = lit≤ tt
reason_short reason.NoticeOpen = lit≤ tt
reason_short reason.NoSuchNotice = lit≤ tt
reason_short reason.Kind = lit≤ tt
reason_short reason.Taken = lit≤ tt
reason_short reason.Full = lit≤ tt
reason_short reason.Far = lit≤ tt

pub done_short : (day : ℕ) (a : Action) (number : Option ℕ) → day < 2 ^ 32 → length (number_text number) ≤ 10
    → length (done_text day a number) ≤ 128
done_short day a number h k =
    let d = number_short day h in
    let w = action_short a in
    simp length-append (omega arith)

within_32 : (b : Bool) (n : ℕ) → IsTrue ((nat_le 1 n && nat_le n 32) && b) → n ≤ 32
within_32 b n h = grind (arith, nat_tests)

pub name_short : (name : List ℕ) → IsTrue (is_rule_name name) → length name ≤ 32
name_short name h = within_32 (list_all is_name_letter name) (length name) h

pub refused_short : (word : List ℕ) → length word ≤ 32 → length (refused_text word) ≤ 128
refused_short word h = simp length-append (omega arith)

pub denied_short : (rule : List ℕ) → length rule ≤ 32 → length (denied_text rule) ≤ 128
denied_short rule h = simp length-append (omega arith)

pub not_admitted_short : (r : Reason) → length (not_admitted_text (reason_word r)) ≤ 128
not_admitted_short r =
    let w = reason_short r in
    simp length-append (omega arith)

pub head_short : (code : ℕ) (kind : List ℕ) (size : ℕ) (close : Bool) → code < 2 ^ 32 → length (phrase code) ≤ 21 → length kind ≤ 32 → size < 2 ^ 64
    → length (head_text code kind size close) ≤ 256
head_short code kind size close h p k s =
    let a = number_short code h in
    let b = size_short size s in
    let c = challenge_short code in
    let d = closing_short close in
    simp length-append (omega arith)

pieces : (a d s p t k l n x y e : List ℕ)
    → a ++ d ++ s ++ p ++ (e ++ t) ++ k ++ (e ++ l) ++ n ++ e ++ x ++ y ++ e ≡ (a ++ d ++ s ++ p ++ e) ++ (t ++ k ++ e) ++ (l ++ n ++ e) ++ x ++ y ++ e
pieces a d s p t k l n x y e = simp append_assoc

-- the pieces of a head, one after another
pub head_pieces : (code : ℕ) (kind : List ℕ) (size : ℕ) (close : Bool)
    → codes "HTTP/1.1 " ++ decimal code ++ codes " " ++ phrase code ++ (13 ∷ 10 ∷ codes "Content-Type: ") ++ kind ++ (13 ∷ 10 ∷ codes "Content-Length: ")
    ++ decimal size ++ (13 ∷ 10 ∷ [])
    ++ challenge code ++ closing close ++ (13 ∷ 10 ∷ [])
    ≡ head_text code kind size close
head_pieces code kind size close =
    pieces (codes "HTTP/1.1 ") (decimal code) (codes " ") (phrase code) (codes "Content-Type: ") kind (codes "Content-Length: ") (decimal size) (challenge code)
    (closing close) (13 ∷ 10 ∷ [])

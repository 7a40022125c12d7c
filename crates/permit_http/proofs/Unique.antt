-- The start of a stream means one thing.
use Rattle.std.proofs.Common.{◌≡◌, ℕ, List, [], append-nil, length, take, drop, subst, Result, Ok, Err, inl, inr, sym, ap, ◌∙◌, arith}
use Rattle.httparse.specs.Grammar.{RequestHead}
use Rattle.httparse.proofs.GrammarLemmas.{request_unique}
use Rattle.permit_http.specs.Head.{HeadAt, IsOpen, LacksHead, NeverHasHead, judged, pairs_of}
use Rattle.permit_http.specs.Message.{MessageData, IsMessage, HasFault, ShowsFault, LacksBody, IsUnfinished, message_of}
use Rattle.permit_http.specs.Spans.{Covers}
use Rattle.permit_http.specs.declared.message.MessageSpans.{MessageSpans}
use Rattle.permit_http.specs.declared.fault.Fault.{Fault}
use Rattle.permit_http.specs.declared.fault.Fault.TheVariants.{Head}

-- one head, and one rest after it
one_head : (bytes after other : List ℕ) (h k : RequestHead) → HeadAt bytes h after → HeadAt bytes k other → (h ≡ k) × (after ≡ other)
one_head bytes after other h k x y = request_unique bytes h k after other x.reads y.reads

-- one judgement of it
one_judgement : (h k : RequestHead) (r q : Result ℕ Fault) → h ≡ k → judged h.minor (pairs_of h) ≡ r → judged k.minor (pairs_of k) ≡ q → r ≡ q
one_judgement h k r q e x y = sym x ∙ ap (λ z. judged z.minor (pairs_of z)) e ∙ y

one_length : (n m : ℕ) → (let r : Result ℕ Fault = Ok n in let q : Result ℕ Fault = Ok m in r ≡ q) → n ≡ m
one_length n m e = cc

one_fault_of : (f g : Fault) → (let r : Result ℕ Fault = Err f in let q : Result ℕ Fault = Err g in r ≡ q) → f ≡ g
one_fault_of f g e = cc

not_both : (n : ℕ) (f : Fault) → (let r : Result ℕ Fault = Ok n in let q : Result ℕ Fault = Err f in r ≡ q) → ⊥
not_both n f e = cc

pub one_message : (bytes rest other_rest : List ℕ) (m other : MessageData) → IsMessage bytes m rest → IsMessage bytes other other_rest
    → (m ≡ other) × (rest ≡ other_rest)
one_message bytes rest other_rest m other x y =
    let same = one_head bytes x.1 y.1 x.0 y.0 x.3.head y.3.head in
    let size : x.2 ≡ y.2 = one_length x.2 y.2 (one_judgement x.0 y.0 _ _ same.0 x.3.length y.3.length) in (
      x.5 ∙ ap (λ h. message_of h (take x.2 x.1)) same.0 ∙ ap (λ n. message_of y.0 (take n x.1)) size ∙ ap (λ a. message_of y.0 (take y.2 a)) same.1 ∙ sym y.5,
      x.6 ∙ ap (λ n. drop n x.1) size ∙ ap (drop y.2) same.1 ∙ sym y.6,
    )

pub one_fault : (bytes : List ℕ) (fault other : Fault) → HasFault bytes fault → HasFault bytes other → fault ≡ other
one_fault bytes fault other x y =
    let same = one_head bytes x.1 y.1 x.0 y.0 x.2 y.2 in
    one_fault_of fault other (one_judgement x.0 y.0 _ _ same.0 x.3 y.3)

pub message_or_fault : (bytes rest : List ℕ) (m : MessageData) (fault : Fault) → IsMessage bytes m rest → HasFault bytes fault → ⊥
message_or_fault bytes rest m fault x y =
    let same = one_head bytes x.1 y.1 x.0 y.0 x.3.head y.2 in
    not_both x.2 fault (one_judgement x.0 y.0 _ _ same.0 x.3.length y.3)

-- a whole message leaves nothing of its body to come
whole_or_short : (bytes rest : List ℕ) (m : MessageData) → IsMessage bytes m rest → LacksBody bytes → ⊥
whole_or_short bytes rest m x y =
    let same = one_head bytes x.1 y.1 x.0 y.0 x.3.head y.3.head in
    let size : x.2 ≡ y.2 = one_length x.2 y.2 (one_judgement x.0 y.0 _ _ same.0 x.3.length y.3.length) in
    omega (arith, x.4, y.4, size, ap length same.1)

pub message_or_unfinished : (bytes rest : List ℕ) (m : MessageData) → IsMessage bytes m rest → IsUnfinished bytes → ⊥
message_or_unfinished bytes rest m x u = elim u [ inl none ↦ none x.0 x.1 x.3.head | inr short ↦ whole_or_short bytes rest m x short ]

pub fault_or_unfinished : (bytes : List ℕ) (fault : Fault) → HasFault bytes fault → IsUnfinished bytes → ⊥
fault_or_unfinished bytes fault x u = elim u [ inl none ↦ none x.0 x.1 x.2 | inr short ↦ faulty_or_short short ]
  where
    faulty_or_short : LacksBody bytes → ⊥
    faulty_or_short y =
        let same = one_head bytes y.1 x.1 y.0 x.0 y.3.head x.2 in
        not_both y.2 fault (one_judgement y.0 x.0 _ _ same.0 y.3.length x.3)

-- bytes that show a fault may wait for no more of a head
pub shown_not_open : (bytes : List ℕ) (fault : Fault) → ShowsFault bytes fault → IsOpen bytes → ⊥
shown_not_open bytes fault shown now = elim shown [
  | inl x ↦ now.0 x.0 x.1 x.2
  | inr long ↦ absurd (omega (arith, long.2, now.1))
]

-- the fault that they show is that of a head that is there
pub shown_of_head : (bytes after : List ℕ) (h : RequestHead) (fault : Fault) → HeadAt bytes h after → ShowsFault bytes fault → HasFault bytes fault
shown_of_head bytes after h fault there shown = elim shown [
  | inl x ↦ x
  | inr long ↦ absurd (long.1 h after there)
]

-- a head without a fault shows none
pub covered_shows_none : (bytes : List ℕ) (s : MessageSpans) (h : RequestHead) (fault : Fault) → Covers bytes s h → ShowsFault bytes fault → ⊥
covered_shows_none bytes s h fault covers shown =
    let x = shown_of_head bytes (drop s.body.start bytes) h fault covers.head shown in
    let same = one_head bytes (drop s.body.start bytes) x.1 h x.0 covers.head x.2 in
    not_both _ fault (one_judgement h x.0 _ _ same.0 covers.length x.3)

-- the fault of a head that is there is the one that the bytes show
pub shown_is : (bytes after : List ℕ) (h : RequestHead) (fault other : Fault) → HeadAt bytes h after → judged h.minor (pairs_of h) ≡ Err other
    → ShowsFault bytes fault → other ≡ fault
shown_is bytes after h fault other there is shown =
    one_fault bytes other fault (h, after, there, is) (shown_of_head bytes after h fault there shown)

-- where no head can come, the fault that the bytes show is that of the head
pub shown_of_none : (bytes : List ℕ) (fault : Fault) → NeverHasHead bytes → ShowsFault bytes fault → fault ≡ Head
shown_of_none bytes fault never shown =
    let none : LacksHead bytes = subst LacksHead (append-nil bytes) (never []) in
    elim shown [
      | inl x ↦ absurd (none x.0 x.1 x.2)
      | inr long ↦ long.0
    ]

-- An answer's text by its parts.
use Rattle.std.proofs.Common.{ℕ, Bool, List, ◌≡◌, ◌++◌, ◌-◌, length, take, drop, codes, ap, ap₂, sym, ◌∙◌, refl, arith, true≢false}
use Rattle.std.proofs.Math.Seq.{drop-append_seam, take-append_seam}
use Rattle.std.proofs.lemmas.List.{length-append}
use Rattle.std.specs.Prelude.{IfOk, OnErr, IsTrue, Result, Ok, Err, not}
use Rattle.permit_model.specs.Machine.{Done, ParcelShown, FileShown, Listed, RegisterShown, Refused}
use Rattle.permit_answer.specs.AnswerText.{AnswerData, Replied, Faulted, answer_text, body_text, content_type, head_text, status_code}
use Rattle.permit_answer.specs.Outgoing.{is_read_out}
use Rattle.permit_answer.specs.Made.{made_bytes}
use Rattle.permit_answer.specs.declared.write.Made.{Made}

-- what was made of a status and a body is the text of these
pub made_in_place : (status code : ℕ) (said body : List ℕ) (close : Bool) (made : List ℕ) → status ≡ code → said ≡ body
    → made ≡ head_text status (codes "application/json") (length said) close ++ said
    → made ≡ head_text code (codes "application/json") (length body) close ++ body
made_in_place status code said body close made s t e =
    e ∙ ap (λ n. head_text n (codes "application/json") (length said) close ++ said) s
    ∙ ap (λ x. head_text code (codes "application/json") (length x) close ++ x) t

-- what isn't read out is in JSON
pub in_json : (answer : AnswerData) → IsTrue (not (is_read_out answer)) → content_type answer ≡ codes "application/json"
in_json (Replied (Done number) action day) placed = refl
in_json (Replied (ParcelShown parcel) action day) placed = absurd (true≢false (sym placed))
in_json (Replied (FileShown file papers) action day) placed = absurd (true≢false (sym placed))
in_json (Replied (Listed files) action day) placed = absurd (true≢false (sym placed))
in_json (Replied (RegisterShown kind files) action day) placed = absurd (true≢false (sym placed))
in_json (Replied (Refused why) action day) placed = refl
in_json (Faulted fault) placed = refl

-- what is read out isn't refused
pub read_out_code : (answer : AnswerData) → IsTrue (is_read_out answer) → status_code answer ≡ 200
read_out_code (Replied (Done number) action day) read = absurd (true≢false (sym read))
read_out_code (Replied (ParcelShown parcel) action day) read = refl
read_out_code (Replied (FileShown file papers) action day) read = refl
read_out_code (Replied (Listed files) action day) read = refl
read_out_code (Replied (RegisterShown kind files) action day) read = refl
read_out_code (Replied (Refused why) action day) read = absurd (true≢false (sym read))
read_out_code (Faulted fault) read = absurd (true≢false (sym read))

-- a head of these parts before this body is the text of the answer that has them
pub made_of_parts : (answer : AnswerData) (close : Bool) (status : ℕ) (kind body made : List ℕ) → status ≡ status_code answer → kind ≡ content_type answer
    → body ≡ body_text answer → made ≡ head_text status kind (length body) close ++ body → made ≡ answer_text answer close
unfolding answer_text
made_of_parts answer close status kind body made s k b e =
    e ∙ ap (λ n. head_text n kind (length body) close ++ body) s ∙ ap (λ t. head_text (status_code answer) t (length body) close ++ body) k
    ∙ ap (λ x. head_text (status_code answer) (content_type answer) (length x) close ++ x) b

-- the same of what may be made of a body in memory
pub made_in_memory : {E : Type 0} → (result : Result Made E) (answer : AnswerData) (close : Bool) (kind body : List ℕ) → IsTrue (is_read_out answer)
    → kind ≡ content_type answer → body ≡ body_text answer → IfOk result (λ made. made_bytes made ≡ head_text 200 kind (length body) close ++ body)
    → IfOk result (λ made. made_bytes made ≡ answer_text answer close)
made_in_memory (Ok made) answer close kind body read k b e =
    made_of_parts answer close 200 kind body (made_bytes made) (sym (read_out_code answer read)) k b e
made_in_memory (Err _) answer close kind body read k b e = tt

-- a head joined to the end of its body, and turned by as many bytes as it has, comes before it
pub turned : (body head joined text : List ℕ) (size count : ℕ) → joined ≡ body ++ head → size ≡ length joined → count ≡ length head
    → text ≡ drop (size - count) joined ++ take (size - count) joined → text ≡ head ++ body
turned body head joined text size count j s k e =
    let at : size - count ≡ length body = omega (arith, s, k, ap length j, length-append body head) in
    e ∙ rw (at, j) (ap₂ (λ x y. x ++ y) (drop-append_seam body head) (take-append_seam body head))

-- a fact that holds anyway holds at an error
pub on_err : {A E : Type 0} → (result : Result A E) (P : Type 0) → P → OnErr result P
on_err (Ok _) P p = tt
on_err (Err _) P p = p

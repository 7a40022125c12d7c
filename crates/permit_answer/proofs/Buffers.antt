-- Laws of the bytes that a buffer holds.
use Rattle.std.proofs.lemmas.Fmt.{decimal_step, decimal_digit}
use Rattle.std.specs.Fmt.{decimal}
use Rattle.std.proofs.Common.{◌≡◌, ◌⊎◌, ◌^◌, ◌/◌, ◌%◌, append-nil, ℕ, suc, ◌+◌, ◌<◌, ◌≤◌, List, [], ◌∷◌, ◌++◌, length}
use Rattle.std.proofs.Common.{get_or, take, sym, ap, ◌∙◌, arith, append_assoc, add-one, length-append, inl, inr}
use Rattle.std.proofs.Math.Seq.{take-suc}
use Rattle.std.proofs.lemmas.List.{take-append-le, take_all, length-take-le, take_more_set}
use Rattle.permit_answer.specs.Buffer.{room}

pub le_total : (m n : ℕ) → (m ≤ n) ⊎ (n ≤ m)
le_total m n = grind arith

pub take-take-append : (n : ℕ) (a b : List ℕ) → take n (take n a ++ b) ≡ take n (a ++ b)
take-take-append n a b =
    elim (le_total n (length a)) [
      | inl h ↦
          let short : length (take n a) ≡ n = length-take-le n a h in
          let here : n ≤ length (take n a) = omega arith in
          take-append-le n (take n a) b here ∙ take_all n (take n a) (omega arith) ∙ sym (take-append-le n a b h)
      | inr h ↦ ap (λ x. take n (x ++ b)) (take_all n a h)
    ]

-- a byte more, where there is room
pub pushed : (bytes : List ℕ) (len byte : ℕ) → length bytes ≡ 512 → len < 512
    → take (len + 1) (Rattle.std.proofs.Common.set bytes len byte) ≡ take room (take len bytes ++ byte ∷ [])
unfolding room
pushed bytes len byte e h =
    let within : len < length bytes = omega arith in
    let short : length (take len bytes) ≡ len = length-take-le len bytes (omega arith) in
    let fits : length (take len bytes ++ byte ∷ []) ≤ 512 = omega (arith, length-append (take len bytes) (byte ∷ [])) in
    take_more_set bytes len byte within ∙ sym (take_all 512 (take len bytes ++ byte ∷ []) fits)

-- where there is none
pub kept : (bytes : List ℕ) (len byte : ℕ) → length bytes ≡ 512 → len ≤ 512 → 512 ≤ len
    → take len bytes ≡ take room (take len bytes ++ byte ∷ [])
unfolding room
kept bytes len byte e h full =
    let short : length (take len bytes) ≡ len = length-take-le len bytes (omega arith) in
    let here : 512 ≤ length (take len bytes) = omega arith in
    sym (take_all 512 (take len bytes) (omega arith)) ∙ sym (take-append-le 512 (take len bytes) (byte ∷ []) here)

pub view_length : (bytes : List ℕ) (len : ℕ) → length bytes ≡ 512 → len ≤ 512 → len ≡ length (take len bytes)
view_length bytes len e h = sym (length-take-le len bytes (omega arith))

-- one byte more of the bytes that were pushed
pub pushed_more : (old : List ℕ) (bytes : List ℕ) (i : ℕ) (now : List ℕ) → i < length bytes
    → now ≡ take room (old ++ take i bytes)
    → take room (now ++ get_or bytes i 0 ∷ []) ≡ take room (old ++ take (i + 1) bytes)
pushed_more old bytes i now h e =
    ap (λ x. take room (x ++ get_or bytes i 0 ∷ [])) e
    ∙ take-take-append room (old ++ take i bytes) (get_or bytes i 0 ∷ [])
    ∙ ap (take room) (append_assoc old (take i bytes) (get_or bytes i 0 ∷ []))
    ∙ ap (λ x. take room (old ++ x)) (sym (rw add-one (take-suc bytes i 0 h)))

pub decimal_pushed : (old mid : List ℕ) (n : ℕ) → 10 ≤ n → n < 2 ^ 64
    → mid ≡ take room (old ++ decimal (n / 10))
    → take room (mid ++ (48 + n % 10) ∷ []) ≡ take room (old ++ decimal n)
decimal_pushed old mid n big fits e =
    ap (λ x. take room (x ++ (48 + n % 10) ∷ [])) e
    ∙ take-take-append room (old ++ decimal (n / 10)) ((48 + n % 10) ∷ [])
    ∙ ap (take room) (append_assoc old (decimal (n / 10)) ((48 + n % 10) ∷ []))
    ∙ ap (λ x. take room (old ++ x)) (sym (decimal_step n big fits))

pub digit_pushed : (old : List ℕ) (n : ℕ) → n < 10 → take room (old ++ (48 + n % 10) ∷ []) ≡ take room (old ++ decimal n)
digit_pushed old n small =
    let same : n % 10 ≡ n = omega arith in
    ap (λ x. take room (old ++ (48 + x) ∷ [])) same ∙ ap (λ x. take room (old ++ x)) (sym (decimal_digit n small))

pub whole_line : (old : List ℕ) → length old ≤ 512 → old ≡ take room (old ++ [])
unfolding room
whole_line old h = sym (ap (take room) (append-nil old) ∙ take_all 512 old h)

-- one piece after another
pub push_on : (mid next old piece : List ℕ) → mid ≡ take room old → next ≡ take room (mid ++ piece) → next ≡ take room (old ++ piece)
push_on mid next old piece e f = f ∙ ap (λ x. take room (x ++ piece)) e ∙ take-take-append room old piece

pub push_first : (start next piece : List ℕ) → start ≡ [] → next ≡ take room (start ++ piece) → next ≡ take room piece
push_first start next piece e f = f ∙ ap (λ x. take room (x ++ piece)) e

-- what fits is not cut
pub fitting : (now text : List ℕ) → length text ≤ 512 → now ≡ take room text → now ≡ text
unfolding room
fitting now text h e = e ∙ take_all 512 text h

-- the same of a piece that is said in other words
pub push_as : (mid next old said piece : List ℕ) → mid ≡ take room old → said ≡ piece → next ≡ take room (mid ++ said) → next ≡ take room (old ++ piece)
push_as mid next old said piece e s f = push_on mid next old piece e (f ∙ ap (λ x. take room (mid ++ x)) s)

-- a body after a head
pub whole_push : (first body said next : List ℕ) → length first ≤ 256 → length body ≤ 128 → said ≡ body → next ≡ take room (first ++ said) →
    next ≡ first ++ body
whole_push first body said next h k s f =
    let short : length (first ++ body) ≤ 512 = omega (arith, length-append first body) in
    fitting next (first ++ body) short (f ∙ ap (λ x. take room (first ++ x)) s)

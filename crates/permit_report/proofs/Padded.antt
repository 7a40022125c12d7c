-- Numbers in two and in four digits.
use Rattle.std.proofs.Common.{◌≡◌, ℕ, ◌+◌, ◌-◌, ◌/◌, ◌%◌, ◌<◌, ◌≤◌, ◌⊎◌, inl, inr, [], ◌∷◌, ◌++◌, length, replicate, refl, ap, ◌∙◌, arith}
use Rattle.std.proofs.lemmas.Fmt.{decimal_step, decimal_digit}
use Rattle.std.specs.Fmt.{decimal}
use Rattle.jiff_fmt.specs.Text.{pad2, pad4}
use Rattle.permit_model.specs.Register.{padded_number}

below_ten_or_not : (n : ℕ) → (n < 10) ⊎ (10 ≤ n)
below_ten_or_not n = grind arith

two_letters : (a b c d : ℕ) → a ≡ c → b ≡ d → (48 + a) ∷ (48 + b) ∷ [] ≡ (48 + c) ∷ (48 + d) ∷ []
two_letters a b c d e f = rw (e, f) refl

-- from 10 on, two digits are written as they are
decimal_two : (n : ℕ) → 10 ≤ n → n < 100 → decimal n ≡ pad2 n
decimal_two n low high =
    decimal_step n low (omega arith) ∙ ap (λ t. t ++ (48 + n % 10) ∷ []) (decimal_digit (n / 10) (omega arith))

-- from 1000 on, four digits are
decimal_four : (n : ℕ) → 1000 ≤ n → n < 10000 → decimal n ≡ pad4 n
decimal_four n low high =
    let third : n / 10 % 10 ≡ n % 100 / 10 = omega arith in
    let fourth : n % 10 ≡ n % 100 % 10 = omega arith in
    let front : n / 10 / 10 ≡ n / 100 = omega arith in
    decimal_step n (omega arith) (omega arith)
    ∙ ap (λ t. t ++ (48 + n % 10) ∷ []) (decimal_step (n / 10) (omega arith) (omega arith)
    ∙ ap (λ t. t ++ (48 + n / 10 % 10) ∷ []) (decimal_two (n / 10 / 10) (omega arith) (omega arith) ∙ ap pad2 front))
    ∙ ap (λ t. pad2 (n / 100) ++ t) (two_letters (n / 10 % 10) (n % 10) (n % 100 / 10) (n % 100 % 10) third fourth)

pub padded_two : (n : ℕ) → n < 100 → padded_number 2 n ≡ pad2 n
padded_two n h =
    elim (below_ten_or_not n) [
      | inl small ↦
          let tens : 0 ≡ n / 10 = omega arith in
          let ones : n ≡ n % 10 = omega arith in
          ap (λ t. replicate (2 - length t) 48 ++ t) (decimal_digit n small) ∙ two_letters 0 n (n / 10) (n % 10) tens ones
      | inr large ↦ ap (λ t. replicate (2 - length t) 48 ++ t) (decimal_two n large h)
    ]

pub padded_four : (n : ℕ) → 1000 ≤ n → n < 10000 → padded_number 4 n ≡ pad4 n
padded_four n low high = ap (λ t. replicate (4 - length t) 48 ++ t) (decimal_four n low high)

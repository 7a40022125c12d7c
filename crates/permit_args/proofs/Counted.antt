-- The words that are refused are those of no value.
use Rattle.std.proofs.Common.{◌≡◌, ℕ, ◌<◌, ◌^◌, List, Bool, true, false, Result, Ok, Err, arith}
use Rattle.std.specs.Str.{bytes_eq}
use Rattle.std.proofs.lemmas.Slice.Eq.{bytes_eq-Decides}
use Rattle.std.specs.Str.Parse.{ParsesUnsigned}
use Rattle.std.proofs.lemmas.Fmt.{parse-decimal}
use Rattle.clap.specs.Words.{Text}
use Rattle.permit_args.specs.Plans.{IsCountOf}

-- a word of a count is read as that count
pub parsed : {E : Type 0} (bits greatest : ℕ) (text : Text) (r : Result ℕ E) (n : ℕ) → greatest < 2 ^ bits → greatest < 2 ^ 64 → ParsesUnsigned bits 10 text r
    → IsCountOf greatest text n → r ≡ Ok n
parsed bits greatest text r n small within parses is =
    parse-decimal bits n text r (omega (arith, is.most)) (omega (arith, is.most)) is.spelled parses

pub not_read : {E : Type 0} (r : Result ℕ E) (e : E) (n : ℕ) → r ≡ Err e → r ≡ Ok n → ⊥
not_read r e n failed read = cc

pub same_number : {E : Type 0} (r : Result ℕ E) (m n : ℕ) → r ≡ Ok m → r ≡ Ok n → m ≡ n
same_number r m n one other = cc

pub not_spelled : (xs ys : List ℕ) (b : Bool) → b ≡ bytes_eq xs ys → b ≡ false → xs ≡ ys → ⊥
not_spelled xs ys b is fails same = let yes : bytes_eq xs ys ≡ true = (bytes_eq-Decides xs ys).1 same in cc

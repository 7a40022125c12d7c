-- The second value of an option.
use Rattle.std.proofs.Common.{◌≡◌, ◌∙◌, ap, sym, refl, ℕ, ◌<◌, ◌≤◌, true, false, List, [], ◌∷◌, length, get_or, Option, None, Some, IfSome, is_some, map, arith}
use Rattle.std.specs.Prelude.{nat_lt, option_and_then, option_map, slice_get}
use Rattle.std.specs.Option.{option_copied}
use Rattle.std.proofs.lemmas.Bool.Decides.{nat_tests}
use Rattle.std.proofs.lemmas.Option.{slice_get_past, slice_get_read}
use Rattle.std.specs.Borrow.{Bor}
use Rattle.clap.specs.Words.{Text, matched_of, raw_values, rows_of}
use Rattle.clap.specs.declared.parser.matches.Found.{Found}
use Rattle.clap.proofs.WalkLemmas.{raw_values-rows}
use Rattle.permit_args.specs.Plans.{second_of, text_of}

past : (i n : ℕ) → false ≡ nat_lt i n → n ≤ i
past i n e = grind (arith, nat_tests)

within : (i n : ℕ) → true ≡ nat_lt i n → i < n
within i n e = grind (arith, nat_tests)

-- what `get` gives
pub got : {X : Type 0} (r : Option (Bor X)) (xs : List X) (i : ℕ) → is_some r ≡ nat_lt i (length xs) → IfSome r (λ x. x.now ≡ get_or xs i x.now)
    → option_copied r ≡ slice_get xs i
got None xs i there at = sym (slice_get_past xs i (past i (length xs) there))
got (Some x) xs i there at = sym (slice_get_read xs (length xs) i x.now refl (within i (length xs) there) at)

second_text : (values : List (Bor Text)) → slice_get (map (λ v. v.now) values) 1 ≡ text_of (slice_get values 1)
second_text [] = refl
second_text (a ∷ []) = refl
second_text (a ∷ b ∷ more) = refl

second_in : (raw : Option (Bor (List (Bor Text))))
    → option_and_then (λ values. slice_get values 1) (option_map (λ s. map (λ v. v.now) s.now) raw) ≡ text_of (option_and_then (λ s. slice_get s.now 1) raw)
second_in None = refl
second_in (Some values) = second_text values.now

pub second_is : (f : Found) (name : Text) (raw : Option (Bor (List (Bor Text)))) (o : Option (Bor Text))
    → option_map (λ s. map (λ v. v.now) s.now) raw ≡ option_map raw_values (matched_of f name)
    → o ≡ option_and_then (λ s. slice_get s.now 1) raw → second_of name (rows_of f) ≡ text_of o
second_is f name raw o values is =
    ap (option_and_then (λ vs. slice_get vs 1)) (sym (values ∙ raw_values-rows f name)) ∙ second_in raw ∙ ap text_of (sym is)

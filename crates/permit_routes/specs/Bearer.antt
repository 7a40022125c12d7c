-- The token in a value of the field Authorization.
use Rattle.std.specs.Prelude.{ℕ, List, Bool, Option, take, drop, codes, option_and_then}
use Rattle.std.specs.Str.{str_eq_ignore_ascii_case}
use Rattle.permit_base.specs.Limits.{only_if}
use Rattle.permit_base.specs.Texts.{is_token}

-- the scheme, in any case, and one space
abbrev pub is_bearer : List ℕ → Bool
is_bearer value = str_eq_ignore_ascii_case (take 7 value) (codes "Bearer ")

-- what comes after the scheme, where that is a token
abbrev pub token_of : List ℕ → Option (List ℕ)
token_of value = option_and_then (λ v. only_if is_token (drop 7 v)) (only_if is_bearer value)

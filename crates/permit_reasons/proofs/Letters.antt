-- The characters of a text that is shown.
use Rattle.std.proofs.Common.{◌≡◌, ap, sym, ◌∙◌, ℕ, List, [], ◌∷◌, ◌++◌, map, append_assoc, append-nil}
use Rattle.std.specs.Prelude.{encode_utf8, encode_utf8_all}

-- one character more
pub letters_more : (f : ℕ → ℕ) (xs : List ℕ) (x : ℕ) → encode_utf8_all (map f (xs ++ x ∷ [])) ≡ encode_utf8_all (map f xs) ++ encode_utf8 (f x)
letters_more f [] x = append-nil (encode_utf8 (f x))
letters_more f (y ∷ ys) x =
    ap (λ t. encode_utf8 (f y) ++ t) (letters_more f ys x) ∙ sym (append_assoc (encode_utf8 (f y)) (encode_utf8_all (map f ys)) (encode_utf8 (f x)))

-- One text added after another.
use Rattle.std.proofs.Common.{◌≡◌, ◌<◌, ℕ, ◌+◌, List, [], ◌∷◌, ◌++◌, length, get_or, map, take, sym, ◌∙◌, ap, subst, append_assoc}
use Rattle.std.proofs.lemmas.List.{append-nil, map-append, take_more}
use Rattle.std.proofs.lemmas.Grind.{flat_map-append}
use Rattle.std.proofs.lemmas.List.Concat.{flat_map-cons}
use Rattle.std.specs.List.{flat_map}
use Rattle.sha2.specs.declared.Sha256.{Sha256}
use Rattle.sha2.specs.Hashers.{Holds256}
use Rattle.permit_replay.specs.Adding.{Adds, column_text}
use Rattle.permit_replay.specs.declared.seal.columns.Column.{Column}
use Rattle.permit_replay.specs.TablesText.{columns}

pub adds_both : (a b : List ℕ) (x y z : Sha256) → Adds a x y → Adds b y z → Adds (a ++ b) x z
adds_both a b x y z first second = record {
  holds = λ m held. subst (Holds256 z) (append_assoc m a b) (second.holds (m ++ a) (first.holds m held));
}

pub adds_same : (a b : List ℕ) (x y : Sha256) → a ≡ b → Adds a x y → Adds b x y
adds_same a b x y e adds = subst (λ (t : List ℕ). Adds t x y) e adds

pub columns_more : (cs : List (List ℕ)) (c : List ℕ) → columns (cs ++ c ∷ []) ≡ columns cs ++ (9 ∷ c)
columns_more [] c = append-nil (9 ∷ c)
columns_more (x ∷ xs) c = ap (λ t. (9 ∷ x) ++ t) (columns_more xs c) ∙ sym (append_assoc (9 ∷ x) (columns xs) (9 ∷ c))

-- one column more of a line
pub adds_column : (word : List ℕ) (xs : List Column) (i : ℕ) (d : Column) (x y z : Sha256) → i < length xs
    → Adds (word ++ columns (map column_text (take i xs))) x y → Adds (9 ∷ column_text (get_or xs i d)) y z
    → Adds (word ++ columns (map column_text (take (i + 1) xs))) x z
adds_column word xs i d x y z less first second =
    let before = map column_text (take i xs) in
    let text = column_text (get_or xs i d) in
    let all : map column_text (take (i + 1) xs) ≡ before ++ text ∷ [] =
    ap (map column_text) (take_more xs i d less) ∙ map-append column_text (take i xs) (get_or xs i d ∷ []) in
    let is : (word ++ columns before) ++ (9 ∷ text) ≡ word ++ columns (map column_text (take (i + 1) xs)) =
    append_assoc word (columns before) (9 ∷ text) ∙ ap (λ t. word ++ t) (sym (ap columns all ∙ columns_more before text)) in
    adds_same _ _ x z is (adds_both _ _ x y z first second)

-- one row more after a text
pub adds_row : {A : Type 0} (text : List ℕ) (row_line : A → List ℕ) (xs : List A) (i : ℕ) (d : A) (x y z : Sha256) → i < length xs
    → Adds (text ++ flat_map row_line (take i xs)) x y → Adds (row_line (get_or xs i d)) y z
    → Adds (text ++ flat_map row_line (take (i + 1) xs)) x z
adds_row text row_line xs i d x y z less first second =
    let before = take i xs in
    let row = get_or xs i d in
    let one : flat_map row_line (row ∷ []) ≡ row_line row = flat_map-cons row_line row [] ∙ append-nil (row_line row) in
    let all : flat_map row_line (take (i + 1) xs) ≡ flat_map row_line before ++ row_line row =
    ap (flat_map row_line) (take_more xs i d less) ∙ flat_map-append row_line before (row ∷ []) ∙ ap (λ t. flat_map row_line before ++ t) one in
    let is : (text ++ flat_map row_line before) ++ row_line row ≡ text ++ flat_map row_line (take (i + 1) xs) =
    append_assoc text (flat_map row_line before) (row_line row) ∙ ap (λ t. text ++ t) (sym all) in
    adds_same _ _ x z is (adds_both _ _ x y z first second)

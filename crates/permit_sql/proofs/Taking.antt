-- What was taken of an answer is what the tree holds.
use Rattle.std.proofs.Common.{◌≡◌, ℕ, suc, ◌+◌, Bool, true, List, [], ◌∷◌, map, length, refl, ap, ap₂, subst, ◌∙◌, arith, IsPermutation}
use Rattle.std.specs.List.{AllByRecursion}
use Rattle.std.proofs.lemmas.List.Sorted.{IsPermutation-map, IsPermutation-sym}
use Rattle.sqlite_keyed.proofs.ListLemmas.{map-map, map_same}
use Rattle.sqlite_value.specs.Order.{Row}
use Rattle.permit_sql_rows.specs.Typed.{firsts}
use Rattle.permit_sql.specs.Found.{IsNumbered}
use Rattle.permit_sql.specs.Taken.{TookAll}

-- a taker that counts takes rows that are numbered
module _ {X T : Type 0} (width : ℕ) (shown : X → Row) (number : X → ℕ) (IsGood : X → Type 0) (count : T → ℕ) (took : T → Row → T → Bool → Type 0)
    (takes : (a b : T) (r : Row) → took a r b true → (x : X) × IsGood x × (firsts width 0 r ≡ shown x) × (number x ≡ suc (count a))
    × (count b ≡ suc (count a))) where
  pub took_numbered : (rows : List Row) (a b : T) (n : ℕ) → count a ≡ n → TookAll took rows a b
      → (xs : List X) × AllByRecursion IsGood xs × IsNumbered number (suc n) xs × (count b ≡ n + length xs) × (map (firsts width 0) rows ≡ map shown xs)
  took_numbered [] a b n at h = ([], tt, tt, ap count h ∙ at ∙ (let e : n ≡ n + 0 = omega arith in e), refl)
  took_numbered (r ∷ rows) a b n at h =
      let it = takes a h.0 r h.1 in
      let more = took_numbered rows h.0 b (suc n) (it.4 ∙ ap suc at) h.2 in
      let long : suc n + length more.0 ≡ n + suc (length more.0) = omega arith in
      (it.0 ∷ more.0, (it.1, more.1), (it.3 ∙ ap suc at, more.2), more.3 ∙ long, ap₂ ◌∷◌ it.2 more.4)

-- what a query shows of each row says what the row is
module _ {X : Type 0} (width : ℕ) (shown enc : X → Row) (seen unseen kept : Row → Row) (whole : (r : Row) → firsts width 0 (seen r) ≡ seen r)
    (means : (x : X) → unseen (shown x) ≡ enc x) where
  pub in_tree : (tree rows : List Row) (xs : List X) → IsPermutation (map seen tree) rows → map (firsts width 0) rows ≡ map shown xs →
      AllByRecursion (λ r. unseen (seen r) ≡ kept r) tree → IsPermutation (map enc xs) (map kept tree)
  in_tree tree rows xs same took all =
      let one : IsPermutation (map (firsts width 0) (map seen tree)) (map shown xs) =
      subst (IsPermutation (map (firsts width 0) (map seen tree))) took (IsPermutation-map (firsts width 0) _ _ same) in
      let two = IsPermutation-map unseen _ _ one in
      let left : map unseen (map (firsts width 0) (map seen tree)) ≡ map kept tree =
      ap (map unseen) (map-map (firsts width 0) seen tree ∙ map_same _ seen whole tree) ∙ go tree all in
      let right : map unseen (map shown xs) ≡ map enc xs = map-map unseen shown xs ∙ map_same _ enc means xs in
      IsPermutation-sym _ _ (subst (IsPermutation (map kept tree)) right (subst (λ l. IsPermutation l (map unseen (map shown xs))) left two))
    where
      go : (rs : List Row) → AllByRecursion (λ r. unseen (seen r) ≡ kept r) rs → map unseen (map seen rs) ≡ map kept rs
      go [] h = refl
      go (r ∷ rs) h = ap₂ ◌∷◌ h.0 (go rs h.1)

pub map_itself : {A : Type 0} (xs : List A) → map (λ x. x) xs ≡ xs
map_itself [] = refl
map_itself (x ∷ xs) = ap (λ l. x ∷ l) (map_itself xs)

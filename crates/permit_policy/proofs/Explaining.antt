-- A rule has no failing key exactly where it matches.
use Rattle.std.proofs.Common.{rules, arith, ◌≡◌, refl, ap, sym, ◌∙◌, Bool, true, false, cond, ◌&&◌, ℕ, ◌+◌, ◌<◌, List, [], ◌∷◌, ◌++◌, append_assoc, length}
use Rattle.std.proofs.Common.{drop, get_or, not, Option, is_none, is_some}
use Rattle.std.proofs.lemmas.List.{at_drop_more}
use Rattle.permit_model.specs.Facts.{Facts}
use Rattle.permit_model.specs.Policy.{Rule, Policy, matches}
use Rattle.permit_policy.specs.declared.key.Key.{Key}
use Rattle.permit_policy.specs.Explained.{or_else, unless, failing_key, Tried, explanation}

none_fails : (a b c d e f : Bool) (k1 k2 k3 k4 k5 k6 : Key)
    → is_none (or_else (unless a k1) (or_else (unless b k2) (or_else (unless c k3) (or_else (unless d k4) (or_else (unless e k5) (unless f k6))))))
    ≡ (a && b && c && d && e && f)
none_fails a b c d e f k1 k2 k3 k4 k5 k6 = grind arith

failing_none : (rule : Rule) (facts : Facts) → is_none (failing_key rule facts) ≡ matches rule facts
failing_none rule facts = grind (arith, none_fails)

-- what is said of a rule
abbrev pub tried_on : Facts → Rule → Tried
tried_on facts rule = record { rule = rule.name; failing = failing_key rule facts }

first_tried : (rules : Policy) (facts : Facts) (i : ℕ) (r : Rule) → i < length rules → r ≡ get_or rules i r
    → explanation (drop i rules) facts ≡ tried_on facts r ∷ cond (matches r facts) [] (explanation (drop (i + 1) rules) facts)
first_tried rules facts i r h e =
    at_drop_more (λ rs. explanation rs facts) rules i r h
    ∙ ap (λ x. tried_on facts x ∷ cond (matches x facts) [] (explanation (drop (i + 1) rules) facts)) (sym e)

-- a rule that doesn't match
pub tried_more : (rules : Policy) (facts : Facts) (i : ℕ) (r : Rule) (t : Tried) (made more whole : List Tried) → i < length rules → r ≡ get_or rules i r →
    t ≡ tried_on facts r
    → is_none t.failing ≡ false → more ≡ made ++ t ∷ [] → made ++ explanation (drop i rules) facts ≡ whole →
    more ++ explanation (drop (i + 1) rules) facts ≡ whole
tried_more rules facts i r t made more whole h e s n m k =
    let rest = explanation (drop (i + 1) rules) facts in
    let misses : matches r facts ≡ false = sym (failing_none r facts) ∙ ap (λ (x : Tried). is_none x.failing) (sym s) ∙ n in
    let here : explanation (drop i rules) facts ≡ t ∷ rest = first_tried rules facts i r h e ∙ ap (λ b. tried_on facts r ∷ cond b [] rest) misses
    ∙ ap (λ x. x ∷ rest) (sym s) in
    ap (λ ts. ts ++ rest) m ∙ append_assoc made (t ∷ []) rest ∙ ap (λ ts. made ++ ts) (sym here) ∙ k

-- the rule that decides
pub tried_last : (rules : Policy) (facts : Facts) (i : ℕ) (r : Rule) (t : Tried) (made more whole : List Tried) → i < length rules → r ≡ get_or rules i r →
    t ≡ tried_on facts r
    → is_none t.failing ≡ true → more ≡ made ++ t ∷ [] → made ++ explanation (drop i rules) facts ≡ whole → more ≡ whole
tried_last rules facts i r t made more whole h e s n m k =
    let rest = explanation (drop (i + 1) rules) facts in
    let hits : matches r facts ≡ true = sym (failing_none r facts) ∙ ap (λ (x : Tried). is_none x.failing) (sym s) ∙ n in
    let here : explanation (drop i rules) facts ≡ t ∷ [] = first_tried rules facts i r h e ∙ ap (λ b. tried_on facts r ∷ cond b [] rest) hits
    ∙ ap (λ x. x ∷ []) (sym s) in
    m ∙ ap (λ ts. made ++ ts) (sym here) ∙ k

pub tried_is : (name : List ℕ) (failing : Option Key) (r : Rule) (facts : Facts) → name ≡ r.name → failing ≡ failing_key r facts
    → (let t : Tried = record { rule = name; failing = failing } in t ≡ tried_on facts r)
tried_is name failing r facts p q = rw (p, q) refl

pub is_none_by : {A : Type 0} (o : Option A) (b : Bool) → is_some o ≡ b → is_none o ≡ not b
is_none_by o b e = grind arith

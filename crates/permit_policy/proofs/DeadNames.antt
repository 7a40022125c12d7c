-- The names of the dead rules, as they are found.
use Rattle.std.proofs.Common.{arith, ◌≡◌, ◌⊎◌, inl, refl, ap, sym, ◌∙◌, subst, Bool, true, false, ℕ, zero, suc, ◌+◌, ◌<◌, ◌≤◌, List, [], ◌∷◌, ◌++◌, append_assoc}
use Rattle.std.proofs.Common.{append-nil, length, replicate, drop, get_or}
use Rattle.std.proofs.lemmas.List.{at_drop_more, drop_all, get_or_default}
use Rattle.permit_model.specs.Policy.{Rule, Policy}
use Rattle.permit_policy.specs.Dead.{IsLive, IsDead, AreDeadFrom, AreDead}
use Rattle.permit_policy.specs.Marks.{is_marked, Marks}

no_mark : (n i : ℕ) → is_marked (replicate n false) i ≡ false
no_mark zero i = refl
no_mark (suc n) zero = refl
no_mark (suc n) (suc i) = no_mark n i

abbrev pub AllMarks : Policy → List Bool → Type 0
AllMarks policy marks = Marks policy (λ facts. Unit {0}) (replicate (length policy) false) marks

live_by : (policy : Policy) (i : ℕ) → (is_marked (replicate (length policy) false) i ≡ true) ⊎ IsLive policy i → IsLive policy i
live_by policy i h = grind (arith, no_mark)

pub is_live : (policy : Policy) (marks : List Bool) (i : ℕ) → AllMarks policy marks → is_marked marks i ≡ true → IsLive policy i
is_live policy marks i m e = live_by policy i (m.sound i e)

pub is_dead : (policy : Policy) (marks : List Bool) (i : ℕ) → AllMarks policy marks → is_marked marks i ≡ false → IsDead policy i
is_dead policy marks i m e = λ facts d. let bad : true ≡ false = sym (m.whole facts tt i d) ∙ e in cc

-- the names so far, before those of the rules from a place on
abbrev pub Named : Policy → ℕ → List (List ℕ) → Type 0
Named policy i names = (rest : List (List ℕ)) → AreDeadFrom policy i (drop i policy) rest → AreDead policy (names ++ rest)

at_rule : (policy : Policy) (i : ℕ) (rule : Rule) (rest : List (List ℕ)) → i < length policy → rule ≡ get_or policy i rule
    → AreDeadFrom policy i (rule ∷ drop (i + 1) policy) rest → AreDeadFrom policy i (drop i policy) rest
at_rule policy i rule rest h e d =
    let P : Policy → Type 0 = λ rules. AreDeadFrom policy i rules rest in
    let here : drop i policy ≡ rule ∷ drop (i + 1) policy = at_drop_more (λ (rs : Policy). rs) policy i rule h ∙ ap (λ r. r ∷ drop (i + 1) policy) (sym e) in
    subst P (sym here) d

pub name_left : (policy : Policy) (i : ℕ) (rule : Rule) (names : List (List ℕ)) → i < length policy → rule ≡ get_or policy i rule
    → IsLive policy i → Named policy i names → Named policy (i + 1) names
name_left policy i rule names h e l before = λ rest d. before rest (at_rule policy i rule rest h e (inl (l, d)))

pub name_more : (policy : Policy) (i : ℕ) (rule : Rule) (names more : List (List ℕ)) (name : List ℕ) → i < length policy → rule ≡ get_or policy i rule
    → name ≡ rule.name → more ≡ names ++ name ∷ [] → IsDead policy i → Named policy i names → Named policy (i + 1) more
name_more policy i rule names more name h e n m dead before = grind (arith, append_assoc, at_rule)

pub names_end : (policy : Policy) (i : ℕ) (names : List (List ℕ)) → length policy ≤ i → Named policy i names → AreDead policy names
names_end policy i names h before =
    let P : Policy → Type 0 = λ rules. AreDeadFrom policy i rules [] in
    let Q : List (List ℕ) → Type 0 = λ ns. AreDead policy ns in
    subst Q (append-nil names) (before [] (subst P (sym (drop_all i policy h)) refl))

pub mark_is : (marks : List Bool) (i : ℕ) (b : Bool) → i < length marks → b ≡ get_or marks i b → is_marked marks i ≡ b
mark_is marks i b h e = get_or_default marks i false b h ∙ sym e

-- A party is found by its digest through the place to which its mark leads, also after its token was renewed.
use Rattle.std.proofs.Common.{◌≡◌, ◌<◌, ◌⊎◌, inl, inr, ℕ, zero, suc, ◌==◌, Bool, true, false, cond, List, [], ◌∷◌, ◌++◌, length, find, get_or, set, refl, sym, ◌∙◌}
use Rattle.std.proofs.Common.{ap, subst, arith}
use Rattle.std.specs.Prelude.{Option, Some, None, bytes_eq, nat_eq}
use Rattle.std.specs.HashMap.{HashMap, get}
use Rattle.std.proofs.lemmas.Bool.Decides.{nat_tests}
use Rattle.std.proofs.lemmas.List.{length-set}
use Rattle.std.proofs.lemmas.Slice.Eq.{bytes_eq-Decides}
use Rattle.permit_store.specs.Places.{mark_of, led_after, led_before, IsLedBy, IsWithin, LeadBefore}

-- ---- what is found by a test

-- none, where each row fails
none_found : {A : Type 0} (test : A → Bool) (rows : List A) → ((k : ℕ) (d : A) → k < length rows → test (get_or rows k d) ≡ false) → find test rows ≡ None
none_found test [] fails = refl
none_found test (row ∷ rows) fails =
    ap (λ b. cond b (Some row) (find test rows)) (fails 0 row (omega arith))
    ∙ none_found test rows (λ k d less. fails (suc k) d (omega (arith, less)))

-- the row at the place, where it passes and none before it does
first_found : {A : Type 0} (test : A → Bool) (rows : List A) (place : ℕ) (d : A) → place < length rows → test (get_or rows place d) ≡ true
    → ((k : ℕ) → k < place → test (get_or rows k d) ≡ false) → find test rows ≡ Some (get_or rows place d)
first_found test [] place d within passes fails = absurd (omega arith)
first_found test (row ∷ rows) zero d within passes fails = ap (λ b. cond b (Some row) (find test rows)) passes
first_found test (row ∷ rows) (suc place) d within passes fails =
    ap (λ b. cond b (Some row) (find test rows)) (fails 0 (omega arith))
    ∙ first_found test rows place d (omega arith) passes (λ k less. fails (suc k) (omega (arith, less)))

-- ---- where rows lie

behind_others : {A : Type 0} (rows : List A) (row d : A) → get_or (rows ++ row ∷ []) (length rows) d ≡ row
behind_others [] row d = refl
behind_others (first ∷ rows) row d = behind_others rows row d

before_last : {A : Type 0} (rows : List A) (row d : A) (k : ℕ) → k < length rows → get_or (rows ++ row ∷ []) k d ≡ get_or rows k d
before_last [] row d k less = absurd (omega arith)
before_last (first ∷ rows) row d zero less = refl
before_last (first ∷ rows) row d (suc k) less = before_last rows row d k (omega arith)

written : {A : Type 0} (rows : List A) (i : ℕ) (new d : A) → i < length rows → get_or (set rows i new) i d ≡ new
written [] i new d less = absurd (omega arith)
written (row ∷ rows) zero new d less = refl
written (row ∷ rows) (suc i) new d less = written rows i new d (omega arith)

left : {A : Type 0} (rows : List A) (i k : ℕ) (new d : A) → (k < i) ⊎ (i < k) → get_or (set rows i new) k d ≡ get_or rows k d
left [] i k new d other = refl
left (row ∷ rows) zero zero new d (inl less) = absurd (omega arith)
left (row ∷ rows) zero zero new d (inr less) = absurd (omega arith)
left (row ∷ rows) zero (suc k) new d other = refl
left (row ∷ rows) (suc i) zero new d other = refl
left (row ∷ rows) (suc i) (suc k) new d (inl less) = left rows i k new d (inl (omega (arith, less)))
left (row ∷ rows) (suc i) (suc k) new d (inr less) = left rows i k new d (inr (omega (arith, less)))

longer : {A : Type 0} (rows : List A) (row : A) → length (rows ++ row ∷ []) ≡ suc (length rows)
longer [] row = refl
longer (first ∷ rows) row = ap suc (longer rows row)

-- ---- one mark

same_mark : (a b : ℕ) → a ≡ b → (a == b) ≡ true
same_mark a b e = grind (arith, nat_tests)

after_kept : (o : Option ℕ) (b : Bool) (last k : ℕ) → IsLedBy o k → IsLedBy (led_after o b last) k
after_kept None b last k led = absurd led
after_kept (Some place) b last k led = led

after_here : (o : Option ℕ) (b : Bool) (last : ℕ) → b ≡ true → IsWithin o last → IsLedBy (led_after o b last) last
after_here (Some place) b last e within = omega (arith, within)
after_here None true last e within = omega arith
after_here None false last e within = cc

after_within : (o : Option ℕ) (b : Bool) (last : ℕ) → IsWithin o last → IsWithin (led_after o b last) (suc last)
after_within (Some place) b last within = omega (arith, within)
after_within None true last within = omega arith
after_within None false last within = tt

before_kept : (o : Option ℕ) (b : Bool) (i k : ℕ) → IsLedBy o k → IsLedBy (led_before o b i) k
before_kept None b i k led = absurd led
before_kept (Some place) true i k led = omega (arith, led)
before_kept (Some place) false i k led = led

before_here : (o : Option ℕ) (b : Bool) (i : ℕ) → b ≡ true → IsLedBy (led_before o b i) i
before_here (Some place) true i e = omega arith
before_here None true i e = omega arith
before_here o false i e = cc

before_within : (o : Option ℕ) (b : Bool) (i count : ℕ) → i < count → IsWithin o count → IsWithin (led_before o b i) count
before_within (Some place) true i count less within = omega (arith, less, within)
before_within (Some place) false i count less within = within
before_within None true i count less within = less
before_within None false i count less within = tt

either_side : (k i : ℕ) → (k ≡ i) ⊎ ((k < i) ⊎ (i < k))
either_side zero zero = inl refl
either_side zero (suc i) = inr (inl (omega arith))
either_side (suc k) zero = inr (inr (omega arith))
either_side (suc k) (suc i) = by (either_side k i)
  where
    by : (k ≡ i) ⊎ ((k < i) ⊎ (i < k)) → (suc k ≡ suc i) ⊎ ((suc k < suc i) ⊎ (suc i < suc k))
    by (inl e) = inl (ap suc e)
    by (inr (inl less)) = inr (inl (omega (arith, less)))
    by (inr (inr less)) = inr (inr (omega (arith, less)))

-- ---- all marks

module _ {A S : Type 0} (text : A → List ℕ) (rows : List A) (marks : HashMap ℕ ℕ S) (before : LeadBefore text rows marks) where
  -- one more row after the others
  module _ (later : HashMap ℕ ℕ S) (row : A) (mark : ℕ) (is : mark ≡ mark_of (text row))
      (put : (m : ℕ) → get nat_eq later m ≡ led_after (get nat_eq marks m) (mark == m) (length rows)) where
    more_led : (k : ℕ) (d : A) → (k ≡ length rows) ⊎ ((k < length rows) ⊎ (length rows < k)) → k < length (rows ++ row ∷ [])
        → IsLedBy (get nat_eq later (mark_of (text (get_or (rows ++ row ∷ []) k d)))) k
    more_led k d (inl e) less =
        rw (e, behind_others rows row d, put (mark_of (text row)))
        (after_here (get nat_eq marks (mark_of (text row))) (mark == mark_of (text row)) (length rows) (same_mark mark (mark_of (text row)) is)
        (before.within (mark_of (text row))))
    more_led k d (inr (inl within)) less =
        let m = mark_of (text (get_or rows k d)) in
        rw (before_last rows row d k within, put m) (after_kept (get nat_eq marks m) (mark == m) (length rows) k (before.led k d within))
    more_led k d (inr (inr past)) less = absurd (omega (arith, longer rows row, less, past))

    pub before_more : LeadBefore text (rows ++ row ∷ []) later
    before_more = record {
      led = λ k d less. more_led k d (either_side k (length rows)) less;
      within = λ m. rw (longer rows row, put m) (after_within (get nat_eq marks m) (mark == m) (length rows) (before.within m));
    }

  -- another row in the place of one
  module _ (later : HashMap ℕ ℕ S) (new : A) (i mark : ℕ) (there : i < length rows) (is : mark ≡ mark_of (text new))
      (put : (m : ℕ) → get nat_eq later m ≡ led_before (get nat_eq marks m) (mark == m) i) where
    set_led : (k : ℕ) (d : A) → (k ≡ i) ⊎ ((k < i) ⊎ (i < k)) → k < length (set rows i new)
        → IsLedBy (get nat_eq later (mark_of (text (get_or (set rows i new) k d)))) k
    set_led k d (inl e) less =
        rw (e, written rows i new d there, put (mark_of (text new)))
        (before_here (get nat_eq marks (mark_of (text new))) (mark == mark_of (text new)) i (same_mark mark (mark_of (text new)) is))
    set_led k d (inr other) less =
        let m = mark_of (text (get_or rows k d)) in
        let within : k < length rows = omega (arith, length-set rows i new, less) in
        rw (left rows i k new d other, put m) (before_kept (get nat_eq marks m) (mark == m) i k (before.led k d within))

    pub before_set : LeadBefore text (set rows i new) later
    before_set = record {
      led = λ k d less. set_led k d (either_side k i) less;
      within = λ m. rw (length-set rows i new, put m) (before_within (get nat_eq marks m) (mark == m) i (length rows) there (before.within m));
    }

  module _ (key : List ℕ) (mark : ℕ) (is : mark ≡ mark_of key) where
    -- where a row has the text, its mark leads to it or before it
    led_to : (k : ℕ) (d : A) → k < length rows → bytes_eq (text (get_or rows k d)) key ≡ true → IsLedBy (get nat_eq marks mark) k
    led_to k d less e =
        let same : mark_of (text (get_or rows k d)) ≡ mark = ap mark_of ((bytes_eq-Decides (text (get_or rows k d)) key).0 e) ∙ sym is in
        subst (λ m. IsLedBy (get nat_eq marks m) k) same (before.led k d less)

    unless : (b : Bool) (k : ℕ) (d : A) → bytes_eq (text (get_or rows k d)) key ≡ b → (b ≡ true → ⊥) → bytes_eq (text (get_or rows k d)) key ≡ false
    unless true k d e never = absurd (never refl)
    unless false k d e never = e

    -- a mark that leads nowhere is that of no row
    pub unled : get nat_eq marks mark ≡ None → find (λ row. bytes_eq (text row) key) rows ≡ None
    unled e = none_found (λ row. bytes_eq (text row) key) rows
        (λ k d less. unless (bytes_eq (text (get_or rows k d)) key) k d refl
        (λ yes. subst (λ o. IsLedBy o k) e (led_to k d less yes)))

    -- where it leads there is a row
    pub led_within : (place : ℕ) → get nat_eq marks mark ≡ Some place → place < length rows
    led_within place e = subst (λ o. IsWithin o (length rows)) e (before.within mark)

    -- and if that row has the text, it is the first that does
    pub led_there : (place : ℕ) (d : A) → get nat_eq marks mark ≡ Some place → bytes_eq (text (get_or rows place d)) key ≡ true →
        find (λ row. bytes_eq (text row) key) rows ≡ Some (get_or rows place d)
    led_there place d e w =
        let within = led_within place e in
        first_found (λ row. bytes_eq (text row) key) rows place d within w
        (λ k less. unless (bytes_eq (text (get_or rows k d)) key) k d refl
        (λ yes. let far = subst (λ o. IsLedBy o k) e (led_to k d (omega (arith, less, within)) yes) in omega (arith, less, far)))

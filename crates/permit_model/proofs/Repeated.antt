-- Requests for parcels that run twice over.
use Rattle.std.proofs.Common.{◌≡◌, ◌⊎◌, ℕ, ◌+◌, Bool, true, false, not, ◌&&◌, ◌||◌, List, [], ◌∷◌, ◌++◌, length, map, refl, ◌∙◌, ap}
use Rattle.std.proofs.Common.{arith, length-append}
use Rattle.std.specs.Prelude.{Option, None, Some, bytes_eq, nat_lt, nat_le}
use Rattle.std.specs.List.{list_any}
use Rattle.std.proofs.lemmas.List.{length-map}
use Rattle.std.proofs.lemmas.Slice.Eq.{bytes_eq-Decides}
use Rattle.permit_base.specs.Digests.{digest_of}
use Rattle.permit_base.specs.Limits.{most_records}
use Rattle.permit_base.specs.declared.words.Action.TheVariants as action
use Rattle.permit_base.specs.declared.request.Asked.{Asked}
use Rattle.permit_model.specs.History.{Entry, History, last_day}
use Rattle.permit_model.specs.Caller.{Party, who, is_party}
use Rattle.permit_model.specs.Parcels.{Parcel, parcels}
use Rattle.permit_model.specs.Facts.{office_facts}
use Rattle.permit_model.specs.Policy.{Policy, decision, is_allow}
use Rattle.permit_model.specs.Laws.{Wanted, parcel_wanted, parcels_asked}
use Rattle.permit_model.specs.Machine.{entry_of, outcome_by_caller, step, history_after}

-- ---- the reasons against a parcel

-- whether the caller's requests for parcels come to be admitted: it is known, in time and allowed
abbrev is_open : Policy → ℕ → ℕ → Option Party → Bool
is_open policy day last None = false
is_open policy day last (Some caller) = not (nat_lt day last) && is_allow (decision policy (office_facts caller.role action.AddParcel)).effect

abbrev is_held : History → List ℕ → Bool
is_held h lot = list_any (λ (p : Parcel). bytes_eq p.lot lot) (parcels h)

abbrev is_full : History → Bool
is_full h = nat_le most_records (length (parcels h))

-- whether there is a reason against the parcel
abbrev is_blocked : History → Wanted → Bool
is_blocked h p = not (is_party h p.2) || is_held h p.0 || is_full h

-- a request for the parcel changes nothing
abbrev IsSettled : Policy → List ℕ → ℕ → History → Wanted → Type 0
IsSettled policy token day h p = (is_open policy day (last_day h) (who h (digest_of token)) ≡ false) ⊎ (is_blocked h p ≡ true)

-- ---- one more parcel

held_map : (f : Parcel → Parcel) (test : Parcel → Bool) → ((p : Parcel) → test (f p) ≡ test p) → (ps : List Parcel) →
    list_any test (map f ps) ≡ list_any test ps
held_map f test same [] = refl
held_map f test same (p ∷ ps) = ap (λ b. b || list_any test (map f ps)) (same p) ∙ ap (λ b. test p || b) (held_map f test same ps)

held_last : (test : Parcel → Bool) (ps : List Parcel) (p : Parcel) → list_any test (ps ++ p ∷ []) ≡ list_any test ps || test p
held_last test [] p = or_false (test p)
  where
    or_false : (b : Bool) → (b || false) ≡ (false || b)
    or_false true = refl
    or_false false = refl
held_last test (q ∷ ps) p = ap (λ b. test q || b) (held_last test ps p) ∙ or_assoc (test q) (list_any test ps) (test p)
  where
    or_assoc : (a b c : Bool) → (a || (b || c)) ≡ ((a || b) || c)
    or_assoc true b c = refl
    or_assoc false b c = refl

-- the entry that a parcel is added by
abbrev added : History → ℕ → ℕ → Wanted → Entry
added h day caller p = entry_of h day caller (parcel_wanted p)

abbrev parcel_of : History → Wanted → Parcel
parcel_of h p = record { id = length (parcels h) + 1; lot = p.0; address = p.1; owner = p.2 }

is_held-added : (h : History) (day caller : ℕ) (p : Wanted) (lot : List ℕ) → is_held (added h day caller p ∷ h) lot ≡ is_held h lot || bytes_eq p.0 lot
is_held-added h day caller p lot = grind (arith, held_map, held_last)

length-added : (h : History) (day caller : ℕ) (p : Wanted) → length (parcels (added h day caller p ∷ h)) ≡ length (parcels h) + 1
length-added h day caller p = grind (arith, length-map, length-append)

still_full : (n m : ℕ) → m ≡ n + 1 → nat_le most_records n ≡ true → nat_le most_records m ≡ true
still_full n m e h = grind arith

still_any : (a b c b' c' : Bool) → ((a || b) || c) ≡ true → (b ≡ true → b' ≡ true) → (c ≡ true → c' ≡ true) → ((a || b') || c') ≡ true
still_any a b c b' c' h f g = grind arith

or_left : (a b : Bool) → a ≡ true → (a || b) ≡ true
or_left a b e = grind arith

or_right : (a b : Bool) → b ≡ true → (a || b) ≡ true
or_right a b e = grind arith

-- a reason against a parcel still holds after another
still_blocked : (h : History) (day caller : ℕ) (p q : Wanted) → is_blocked h q ≡ true → is_blocked (added h day caller p ∷ h) q ≡ true
still_blocked h day caller p q e = grind (arith, still_any, is_held-added, or_left, still_full, length-added)

same_bytes : (bytes : List ℕ) → bytes_eq bytes bytes ≡ true
same_bytes bytes = (bytes_eq-Decides bytes bytes).1 refl

-- after a parcel its lot is taken
now_blocked : (h : History) (day caller : ℕ) (p : Wanted) → is_blocked (added h day caller p ∷ h) p ≡ true
now_blocked h day caller p = grind (arith, is_held-added, or_right, same_bytes, or_left)

-- ---- a step

-- what a step for a parcel does: nothing, and no more will, or it adds the parcel's entry
abbrev StepsTo : Policy → ℕ → History → Wanted → Option Party → Type 0
StepsTo policy day h p caller =
    (((outcome_by_caller policy h day (parcel_wanted p) caller).history ≡ h) × ((is_open policy day (last_day h) caller ≡ false) ⊎ (is_blocked h p ≡ true)))
    ⊎ ((number : ℕ) × ((outcome_by_caller policy h day (parcel_wanted p) caller).history ≡ added h day number p ∷ h)
    × (is_open policy day (last_day h) caller ≡ true) × (is_blocked h p ≡ false))

steps_to : (policy : Policy) (day : ℕ) (h : History) (p : Wanted) (caller : Option Party) → StepsTo policy day h p caller
steps_to policy day h p caller = grind arith

abbrev after : Policy → List ℕ → ℕ → History → Wanted → History
after policy token day h p = (step policy h (record { token = token; request = parcel_wanted p }) day).history

-- a step for a parcel settles it
settles : (policy : Policy) (token : List ℕ) (day : ℕ) (h : History) (p : Wanted) → IsSettled policy token day (after policy token day h p) p
settles policy token day h p = grind (arith, steps_to, now_blocked)

closed_open : {P : Type 0} (b : Bool) → b ≡ true → b ≡ false → P
closed_open b e f = grind arith

-- and leaves each other one settled
keeps_settled : (policy : Policy) (token : List ℕ) (day : ℕ) (h : History) (p q : Wanted) → IsSettled policy token day h q →
    IsSettled policy token day (after policy token day h p) q
keeps_settled policy token day h p q settled = grind (arith, steps_to, closed_open, still_blocked)

-- a settled one changes nothing
stays_settled : (policy : Policy) (token : List ℕ) (day : ℕ) (h : History) (p : Wanted) → IsSettled policy token day h p → after policy token day h p ≡ h
stays_settled policy token day h p settled = grind arith

-- ---- runs

abbrev ran : Policy → List ℕ → ℕ → List Wanted → History → History
ran policy token day wanted h = history_after policy (parcels_asked token day wanted) h

-- a run leaves what is settled so
run_keeps_settled : (policy : Policy) (token : List ℕ) (day : ℕ) (wanted : List Wanted) (h : History) (q : Wanted) → IsSettled policy token day h q →
    IsSettled policy token day (ran policy token day wanted h) q
run_keeps_settled policy token day [] h q settled = settled
run_keeps_settled policy token day (p ∷ wanted) h q settled = run_keeps_settled policy token day wanted (after policy token day h p) q
    (keeps_settled policy token day h p q settled)

AllSettled : Policy → List ℕ → ℕ → History → List Wanted → Type 0
AllSettled policy token day h [] = Unit {0}
AllSettled policy token day h (p ∷ wanted) = IsSettled policy token day h p × AllSettled policy token day h wanted

-- a run settles each of its parcels
run_settles : (policy : Policy) (token : List ℕ) (day : ℕ) (wanted : List Wanted) (h : History) →
    AllSettled policy token day (ran policy token day wanted h) wanted
unfolding AllSettled
run_settles policy token day [] h = tt
run_settles policy token day (p ∷ wanted) h = (
  run_keeps_settled policy token day wanted (after policy token day h p) p (settles policy token day h p),
  run_settles policy token day wanted (after policy token day h p),
)

-- a run of settled ones changes nothing
settled_run : (policy : Policy) (token : List ℕ) (day : ℕ) (wanted : List Wanted) (h : History) → AllSettled policy token day h wanted →
    ran policy token day wanted h ≡ h
unfolding AllSettled
settled_run policy token day [] h settled = refl
settled_run policy token day (p ∷ wanted) h settled =
    ap (ran policy token day wanted) (stays_settled policy token day h p settled.0) ∙ settled_run policy token day wanted h settled.1

run_append : (policy : Policy) (xs ys : List (Asked × ℕ)) (h : History) →
    history_after policy (xs ++ ys) h ≡ history_after policy ys (history_after policy xs h)
run_append policy [] ys h = refl
run_append policy (x ∷ xs) ys h = run_append policy xs ys (step policy h x.0 x.1).history

-- a list that runs twice over leaves the history of once
pub ran_twice : (policy : Policy) (h : History) (token : List ℕ) (day : ℕ) (wanted : List Wanted) →
    history_after policy (parcels_asked token day wanted ++ parcels_asked token day wanted) h ≡ history_after policy (parcels_asked token day wanted) h
ran_twice policy h token day wanted = grind (arith, run_append, settled_run, run_settles)

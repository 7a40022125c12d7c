-- What the taker of a sieve took of the rows that the sieve took.
use Rattle.std.proofs.Common.{◌≡◌, ◌<◌, ℕ, suc, ◌+◌, ◌^◌, Bool, true, false, cond, List, [], ◌∷◌, ◌++◌, length, filter, refl, sym, ◌∙◌, ap, subst, arith}
use Rattle.std.proofs.Common.{length-append}
use Rattle.std.specs.Prelude.{IsPermutation, Result, Ok, Err}
use Rattle.std.proofs.lemmas.List.Elements.{filter-append}
use Rattle.permit_base.specs.declared.route.Route.{Route}
use Rattle.permit_core.specs.Taking.{TookAll}
use Rattle.permit_model.specs.Routes.{Found}
use Rattle.permit_store.specs.declared.sieve.Sieve.{Sieve}
use Rattle.permit_store.specs.Counts.{next_count}
use Rattle.permit_store.specs.Handing.{more_handed, Took, IsLeft, is_found_by_any, AreAmong}
use Rattle.permit_store.specs.Sieving.{Sifted, Sieves}
use Rattle.permit_store.proofs.Sifting.{pass_alike}

took_both : {T I : Type 0} (took : T → I → T → Bool → Type 0) (xs ys : List I) (a b c : T) → TookAll took xs a b → TookAll took ys b c →
    TookAll took (xs ++ ys) a c
took_both took [] ys a b c e more = subst (λ x. TookAll took ys x c) e more
took_both took (x ∷ xs) ys a b c w more = (w.0, w.1, took_both took xs ys w.0 b c w.2 more)

-- a sieve of the selections for the caller on the day
abbrev pub IsSieveOf : {T : Type 0} → List Route → ℕ → ℕ → Sieve T → Type 0
IsSieveOf routes caller day sieve = (sieve.routes.now ≡ routes) × (sieve.caller ≡ caller) × (sieve.day ≡ day)

module _ {T : Type 0} (took : T → Found → T → Bool → Type 0) (routes : List Route) (caller day : ℕ) where
  -- the rows among these that any of the selections finds
  abbrev pub sifted : List Found → List Found
  sifted given = filter (is_found_by_any routes caller day) given

  still : (found : Found) (before after : Sieve T) (more : Bool) → Sieves took before found after more → IsSieveOf routes caller day before →
      IsSieveOf routes caller day after
  still found before after more one was = (ap (λ r. r.now) one.routes ∙ was.0, one.caller ∙ was.1, one.day ∙ was.2)

  -- one row, by the selections, the caller and the day
  by_own : (found : Found) (before after : Sieve T) (more : Bool) → Sieves took before found after more → IsSieveOf routes caller day before
      → Sifted took (is_found_by_any routes caller day found) found before after more
  by_own found before after more one was =
      subst (λ (rs : List Route). Sifted took (is_found_by_any rs caller day found) found before after more) was.0
      (subst (λ (n : ℕ). Sifted took (is_found_by_any before.routes.now n day found) found before after more) was.1
      (subst (λ (d : ℕ). Sifted took (is_found_by_any before.routes.now before.caller d found) found before after more) was.2 one.sifted))

  -- ---- each answer true

  -- The rows were taken, each answer true: those found were passed on and counted.
  pub record PassedAll (given : List Found) (before after : Sieve T) : Type 0 where
    pub own : IsSieveOf routes caller day after
    pub same : after.taker.ghost_name ≡ before.taker.ghost_name
    pub passed : after.passed ≡ more_handed (length (sifted given)) before.passed
    pub taken : TookAll took (sifted given) before.taker.now after.taker.now

  none_more : (n : ℕ) → n < 2 ^ 64 → n ≡ more_handed 0 n
  none_more n few = omega arith

  one_more : (a b c n : ℕ) → b ≡ next_count a → c ≡ more_handed n b → c ≡ more_handed (suc n) a
  one_more a b c n e f = omega arith

  few_counted : (a b : ℕ) → b ≡ next_count a → b < 2 ^ 64
  few_counted a b e = omega arith

  passed_none : (before after : Sieve T) → before.passed < 2 ^ 64 → IsSieveOf routes caller day before → after ≡ before → PassedAll [] before after
  passed_none before after few was e = record {
    own = subst (λ (x : Sieve T). IsSieveOf routes caller day x) (sym e) was;
    same = ap (λ (x : Sieve T). x.taker.ghost_name) e;
    passed = ap (λ (x : Sieve T). x.passed) e ∙ none_more before.passed few;
    taken = ap (λ (x : Sieve T). x.taker.now) e;
  }

  -- one row before others
  joined : (found : Found) (given : List Found) (before mid after : Sieve T) (b : Bool) → is_found_by_any routes caller day found ≡ b →
      mid.taker.ghost_name ≡ before.taker.ghost_name
      → Sifted took b found before mid true → before.passed < 2 ^ 64 → (mid.passed < 2 ^ 64 → PassedAll given mid after) →
      PassedAll (found ∷ given) before after
  joined found given before mid after true e same one few others =
      let rest = others (few_counted before.passed mid.passed one.0) in
      let kept : sifted (found ∷ given) ≡ found ∷ sifted given = ap (λ b. cond b (found ∷ sifted given) (sifted given)) e in
      record {
        own = rest.own;
        same = rest.same ∙ same;
        passed = rw kept (one_more before.passed mid.passed after.passed (length (sifted given)) one.0 rest.passed);
        taken = rw kept (mid.taker.now, one.1, rest.taken);
      }
  joined found given before mid after false e same one few others =
      let rest = others (rw one.0 few) in
      let kept : sifted (found ∷ given) ≡ sifted given = ap (λ b. cond b (found ∷ sifted given) (sifted given)) e in
      record {
        own = rest.own;
        same = rest.same ∙ same;
        passed = rw kept (rest.passed ∙ ap (more_handed (length (sifted given))) one.0);
        taken = rw kept (subst (λ (x : T). TookAll took (sifted given) x after.taker.now) one.1 rest.taken);
      }

  pub passed_all : (given : List Found) (before after : Sieve T) → before.passed < 2 ^ 64 → IsSieveOf routes caller day before →
      TookAll (Sieves took) given before after → PassedAll given before after
  passed_all [] before after few was e = passed_none before after few was e
  passed_all (found ∷ given) before after few was (mid, one, others) =
      joined found given before mid after (is_found_by_any routes caller day found) refl one.same (by_own found before mid true one was) few
      (λ small. passed_all given mid after small (still found before mid true one was) others)

  -- ---- any answer

  -- The rows were taken: those found were passed on to the same taker and counted.
  pub record Passed {E : Type 0} (given : List Found) (before after : Sieve T) (result : Result Bool E) : Type 0 where
    pub same : after.taker.ghost_name ≡ before.taker.ghost_name
    pub passed : after.passed ≡ more_handed (length (sifted given)) before.passed
    pub taken : Took took (sifted given) before.taker.now after.taker.now result

  -- it stopped at a row that is found
  stopped : {E : Type 0} (front : List Found) (last : Found) (before mid after : Sieve T) (b : Bool) → is_found_by_any routes caller day last ≡ b →
      PassedAll front before mid
      → after.taker.ghost_name ≡ mid.taker.ghost_name → Sifted took b last mid after false → Passed {E = E} (front ++ last ∷ []) before after (Ok false)
  stopped front last before mid after false e on same one = cc
  stopped front last before mid after true e on same one =
      let kept : sifted (front ++ last ∷ []) ≡ sifted front ++ last ∷ [] =
      filter-append (is_found_by_any routes caller day) front (last ∷ []) ∙ ap (λ b. sifted front ++ cond b (last ∷ []) []) e in
      record {
        same = same ∙ on.same;
        passed = rw kept (counted before.passed mid.passed after.passed (length (sifted front)) (length (sifted front ++ last ∷ [])) on.passed one.0
            (length-append (sifted front) (last ∷ [])));
        taken = rw kept (sifted front, last, refl, mid.taker.now, on.taken, one.1);
      }
    where
      counted : (a b c n m : ℕ) → b ≡ more_handed n a → c ≡ next_count b → m ≡ n + 1 → c ≡ more_handed m a
      counted a b c n m e f g = omega arith

  pub passed_on : {E : Type 0} (result : Result Bool E) (given : List Found) (before after : Sieve T) → before.passed < 2 ^ 64 →
      IsSieveOf routes caller day before → Took (Sieves took) given before after result
      → Passed given before after result
  passed_on (Ok true) given before after few was taken =
      let on = passed_all given before after few was taken in
      record { same = on.same; passed = on.passed; taken = on.taken }
  passed_on {E} (Ok false) given before after few was (front, last, order, mid, taken, one) =
      let on = passed_all front before mid few was taken in
      subst (λ (xs : List Found). Passed {E = E} xs before after (Ok false)) (sym order)
      (stopped front last before mid after (is_found_by_any routes caller day last) refl on one.same (by_own last mid after false one on.own))
  passed_on (Err e) given before after few was taken =
      let on = passed_all given before after few was taken in
      record { same = on.same; passed = on.passed; taken = on.taken }

-- ---- the rows

left_of : {E : Type 0} (result : Result Bool E) (test : Found → Bool) (rest : List Found) → IsLeft result rest → IsLeft result (filter test rest)
left_of (Ok true) test rest none = ap (filter test) none
left_of (Ok false) test rest none = tt
left_of (Err e) test rest none = tt

-- Of all the rows, those found were passed on as far as the rows were taken, in any order.
pub among : {E : Type 0} (result : Result Bool E) (test : Found → Bool) (given rest all : List Found) → IsLeft result rest → IsPermutation (given ++ rest) all →
    AreAmong result (filter test given) (filter test all)
among result test given rest all left moved = (
  filter test rest,
  left_of result test rest left,
  subst (λ (xs : List Found). IsPermutation xs (filter test all)) (filter-append test given rest)
      (pass_alike test (given ++ rest) all moved),
)

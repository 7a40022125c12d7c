-- The rows that routes find, passed on to a taker of files.
use Rattle.std.proofs.Common.{◌≡◌, ◌<◌, ℕ, suc, ◌+◌, ◌%◌, ◌^◌, Bool, true, false, cond, List, [], ◌∷◌, ◌++◌, length, refl, sym, ◌∙◌, ap, subst, map}
use Rattle.std.proofs.Common.{arith, get_or}
use Rattle.std.specs.Prelude.{Result, Ok, Err, IsErr, IsTrue, IsPermutation}
use Rattle.permit_base.specs.declared.route.Route.{Route}
use Rattle.permit_core.specs.Taking.{TookAll}
use Rattle.permit_model.specs.Caller.{Party}
use Rattle.permit_model.specs.Policy.{Policy}
use Rattle.permit_model.specs.Tables.{FileRow, FileView, Tables, tables}
use Rattle.permit_model.specs.Routes.{Found, found_by}
use Rattle.permit_model.proofs.Rising.{rows_rising, IsRising}
use Rattle.permit_store.specs.declared.store.StoreError.{StoreError}
use Rattle.permit_store.specs.Frames.{StoreView}
use Rattle.permit_store.specs.Handing.{AreAmong, AreHanded, Hands, Took, IsLeft, more_handed, found_by_any}
use Rattle.permit_office.specs.declared.passing.Passer.{Passer}
use Rattle.permit_office.specs.declared.showing.RowsEnd.{RowsEnd}
use Rattle.permit_office.specs.declared.showing.RowsEnd.TheVariants as ended
use Rattle.permit_office.specs.Reach.{HandedMore}
use Rattle.permit_office.specs.Listings.{may_list, view_found, views_found}
use Rattle.permit_office.specs.Passing.{Passes, PassedOn, AreHandedBy, AreFoundBy}
use Rattle.permit_office.specs.Stops.{StopsAtLast}
use Rattle.permit_office.proofs.Listings.{views_append, rising_rows}

pub took_both : {T I : Type 0} (took : T → I → T → Bool → Type 0) (xs ys : List I) (a b c : T) → TookAll took xs a b → TookAll took ys b c →
    TookAll took (xs ++ ys) a c
took_both took [] ys a b c e more = subst (λ x. TookAll took ys x c) e more
took_both took (x ∷ xs) ys a b c w more = (w.0, w.1, took_both took xs ys w.0 b c w.2 more)

-- ---- the rows handed out

-- a list of one
pub alone : {A : Type 0} (xs : List A) (d : A) → length xs ≡ 1 → xs ≡ get_or xs 0 d ∷ []
alone [] d one = absurd (omega (arith, one))
alone (x ∷ []) d one = refl
alone (x ∷ (y ∷ xs)) d one = absurd (omega (arith, one))

pub by_one : {E : Type 0} (routes : List Route) (route : Route) (caller day : ℕ) (t : Tables) (result : Result Bool E) (given : List Found) →
    routes ≡ route ∷ [] → AreHanded t result given (found_by route caller day t) → AreHandedBy routes caller day t result given
by_one routes route caller day t result given e handed =
    subst (λ (rs : List Route). AreHandedBy rs caller day t result given) (sym e) handed

pub by_several : {E : Type 0} (routes : List Route) (caller day : ℕ) (t : Tables) (result : Result Bool E) (given : List Found) →
    (length routes ≡ 1 → ⊥) → AreAmong result given (found_by_any routes caller day t) → AreHandedBy routes caller day t result given
by_several [] caller day t result given several among = among
by_several (route ∷ []) caller day t result given several among = absurd (several refl)
by_several (route ∷ (other ∷ routes)) caller day t result given several among = among

-- ---- one row

-- a file that may be listed
pub listed_alone : (policy : Policy) (caller : Party) (day : ℕ) (found : Found) → may_list policy caller day found ≡ true →
    views_found policy caller day (found ∷ []) ≡ view_found day found ∷ []
listed_alone policy caller day found e = ap (λ b. map (view_found day) (cond b (found ∷ []) [])) e

-- a passer for the caller on the day, by the policy
abbrev pub IsFor : {T : Type 0} → Policy → Party → ℕ → Passer T → Type 0
IsFor policy caller day passer = (passer.policy.now ≡ policy) × (passer.caller.now ≡ caller) × (passer.day ≡ day)

module _ {T : Type 0} (took : T → FileView → T → Bool → Type 0) (policy : Policy) (caller : Party) (day : ℕ) where
  is_for : (found : Found) (before after : Passer T) (more : Bool) → Passes took before found after more → IsFor policy caller day before →
      IsFor policy caller day after
  is_for found before after more one was = (ap (λ p. p.now) one.policy ∙ was.0, ap (λ p. p.now) one.caller ∙ was.1, one.day ∙ was.2)

  -- what one row did, by the policy, the caller and the day
  went : (found : Found) (before after : Passer T) (p : Policy) (c : Party) (d : ℕ) → p ≡ policy → c ≡ caller → d ≡ day →
      TookAll took (views_found p c d (found ∷ [])) before.taker.now after.taker.now
      → TookAll took (views_found policy caller day (found ∷ [])) before.taker.now after.taker.now
  went found before after p c d ep ec ed taken =
      subst (λ (x : Policy). TookAll took (views_found x caller day (found ∷ [])) before.taker.now after.taker.now) ep
      (subst (λ (x : Party). TookAll took (views_found p x day (found ∷ [])) before.taker.now after.taker.now) ec
      (subst (λ (x : ℕ). TookAll took (views_found p c x (found ∷ [])) before.taker.now after.taker.now) ed taken))

  may : (found : Found) (p : Policy) (c : Party) (d : ℕ) → p ≡ policy → c ≡ caller → d ≡ day → IsTrue (may_list p c d found) →
      IsTrue (may_list policy caller day found)
  may found p c d ep ec ed listed =
      subst (λ (x : Policy). IsTrue (may_list x caller day found)) ep (subst (λ (x : Party). IsTrue (may_list p x day found)) ec
      (subst (λ (x : ℕ). IsTrue (may_list p c x found)) ed listed))

  -- ---- rows one after the other

  -- Rows were taken, each answer true: the files among them that may be listed were passed on.
  pub record WentOn (given : List Found) (before after : Passer T) : Type 0 where
    pub own : IsFor policy caller day after
    pub same : after.taker.ghost_name ≡ before.taker.ghost_name
    pub read : after.read ≡ (before.read + length given) % 2 ^ 32
    pub taken : TookAll took (views_found policy caller day given) before.taker.now after.taker.now

  pub went_on : (given : List Found) (before after : Passer T) → before.read < 2 ^ 32 → IsFor policy caller day before →
      TookAll (Passes took) given before after → WentOn given before after
  went_on [] before after few was e = record {
    own = subst (λ (x : Passer T). IsFor policy caller day x) (sym e) was;
    same = ap (λ (x : Passer T). x.taker.ghost_name) e;
    read = ap (λ (x : Passer T). x.read) e ∙ none before.read few;
    taken = ap (λ (x : Passer T). x.taker.now) e;
  }
    where
      none : (n : ℕ) → n < 2 ^ 32 → n ≡ (n + 0) % 2 ^ 32
      none n few = omega arith
  went_on (found ∷ given) before after few was (mid, one, others) =
      let rest = went_on given mid after (small mid.read (before.read + 1) one.read) (is_for found before mid true one was) others in
      record {
        own = rest.own;
        same = rest.same ∙ one.same;
        read = counted before.read mid.read after.read (length given) one.read rest.read;
        taken = subst (λ (vs : List FileView). TookAll took vs before.taker.now after.taker.now) (sym (views_append policy caller day (found ∷ []) given))
            (took_both took (views_found policy caller day (found ∷ [])) (views_found policy caller day given) before.taker.now mid.taker.now after.taker.now
            (went found before mid before.policy.now before.caller.now before.day was.0 was.1 was.2 one.went) rest.taken);
      }
    where
      small : (n m : ℕ) → n ≡ m % 2 ^ 32 → n < 2 ^ 32
      small n m e = omega arith

      counted : (a b c n : ℕ) → b ≡ (a + 1) % 2 ^ 32 → c ≡ (b + n) % 2 ^ 32 → c ≡ (a + suc n) % 2 ^ 32
      counted a b c n e f = omega arith

  -- ---- the rows of routes

  -- what routes handed to a passer
  abbrev pub HandedTo : ℕ → List Route → StoreView → StoreView → Passer T → Passer T → Result Bool StoreError → Type 0
  HandedTo number routes old new before after result =
      (given : List Found) × Hands (Passes took) given old new before after result
      × (new.doubt ≡ 0 → (t : Tables) → old.holds t → AreHandedBy routes number day t result given)

  -- the rows taken and those left are the ones found
  found_apart : (result : Result Bool StoreError) (number : ℕ) (routes : List Route) (t : Tables) (given : List Found) → number ≡ caller.id →
      IsRising (λ (row : FileRow). row.id) t.files
      → AreHandedBy routes number day t result given → (rest : List Found) × IsLeft result rest × AreFoundBy routes caller.id day t (given ++ rest)
  found_apart result number [] t given same up handed =
      (handed.0, handed.1, subst (λ n. IsPermutation (given ++ handed.0) (found_by_any [] n day t)) same handed.2)
  found_apart result number (route ∷ []) t given same up handed =
      (handed.0, handed.1, ap (λ n. found_by route n day t) (sym same) ∙ sym (handed.2.order (rising_rows t.files up)))
  found_apart result number (route ∷ (other ∷ routes)) t given same up handed =
      (handed.0, handed.1, subst (λ n. IsPermutation (given ++ handed.0) (found_by_any (route ∷ (other ∷ routes)) n day t)) same handed.2)

  more : (n old new : ℕ) → new ≡ more_handed n old → HandedMore n old new
  more n old new e = omega arith

  nothing_more : {A : Type 0} (xs : List A) → xs ≡ xs ++ []
  nothing_more [] = refl
  nothing_more (x ∷ xs) = ap (λ ys. x ∷ ys) (nothing_more xs)

  from_none : (n m read : ℕ) → n ≡ 0 → read ≡ (n + m) % 2 ^ 32 → read ≡ m % 2 ^ 32
  from_none n m read z e = omega arith

  few : (n : ℕ) → n ≡ 0 → n < 2 ^ 32
  few n z = omega arith

  -- each row was taken
  pub all_passed : (number : ℕ) (routes : List Route) (old new : StoreView) (before after : Passer T) → number ≡ caller.id → IsFor policy caller day before →
      before.read ≡ 0
      → HandedTo number routes old new before after (Ok true) → PassedOn took policy caller day routes old new before.taker.now after.taker.now
      (Ok (ended.All after.read))
  all_passed number routes old new before after same was zero handed =
      let on = went_on handed.0 before after (few before.read zero) was handed.1.taken in
      record {
        given = handed.0;
        taken = (from_none before.read (length handed.0) after.read zero on.read, on.taken);
        handed = more (length handed.0) old.handed new.handed handed.1.read.handed;
        found = λ sure h is held. found_apart (Ok true) number routes (tables h) handed.0 same (rows_rising h is) (handed.2 sure (tables h) held);
      }

  -- the taker stopped at the last row's file
  stopped_at : (given : List Found) (before after : Passer T) → IsFor policy caller day before → before.read ≡ 0
      → Took {E = StoreError} (Passes took) given before after (Ok false) → StopsAtLast took policy caller day given before.taker.now after.taker.now
  stopped_at given before after was zero (front, last, order, mid, taken, one) =
      let on = went_on front before mid (few before.read zero) was taken in
      record {
        passed = front;
        last = last;
        order = order;
        between = mid.taker.now;
        taken = on.taken;
        listed = may last mid.policy.now mid.caller.now mid.day on.own.0 on.own.1 on.own.2 one.went.0;
        stopped = subst (λ d. took mid.taker.now (view_found d last) after.taker.now false) on.own.2 one.went.1;
      }

  pub stop_passed : (number : ℕ) (routes : List Route) (old new : StoreView) (before after : Passer T) → number ≡ caller.id → IsFor policy caller day before →
      before.read ≡ 0 → HandedTo number routes old new before after (Ok false) →
      PassedOn took policy caller day routes old new before.taker.now after.taker.now (Ok ended.Stopped)
  stop_passed number routes old new before after same was zero handed = record {
    given = handed.0;
    taken = stopped_at handed.0 before after was zero handed.1.taken;
    handed = more (length handed.0) old.handed new.handed handed.1.read.handed;
    found = λ sure h is held.
        let apart = found_apart (Ok false) number routes (tables h) handed.0 same (rows_rising h is) (handed.2 sure (tables h) held) in
        (apart.0, tt, apart.2);
  }

  -- a call of the store failed
  pub failed_passed : (number : ℕ) (routes : List Route) (old new : StoreView) (before after : Passer T) → number ≡ caller.id → IsFor policy caller day before →
      before.read ≡ 0
      → (e error : StoreError) → HandedTo number routes old new before after (Err e) →
      PassedOn took policy caller day routes old new before.taker.now after.taker.now (Err error)
  failed_passed number routes old new before after same was zero e error handed =
      let on = went_on handed.0 before after (few before.read zero) was handed.1.taken in
      record {
        given = handed.0;
        taken = (views_found policy caller day handed.0, [], nothing_more (views_found policy caller day handed.0), on.taken);
        handed = more (length handed.0) old.handed new.handed handed.1.read.handed;
        found = λ sure h is held.
            let apart = found_apart (Err e) number routes (tables h) handed.0 same (rows_rising h is) (handed.2 sure (tables h) held) in
            (apart.0, tt, apart.2);
      }

  -- the passer passed on to the taker that it had
  pub same_taker : (result : Result Bool StoreError) (number : ℕ) (routes : List Route) (old new : StoreView) (before after : Passer T) →
      IsFor policy caller day before → before.read ≡ 0
      → HandedTo number routes old new before after result → after.taker.ghost_name ≡ before.taker.ghost_name
  same_taker (Ok true) number routes old new before after was zero handed = (went_on handed.0 before after (few before.read zero) was handed.1.taken).same
  same_taker (Ok false) number routes old new before after was zero handed =
      let took = handed.1.taken in
      took.5.same ∙ (went_on took.0 before took.3 (few before.read zero) was took.4).same
  same_taker (Err e) number routes old new before after was zero handed = (went_on handed.0 before after (few before.read zero) was handed.1.taken).same

  -- ---- what the selection's call answered, by its tests

  was_true : (number : ℕ) (routes : List Route) (old new : StoreView) (before after : Passer T) (b : Bool) → b ≡ true →
      HandedTo number routes old new before after (Ok b) → HandedTo number routes old new before after (Ok true)
  was_true number routes old new before after b e handed = subst (λ (x : Bool). HandedTo number routes old new before after (Ok x)) e handed

  was_false : (number : ℕ) (routes : List Route) (old new : StoreView) (before after : Passer T) (b : Bool) → b ≡ false →
      HandedTo number routes old new before after (Ok b) → HandedTo number routes old new before after (Ok false)
  was_false number routes old new before after b e handed = subst (λ (x : Bool). HandedTo number routes old new before after (Ok x)) e handed

  pub passed_whole : (number : ℕ) (routes : List Route) (old new : StoreView) (before after : Passer T) → number ≡ caller.id → IsFor policy caller day before →
      before.read ≡ 0 → (b : Bool) → b ≡ true
      → HandedTo number routes old new before after (Ok b) → (last : T) → last ≡ after.taker.now →
      PassedOn took policy caller day routes old new before.taker.now last (Ok (ended.All after.read))
  passed_whole number routes old new before after same was zero b e handed last is =
      subst (λ (x : T). PassedOn took policy caller day routes old new before.taker.now x (Ok (ended.All after.read))) (sym is)
      (all_passed number routes old new before after same was zero (was_true number routes old new before after b e handed))

  pub passed_to_stop : (number : ℕ) (routes : List Route) (old new : StoreView) (before after : Passer T) → number ≡ caller.id → IsFor policy caller day before →
      before.read ≡ 0 → (b : Bool)
      → b ≡ false → HandedTo number routes old new before after (Ok b) → (last : T) → last ≡ after.taker.now
      → PassedOn took policy caller day routes old new before.taker.now last (Ok ended.Stopped)
  passed_to_stop number routes old new before after same was zero b e handed last is =
      subst (λ (x : T). PassedOn took policy caller day routes old new before.taker.now x (Ok ended.Stopped)) (sym is)
      (stop_passed number routes old new before after same was zero (was_false number routes old new before after b e handed))

  pub passed_to_failure : (number : ℕ) (routes : List Route) (old new : StoreView) (before after : Passer T) → number ≡ caller.id → IsFor policy caller day before →
      before.read ≡ 0 → (e error : StoreError)
      → HandedTo number routes old new before after (Err e) → (last : T) → last ≡ after.taker.now →
      PassedOn took policy caller day routes old new before.taker.now last (Err error)
  passed_to_failure number routes old new before after same was zero e error handed last is =
      subst (λ (x : T). PassedOn took policy caller day routes old new before.taker.now x (Err error)) (sym is)
      (failed_passed number routes old new before after same was zero e error handed)

  pub passed_on_err : (number : ℕ) (routes : List Route) (old new : StoreView) (before after : Passer T) → number ≡ caller.id → IsFor policy caller day before →
      before.read ≡ 0 → (e : StoreError)
      → (result : Result RowsEnd StoreError) → IsErr result → HandedTo number routes old new before after (Err e) → (last : T) → last ≡ after.taker.now →
      PassedOn took policy caller day routes old new before.taker.now last result
  passed_on_err number routes old new before after same was zero e (Ok end) err handed last is = cc
  passed_on_err number routes old new before after same was zero e (Err error) err handed last is =
      passed_to_failure number routes old new before after same was zero e error handed last is

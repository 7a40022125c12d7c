-- The three lists of what acted are those of the model's events, and the answers are those that the model collects.
use Rattle.std.proofs.Common.{◌≡◌, ◌≢◌, ℕ, zero, suc, ◌+◌, Bool, true, false, List, [], ◌∷◌, ◌++◌, length, map, take, drop, get_or, sym, refl, ap, ◌∙◌, subst}
use Rattle.std.proofs.Common.{arith}
use Rattle.std.specs.Prelude.{if◌then◌else◌, filter, ◌==◌, ◌&&◌, nat_lt, zip, Option, Some, None, option_to_list, slice_get}
use Rattle.std.proofs.lemmas.Bool.{eq-eqb, eqb-true}
use Rattle.std.proofs.lemmas.List.{append-nil, length-map}
use Rattle.std.proofs.lemmas.List.Elements.{filter_map-append}
use Rattle.permit_base.specs.declared.request.Asked.{Asked}
use Rattle.permit_model.specs.HallRun.{Event, Put, Take, Collect, put_of, day_of, collect_of, puts, takes, collects, of_session, count_of, acts, acting}
use Rattle.permit_model.specs.HallRun.{acting_after, served, collected, collected_after}
use Rattle.permit_store.specs.Frames.{StoreView}
use Rattle.permit_office.specs.declared.reply.Reply.{Reply}
use Rattle.permit_office.specs.Office.{OfficeView}
use Rattle.permit_office.specs.declared.log.Log.{Ghosts}
use Rattle.permit_hall.specs.Runs.{Entry, Runs, replies_of}
use Rattle.permit_hall.specs.Counts.{Acted, after, acted, acted_from, sessions, puts_now, given_to, AreTaken, AreGiven}
use Rattle.permit_hall.specs.OfficeSteps.{StepFor, IsRun}
use Rattle.permit_hall.specs.Events.{HallRuns}
use Rattle.permit_hall.proofs.EventSteps.{given_here, given_away}
use Rattle.permit_hall.proofs.Cases.{by_test, by_number, not_eqb}
use Rattle.permit_hall.proofs.OfficeRuns.{is_run}
use Rattle.permit_hall.proofs.ModelRuns.{is_hall_run}

-- ---- the three lists

module _ {A : Type 0} where
  abbrev lists : List (ℕ × A) → List ℕ → List ℕ → Acted A
  lists ps ds cs = record { puts = ps; days = ds; collects = cs }

  abbrev acted_of : List (Event A) → Acted A
  acted_of done = lists (puts done) (takes done) (collects done)

  same_lists : (ps qs : List (ℕ × A)) (ds es cs bs : List ℕ) → ps ≡ qs → ds ≡ es → cs ≡ bs → lists ps ds cs ≡ lists qs es bs
  same_lists ps qs ds es cs bs p d c i = lists (p i) (d i) (c i)

  -- an event more
  appended : (done : List (Event A)) (e : Event A) → acted_of (done ++ e ∷ [])
      ≡ lists (puts done ++ puts (e ∷ [])) (takes done ++ takes (e ∷ [])) (collects done ++ collects (e ∷ []))
  appended done e = same_lists _ _ _ _ _ _ (filter_map-append put_of done (e ∷ [])) (filter_map-append day_of done (e ∷ []))
      (filter_map-append collect_of done (e ∷ []))

  put_more : (done : List (Event A)) (s : ℕ) (a : A) → lists (puts done ++ (s, a) ∷ []) (takes done) (collects done) ≡ acted_of (done ++ Put s a ∷ [])
  put_more done s a = same_lists _ _ _ _ _ _ refl (sym (append-nil (takes done))) (sym (append-nil (collects done))) ∙ sym (appended done (Put s a))

  take_more : (done : List (Event A)) (d : ℕ) → lists (puts done) (takes done ++ d ∷ []) (collects done) ≡ acted_of (done ++ Take d ∷ [])
  take_more done d = same_lists _ _ _ _ _ _ (sym (append-nil (puts done))) refl (sym (append-nil (collects done))) ∙ sym (appended done (Take d))

  collect_more : (done : List (Event A)) (s : ℕ) → lists (puts done) (takes done) (collects done ++ s ∷ []) ≡ acted_of (done ++ Collect s ∷ [])
  collect_more done s = same_lists _ _ _ _ _ _ (sym (append-nil (puts done))) (sym (append-nil (takes done))) refl ∙ sym (appended done (Collect s))

  -- the event acts, or not
  choice : (b c : Bool) (done : List (Event A)) (e : Event A) (h : Acted A) → b ≡ c → h ≡ acted_of (done ++ e ∷ []) →
      (if b then h else acted_of done) ≡ acted_of (if c then done ++ e ∷ [] else done)
  choice true true done e h same is = is
  choice false false done e h same is = refl
  choice true false done e h same is = cc
  choice false true done e h same is = cc

  counted : (b : Bool) (p : ℕ × A) (ps : List (ℕ × A)) (ss : List ℕ) → length ps ≡ length ss →
      length (if b then p ∷ ps else ps) ≡ length (if b then p.0 ∷ ss else ss)
  counted true p ps ss e = ap suc e
  counted false p ps ss e = e

  count_sessions : (s : ℕ) (pairs : List (ℕ × A)) → length (of_session s pairs) ≡ count_of s (sessions pairs)
  count_sessions s [] = refl
  count_sessions s (p ∷ ps) = counted (p.0 == s) p (of_session s ps) (filter (λ x. x == s) (sessions ps)) (count_sessions s ps)

  one_more : (done : List (Event A)) (e : Event A) → after (acted_of done) e ≡ acted_of (if acts done e then done ++ e ∷ [] else done)
  one_more done (Put s a) = choice (puts_now (acted_of done) s) (acts done (Put s a)) done (Put s a)
      (lists (puts done ++ (s, a) ∷ []) (takes done) (collects done))
      (ap (λ n. (n == count_of s (collects done)) && nat_lt (length (puts done)) (length (takes done) + 64)) (sym (count_sessions s (puts done))))
      (put_more done s a)
  one_more done (Take d) = choice (nat_lt (length (takes done)) (length (puts done))) (acts done (Take d)) done (Take d)
      (lists (puts done) (takes done ++ d ∷ []) (collects done)) refl (take_more done d)
  one_more done (Collect s) = choice (nat_lt (count_of s (collects done)) (count_of s (sessions (take (length (takes done)) (puts done)))))
      (acts done (Collect s)) done (Collect s) (lists (puts done) (takes done) (collects done ++ s ∷ []))
      (ap (λ n. nat_lt (count_of s (collects done)) n) (sym (count_sessions s (take (length (takes done)) (puts done))))) (collect_more done s)

  acting_from : (events done : List (Event A)) → acted_from (acted_of done) events ≡ acted_of (acting_after events done)
  acting_from [] done = refl
  acting_from (e ∷ es) done = ap (λ h. acted_from h es) (one_more done e) ∙ acting_from es (if acts done e then done ++ e ∷ [] else done)

  acting_is : (events : List (Event A)) → acted events ≡ acted_of (acting events)
  acting_is events = acting_from events []

-- ---- what was served

module _ {A Y : Type 0} where
  abbrev who : Entry A Y → ℕ × A
  who e = (e.from, e.request)

  abbrev asked_on : Entry A Y → A × ℕ
  asked_on e = (e.request, e.day)

  abbrev answer : Entry A Y → ℕ × Y
  answer e = (e.from, e.reply)

  pairs_served : (ps : List (ℕ × A)) (es : List (Entry A Y)) → map who es ≡ take (length es) ps →
      map asked_on es ≡ map (λ s. (s.0.1, s.1)) (zip ps (map (λ e. e.day) es))
  pairs_served [] [] h = refl
  pairs_served (p ∷ ps) [] h = refl
  pairs_served [] (e ∷ es) h = absurd (let l = ap length h in omega arith)
  pairs_served (p ∷ ps) (e ∷ es) h =
      ap (λ (x : ℕ × A). (x.1, e.day) ∷ map asked_on es) (ap (λ l. get_or l 0 p) h)
      ∙ ap (λ l. (p.1, e.day) ∷ l) (pairs_served ps es (ap (λ l. drop 1 l) h))

  answers_served : (ps : List (ℕ × A)) (es : List (Entry A Y)) → map who es ≡ take (length es) ps →
      zip (map (λ p. p.0) ps) (map (λ e. e.reply) es) ≡ map answer es
  answers_served [] [] h = refl
  answers_served (p ∷ ps) [] h = refl
  answers_served [] (e ∷ es) h = absurd (let l = ap length h in omega arith)
  answers_served (p ∷ ps) (e ∷ es) h =
      ap (λ (x : ℕ × A). (x.0, e.reply) ∷ zip (map (λ p. p.0) ps) (map (λ e. e.reply) es)) (sym (ap (λ l. get_or l 0 p) h))
      ∙ ap (λ l. (e.from, e.reply) ∷ l) (answers_served ps es (ap (λ l. drop 1 l) h))

  picked : (b : Bool) (e : Entry A Y) (xs : List (Entry A Y)) (ys : List (ℕ × Y)) → map (λ e. e.reply) xs ≡ map (λ y. y.1) ys →
      map (λ e. e.reply) (if b then e ∷ xs else xs) ≡ map (λ y. y.1) (if b then answer e ∷ ys else ys)
  picked true e xs ys h = ap (λ l. e.reply ∷ l) h
  picked false e xs ys h = h

  replies_given : (s : ℕ) (es : List (Entry A Y)) → replies_of s es ≡ given_to s (map answer es)
  replies_given s [] = refl
  replies_given s (e ∷ es) = picked (e.from == s) e (filter (λ e. e.from == s) es) (filter (λ g. g.0 == s) (map answer es)) (replies_given s es)

-- ---- what was collected

count_here : (s : ℕ) (xs : List ℕ) → count_of s (s ∷ xs) ≡ suc (count_of s xs)
count_here s xs = ap (λ (b : Bool). length (if b then s ∷ filter (λ x. x == s) xs else filter (λ x. x == s) xs)) (eq-eqb s s refl)

count_away : (s t : ℕ) (xs : List ℕ) → s ≢ t → count_of t (s ∷ xs) ≡ count_of t xs
count_away s t xs n = ap (λ (b : Bool). length (if b then s ∷ filter (λ x. x == t) xs else filter (λ x. x == t) xs)) (not_eqb s t n)

module _ {Y : Type 0} where
  cut : (l : List Y) (c n : ℕ) (y : Y) (ys : List Y) → y ∷ ys ≡ take (suc n) (drop c l) → (slice_get l c ≡ Some y) × (ys ≡ take n (drop (suc c) l))
  cut [] zero n y ys h = absurd (let l = ap length h in omega arith)
  cut [] (suc c) n y ys h = absurd (let l = ap length h in omega arith)
  cut (x ∷ l) zero n y ys h = (ap (λ z. Some z) (sym (ap (λ k. get_or k 0 y) h)), ap (λ k. drop 1 k) h)
  cut (x ∷ l) (suc c) n y ys h = cut l c n y ys h

  abbrev GetsPair : ℕ → ℕ → Y → List (ℕ × Y) → Type 0
  GetsPair s c y pairs = slice_get (map (λ g. g.1) pairs) c ≡ Some y → slice_get pairs c ≡ Some (s, y)

  some_pair : (s : ℕ) (p : ℕ × Y) (y : Y) → p.0 ≡ s → Some p.1 ≡ Some y → Some p ≡ Some (s, y)
  some_pair s p y of is = ap (λ (o : Option Y). elim o as (λ _. Option (ℕ × Y)) [ None ↦ None | Some z ↦ Some (p.0, z) ]) is ∙ ap (λ t. Some (t, y)) of

  named_here : (s c : ℕ) (p : ℕ × Y) (y : Y) (rest : List (ℕ × Y)) → p.0 ≡ s → ((k : ℕ) → GetsPair s k y rest) → GetsPair s c y (p ∷ rest)
  named_here s zero p y rest of more h = some_pair s p y of h
  named_here s (suc c) p y rest of more h = more c h

  named : (s c : ℕ) (y : Y) (pairs : List (ℕ × Y)) → GetsPair s c y (of_session s pairs)
  named s c y [] = λ h. cc
  named s c y (p ∷ ps) = by_test (p.0 == s)
      (λ same. subst (λ (b : Bool). GetsPair s c y (if b then p ∷ of_session s ps else of_session s ps)) (sym same)
      (named_here s c p y (of_session s ps) (eqb-true p.0 s same) (λ k. named s k y ps)))
      (λ other. subst (λ (b : Bool). GetsPair s c y (if b then p ∷ of_session s ps else of_session s ps)) (sym other) (named s c y ps))

  -- what was given goes on where what was collected before ends
  abbrev GoesOn : List (ℕ × Y) → List ℕ → List (ℕ × Y) → ℕ → Type 0
  GoesOn answers before given s = given_to s given ≡ take (count_of s (map (λ g. g.0) given)) (drop (count_of s before) (given_to s answers))

  collected_is : (answers : List (ℕ × Y)) (given : List (ℕ × Y)) (before : List ℕ) → ((s : ℕ) → GoesOn answers before given s) →
      given ≡ collected_after answers before (map (λ g. g.0) given)
  collected_is answers [] before h = refl
  collected_is answers (g ∷ rest) before h =
      let s = g.0 in let y = g.1 in let c = count_of s before in let sessions = map (λ g. g.0) rest in
      let one : y ∷ given_to s rest ≡ take (suc (count_of s sessions)) (drop c (given_to s answers)) =
      sym (given_here s g rest refl) ∙ h s ∙ ap (λ n. take n (drop c (given_to s answers))) (count_here s sessions) in
      let both = cut (given_to s answers) c (count_of s sessions) y (given_to s rest) one in
      let found : slice_get (of_session s answers) c ≡ Some (s, y) = named s c y answers both.0 in
      let here : GoesOn answers (s ∷ before) rest s = both.1 ∙ ap (λ n. take (count_of s sessions) (drop n (given_to s answers))) (sym (count_here s before)) in
      let away : (t : ℕ) → s ≢ t → GoesOn answers (s ∷ before) rest t = λ t other. sym (given_away t g rest other) ∙ h t
      ∙ ap (λ n. take n (drop (count_of t before) (given_to t answers))) (count_away s t sessions other)
      ∙ ap (λ n. take (count_of t sessions) (drop n (given_to t answers))) (sym (count_away s t before other)) in
      ap (λ l. g ∷ l) (collected_is answers rest (s ∷ before) (λ t. by_number s t (λ same. subst (GoesOn answers (s ∷ before) rest) same here) (away t)))
      ∙ ap (λ (o : Option (ℕ × Y)). option_to_list o ++ collected_after answers (s ∷ before) sessions) (sym found)

-- ---- the run

module _ {A Y : Type 0} (events : List (Event A)) (es : List (Entry A Y)) (given : List (ℕ × Y)) where
  as_long : AreTaken (acted_of (acting events)) es → map who es ≡ take (length es) (puts (acting events))
  as_long t = t.0 ∙ ap (λ n. take n (puts (acting events))) (ap length (sym t.1) ∙ length-map es (λ (e : Entry A Y). e.day))

  served_is : AreTaken (acted_of (acting events)) es → map asked_on es ≡ served events
  served_is t = pairs_served (puts (acting events)) es (as_long t) ∙ ap (λ ds. map (λ (s : (ℕ × A) × ℕ). (s.0.1, s.1)) (zip (puts (acting events)) ds)) t.1

  given_is : AreTaken (acted_of (acting events)) es → AreGiven (acted_of (acting events)) es given → given ≡ collected events (map (λ e. e.reply) es)
  given_is t g =
      let mine = collected_is (map answer es) given [] (λ s. g.1 s ∙ ap (λ cs. take (count_of s cs) (replies_of s es)) (sym g.0)
      ∙ ap (λ l. take (count_of s (map (λ x. x.0) given)) l) (replies_given s es)) in
      mine ∙ ap (λ cs. collected_after (map answer es) [] cs) g.0 ∙ ap (λ l. collected_after l [] (collects (acting events)))
      (sym (answers_served (puts (acting events)) es (as_long t)))

pub hall_runs : {S L : Type 0} (view : S → StoreView) (log : Ghosts L) (events : List (Event Asked)) (given : List (ℕ × Reply)) (old new : OfficeView S L)
    (es : List (Entry Asked Reply))
    → Runs (StepFor view log) old es new → AreTaken (acted events) es → AreGiven (acted events) es given → (replies : List Reply)
    × HallRuns view log events given old new replies
hall_runs view log events given old new es runs taken collected =
    let t = subst (λ h. AreTaken h es) (acting_is events) taken in
    let g = subst (λ h. AreGiven h es given) (acting_is events) collected in
    let replies = map (λ (e : Entry Asked Reply). e.reply) es in
    let run : IsRun view log (served events) replies old new =
    subst (λ rs. IsRun view log rs replies old new) (served_is events es given t)
    (is_run view log (λ y. y) (StepFor view log) (λ o a d y p s. s) old es new runs) in
    let are = given_is events es given t g in (
      replies,
      record {
        run = run;
        answered = are;
        model = λ sure h is held own. is_hall_run (view new.store).holds old.policy events given replies h are (run.model sure h is held) own;
      },
    )

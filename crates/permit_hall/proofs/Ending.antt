-- A hall from its opening to its end.
use Rattle.std.proofs.Common.{◌≡◌, ℕ, ◌<◌, ◌≤◌, List, [], ◌∷◌, ◌++◌, length, map, get_or, sym, ap, ◌∙◌, subst, arith}
use Rattle.std.specs.Prelude.{slice_index_or, Option, Some, None, All, filter, ◌==◌}
use Rattle.std.proofs.lemmas.List.{get_or-map, length-map, length-append, append-nil}
use Rattle.crossbeam_channel.specs.Ends.{sends_on, receives_on}
use Rattle.permit_hall.specs.Runs.{Entry, requests_of, replies_of}
use Rattle.permit_hall.specs.declared.hall.Hall.{Hall}
use Rattle.permit_hall.specs.declared.intake.Envelope.{Envelope}
use Rattle.permit_hall.specs.declared.owner.Outlet.{Outlet}
use Rattle.permit_hall.specs.declared.session.Session.{Session}
use Rattle.permit_hall.specs.declared.worker.Worker.{Worker}
use Rattle.permit_hall.specs.Answers.{AreAnswers, AreServed}
use Rattle.permit_hall.specs.Closing.{sent_by, Closed, AreClosed}
use Rattle.permit_hall.specs.Hall.{IsNew}
use Rattle.permit_hall.specs.Intake.{requests_in}
use Rattle.permit_hall.specs.Owner.{HasSent, Sent, SameLanes, Serves}
use Rattle.permit_hall.specs.Session.{Has}
use Rattle.permit_hall.proofs.IntakeMoves.{requests_append}
use Rattle.permit_hall.proofs.Moving.{nil_of}

pub element_of : {X : Type 0} (xs : List X) → 0 < length xs → X
element_of [] low = absurd (omega arith)
element_of (x ∷ xs) low = x

pub room_as : (a b room : ℕ) → a ≡ b → b ≤ room → a ≤ room
room_as a b room same fits = omega arith

module _ {A Y : Type 0} where
  pub as_listed : {P Z : Type 0} (h : Hall A Y) (jobs : List (Session A Y × P)) (f : Session A Y × P → Z) (lists : List Z) → IsNew h (map (λ j. j.0) jobs) →
      map f jobs ≡ lists → length h.outlets.items ≡ length lists
  as_listed {P = P} h jobs f lists new same = new.2 ∙ length-map jobs (λ (j : Session A Y × P). j.0) ∙ sym (length-map jobs f) ∙ ap length same

  pub all_have : {P : Type 0} (h : Hall A Y) (jobs : List (Session A Y × P)) → IsNew h (map (λ j. j.0) jobs) → All (λ j. Has j.0 [] []) jobs
  all_have {P = P} h jobs new k d low =
      let there : k < length (map (λ (j : Session A Y × P). j.0) jobs) = subst (λ n. k < n) (sym (length-map jobs (λ (j : Session A Y × P). j.0))) low in
      let lane : Outlet Y = element_of h.outlets.items (let n = new.2 in omega arith) in
      subst (λ s. Has s [] []) (get_or-map (λ j. j.0) jobs k d d.0 low) (new.3 k lane d.0 there).1

  pub none_sent : (h : Hall A Y) (ss : List (Session A Y)) → IsNew h ss → (p : ℕ) (d : Outlet Y) → p < length h.outlets.items →
      HasSent [] (slice_index_or h.outlets.items p d)
  none_sent h ss new p d low = let there : p < length ss = subst (λ n. p < n) new.2 low in (new.3 p d (element_of ss (omega arith)) there).0

  module _ {P O T : Type 0} (h : Hall A Y) (jobs : List (Session A Y × P)) (workers : List (Worker A Y O T)) (outs : List (Outlet Y)) where
    pub as_many : map (λ w. w.place.value) workers ≡ map (λ j. j.0) jobs → length workers ≡ length jobs
    as_many same = sym (length-map workers (λ (w : Worker A Y O T). w.place.value)) ∙ ap length same ∙ length-map jobs (λ (j : Session A Y × P). j.0)

    pub stand : (served : List (Entry A Y)) → IsNew h (map (λ j. j.0) jobs) → map (λ w. w.place.value) workers ≡ map (λ j. j.0) jobs →
        SameLanes h.outlets.items outs → Sent served outs
        → (k : ℕ) (o : Outlet Y) (w : Worker A Y O T) → k < length workers
        → HasSent (sent_by (slice_index_or outs k o)) (slice_index_or outs k o) × ((slice_index_or workers k w).place.value.number ≡ k)
        × (sends_on (slice_index_or workers k w).place.value.intake ≡ sends_on h.sender)
        × (receives_on (slice_index_or workers k w).place.value.lane ≡ sends_on (slice_index_or outs k o).lane)
    stand served new same lanes sent k o w low =
        let there : k < length (map (λ (j : Session A Y × P). j.0) jobs) =
        subst (λ n. k < n) (sym (length-map workers (λ (w : Worker A Y O T). w.place.value)) ∙ ap length same) low in
        let lane : k < length h.outlets.items = subst (λ n. k < n) (sym new.2) there in
        let is : get_or (map (λ (j : Session A Y × P). j.0) jobs) k w.place.value ≡ (get_or workers k w).place.value =
        ap (λ l. get_or l k w.place.value) (sym same) ∙ get_or-map (λ w. w.place.value) workers k w w.place.value low in
        let of = (new.3 k o w.place.value there).2 in let went = sent k o (subst (λ n. k < n) (sym lanes.0) lane) in (
          subst (λ l. HasSent l (get_or outs k o)) (sym (ap (λ v. v.sent) went.1)) went,
          ap (λ s. s.number) (sym is) ∙ of.0,
          ap (λ s. sends_on s.intake) (sym is) ∙ of.1,
          ap (λ s. receives_on s.lane) (sym is) ∙ of.2 ∙ sym (lanes.1 k o lane),
        )

  pub as_long : (p : ℕ) (es : List (Entry A Y)) → length (requests_of p es) ≡ length (replies_of p es)
  as_long p es = length-map (filter (λ (e : Entry A Y). e.from == p) es) (λ (e : Entry A Y). e.request)
      ∙ sym (length-map (filter (λ (e : Entry A Y). e.from == p) es) (λ (e : Entry A Y). e.reply))

  pub concludes : {O T : Type 0} (did : T → List A → List Y → O → Type 0) (k : ℕ) (served : List (Entry A Y)) (task : T) (known taken queued : List A)
      (sent : List Y) (a : Option O) → known ≡ taken ++ queued → requests_of k served ≡ taken → sent ≡ replies_of k served
      → Closed did known sent task a → AreAnswers did served k task a
  concludes did k served task known taken queued sent None all requests replies h =
      nil_of (requests_of k served) (let n = ap length all in let m = ap length h in let t = ap length requests in omega (arith, length-append taken queued))
  concludes did k served task known taken queued sent (Some v) all requests replies h =
      let n = ap length all in let t = ap length requests in let s = ap length replies in let r = ap length h.2 in let long = as_long k served in
      let no_queue : queued ≡ [] = nil_of queued (omega (arith, length-append taken queued, length-append h.0 h.1, h.3)) in
      let no_rest : h.1 ≡ [] = nil_of h.1 (omega (arith, length-append taken queued, length-append h.0 h.1, h.3)) in
      let put : known ≡ requests_of k served = all ∙ ap (λ l. taken ++ l) no_queue ∙ append-nil taken ∙ sym requests in
      let got : h.0 ≡ replies_of k served = sym (append-nil h.0) ∙ ap (λ l. h.0 ++ l) (sym no_rest) ∙ sym h.2 ∙ replies in
      subst (λ (x : List A × List Y). did task x.0 x.1 v) (λ i. (put i, got i)) h.4

  -- the whole theorem, of what the owner's loop and the closing left
  pub all_served : {S O T C : Type 0} (step : S → A → ℕ → Y → S → Type 0) (tick : C → ℕ → C → Type 0) (did : T → List A → List Y → O → Type 0) (n : ℕ) (tasks : List T)
      (workers : List (Worker A Y O T)) (lanes : List (Outlet Y)) (known : List (List A)) (outs : List (Option O))
      (got queued : List (Envelope A)) (s t : S) (c d : C) (served : List (Entry A Y))
      → Serves step tick n got s t c d served → n ≡ length tasks → map (λ w. w.task.value) workers ≡ tasks → length lanes ≡ length tasks → Sent served lanes
      → length outs ≡ length workers → AreClosed did known lanes workers outs
      → ((k : ℕ) → k < length known → slice_index_or known k [] ≡ requests_in k (got ++ queued))
      → AreServed step tick did tasks outs s t c d served
  all_served {O = O} {T = T} step tick did n tasks workers lanes known outs got queued s t c d served h count same many_lanes sent many closed compared =
      let len : length workers ≡ length tasks = sym (length-map workers (λ (w : Worker A Y O T). w.task.value)) ∙ ap length same in record {
        runs = h.runs;
        days = h.days;
        each = subst (λ m. All (λ (e : Entry A Y). e.from < m) served) count h.each;
        len = many ∙ len;
        right = λ k l a low.
            let worker : Worker A Y O T = element_of workers (omega arith) in let lane : Outlet Y = element_of lanes (omega arith) in
            let there : k < length workers = omega arith in let c0 = closed.0 in
            let task : (get_or workers k worker).task.value ≡ get_or tasks k l = sym (get_or-map (λ w. w.task.value) workers k worker l there)
            ∙ ap (λ x. get_or x k l) same in
            subst (λ (x : T). AreAnswers did served k x (get_or outs k a)) task
            (concludes did k served (get_or workers k worker).task.value (get_or known k []) (requests_in k got) (requests_in k queued)
            (sent_by (get_or lanes k lane)) (get_or outs k a)
            (compared k (omega arith) ∙ requests_append k got queued) (h.requests k (omega arith)) (ap (λ v. v.sent) (sent k lane (omega arith)).1)
            (closed.1 k lane worker a (omega arith)));
      }

module _ {S A Y O T U C : Type 0} (step : S → A → ℕ → Y → S → Type 0) (tick : C → ℕ → C → Type 0) (did : T → List A → List Y → O → Type 0)
    (done : U → List A → List Y → O → Type 0) (f : T → U)
    (same_did : (t : T) (put : List A) (got : List Y) (x : O) → did t put got x → done (f t) put got x) where
  answers_as : (served : List (Entry A Y)) (k : ℕ) (t : T) (o : Option O) → AreAnswers did served k t o → AreAnswers done served k (f t) o
  answers_as served k t None h = h
  answers_as served k t (Some x) h = same_did t _ _ x h

  -- the same theorem, of what the tasks were made of
  pub served_as : (tasks : List T) (sources : List U) (outs : List (Option O)) (s t : S) (c d : C) (served : List (Entry A Y)) → map f tasks ≡ sources →
      AreServed step tick did tasks outs s t c d served → AreServed step tick done sources outs s t c d served
  served_as tasks sources outs s t c d served same h =
      let len : length tasks ≡ length sources = sym (length-map tasks f) ∙ ap length same in record {
        runs = h.runs;
        days = h.days;
        each = subst (λ m. All (λ (e : Entry A Y). e.from < m) served) len h.each;
        len = h.len ∙ len;
        right = λ k l a low.
            let task : T = element_of tasks (omega arith) in let there : k < length tasks = omega arith in
            subst (λ (x : U). AreAnswers done served k x (get_or outs k a)) (sym (get_or-map f tasks k task l there) ∙ ap (λ x. get_or x k l) same)
            (answers_as served k (get_or tasks k task) (get_or outs k a) (h.right k task a there));
      }

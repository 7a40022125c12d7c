-- The queues and the counts say the same, and each event keeps that.
use Rattle.std.proofs.Common.{◌≡◌, ◌≢◌, ℕ, zero, suc, ◌+◌, ◌<◌, ◌≤◌, Bool, true, false, true≢false, List, [], ◌∷◌, ◌++◌, length, map, take, drop, get_or, sym}
use Rattle.std.proofs.Common.{refl, ap, ◌∙◌, subst, arith, append_assoc, add-one, ◌⊎◌, inl, inr, ⊎_elim}
use Rattle.std.specs.Prelude.{Option, Some, None, MatchOption, is_some, if◌then◌else◌, filter, ◌==◌, ◌&&◌, nat_lt}
use Rattle.std.proofs.lemmas.Bool.{eq-eqb}
use Rattle.std.proofs.lemmas.Bool.Decides.{nat_tests}
use Rattle.std.proofs.lemmas.List.{append-nil, map-append, length-append, take-append-drop, take-append-le, drop-append-le}
use Rattle.std.proofs.lemmas.List.{length-drop}
use Rattle.std.proofs.lemmas.List.Elements.{filter-append}
use Rattle.std.proofs.Math.Seq.{take-append_seam, take-suc, drop-cons}
use Rattle.permit_hall.specs.Runs.{Entry, replies_of}
use Rattle.permit_hall.proofs.Entries.{replies_here, replies_away}
use Rattle.permit_hall.proofs.Entries.{runs_more}
use Rattle.permit_model.specs.HallRun.{Put, Take, Collect}
use Rattle.permit_hall.proofs.Cases.{by_test, by_number, not_eqb}
use Rattle.permit_hall.specs.Queues.{Keeps, IsAt}
use Rattle.permit_model.specs.HallRun.{Event, count_of}
use Rattle.permit_hall.specs.Counts.{after, acted, acted_from, Acted, sessions, served_puts, puts_now, takes_now, collects_now, given_to, AreGiven}

and_false : (b : Bool) → (b && false) ≡ false
and_false true = refl
and_false false = refl

cond_map : {P Q : Type 0} (f : P → Q) (b : Bool) (x : P) (xs : List P) →
    length (map f (if b then x ∷ xs else xs)) ≡ (if b then suc (length (map f xs)) else length (map f xs))
cond_map f true x xs = refl
cond_map f false x xs = refl

cond_len : (b : Bool) (x : ℕ) (xs : List ℕ) → length (if b then x ∷ xs else xs) ≡ (if b then suc (length xs) else length xs)
cond_len true x xs = refl
cond_len false x xs = refl

module _ {Y : Type 0} where
  pub count_given : (s : ℕ) (pairs : List (ℕ × Y)) → length (given_to s pairs) ≡ count_of s (map (λ p. p.0) pairs)
  count_given s [] = refl
  count_given s (p ∷ ps) = cond_map (λ (g : ℕ × Y). g.1) (p.0 == s) p (filter (λ g. g.0 == s) ps) ∙ ap (λ n. if p.0 == s then suc n else n) (count_given s ps)
      ∙ sym (cond_len (p.0 == s) p.0 (filter (λ x. x == s) (map (λ p. p.0) ps)))

  pub given_append : (s : ℕ) (xs ys : List (ℕ × Y)) → given_to s (xs ++ ys) ≡ given_to s xs ++ given_to s ys
  given_append s xs ys = ap (λ l. map (λ (g : ℕ × Y). g.1) l) (filter-append (λ (g : ℕ × Y). g.0 == s) xs ys)
      ∙ map-append (λ g. g.1) (filter (λ (g : ℕ × Y). g.0 == s) xs) (filter (λ (g : ℕ × Y). g.0 == s) ys)

  pub given_here : (s : ℕ) (g : ℕ × Y) (rest : List (ℕ × Y)) → g.0 ≡ s → given_to s (g ∷ rest) ≡ g.1 ∷ given_to s rest
  given_here s g rest e = ap (λ (b : Bool). map (λ (x : ℕ × Y). x.1) (if b then g ∷ filter (λ x. x.0 == s) rest else filter (λ x. x.0 == s) rest))
      (eq-eqb g.0 s e)

  pub given_away : (s : ℕ) (g : ℕ × Y) (rest : List (ℕ × Y)) → g.0 ≢ s → given_to s (g ∷ rest) ≡ given_to s rest
  given_away s g rest n = ap (λ (b : Bool). map (λ (x : ℕ × Y). x.1) (if b then g ∷ filter (λ x. x.0 == s) rest else filter (λ x. x.0 == s) rest))
      (not_eqb g.0 s n)

count_append : (s : ℕ) (xs ys : List ℕ) → count_of s (xs ++ ys) ≡ count_of s xs + count_of s ys
count_append s xs ys = ap length (filter-append (λ x. x == s) xs ys) ∙ length-append (filter (λ x. x == s) xs) (filter (λ x. x == s) ys)

module _ {A Y : Type 0} where
  count_replies : (s : ℕ) (es : List (Entry A Y)) → length (replies_of s es) ≡ count_of s (sessions (map (λ e. (e.from, e.request)) es))
  count_replies s [] = refl
  count_replies s (e ∷ es) = cond_map (λ (x : Entry A Y). x.reply) (e.from == s) e (filter (λ x. x.from == s) es)
      ∙ ap (λ n. if e.from == s then suc n else n) (count_replies s es)
      ∙ sym (cond_len (e.from == s) e.from (filter (λ x. x == s) (sessions (map (λ e. (e.from, e.request)) es))))

  module _ (h : Acted A) (served : List (Entry A Y)) (queue : List (ℕ × A)) (ready given : List (ℕ × Y)) (k : Keeps h served queue ready given) (s : ℕ) where
    pub count_served : count_of s (sessions (served_puts h)) ≡ count_of s h.collects + length (given_to s ready)
    count_served = ap (λ l. count_of s (sessions l)) (sym k.taken.0) ∙ sym (count_replies s served) ∙ ap length (k.replies s)
        ∙ length-append (given_to s given) (given_to s ready)
        ∙ ap (λ n. n + length (given_to s ready)) (count_given s given ∙ ap (λ l. count_of s l) k.collected)

    pub count_puts : count_of s (sessions h.puts) ≡ (count_of s h.collects + length (given_to s ready)) + length (given_to s queue)
    count_puts = ap (λ l. count_of s (sessions l)) (sym (take-append-drop (length h.days) h.puts))
        ∙ ap (λ l. count_of s l) (map-append (λ p. p.0) (served_puts h) (drop (length h.days) h.puts))
        ∙ count_append s (sessions (served_puts h)) (sessions (drop (length h.days) h.puts))
        ∙ ap (λ n. n + count_of s (sessions (drop (length h.days) h.puts))) count_served
        ∙ ap (λ l. (count_of s h.collects + length (given_to s ready)) + count_of s (sessions l)) (sym k.queued)
        ∙ ap (λ n. (count_of s h.collects + length (given_to s ready)) + n) (sym (count_given s queue))

    pub queue_length : length queue + length h.days ≡ length h.puts
    queue_length = let q = ap length k.queued in let b = k.behind in omega (arith, length-drop (length h.days) h.puts)

    pub put_acts : given_to s queue ≡ [] → given_to s ready ≡ [] → length queue < 64 → puts_now h s ≡ true
    put_acts a b room = let p = count_puts in let q = queue_length in let a' = ap length a in let b' = ap length b in
        let x : (count_of s (sessions h.puts) == count_of s h.collects) ≡ true = eq-eqb _ _ (omega arith) in
        let y : nat_lt (length h.puts) (length h.days + 64) ≡ true = grind (arith, nat_tests) in
        ap (λ b. b && nat_lt (length h.puts) (length h.days + 64)) x ∙ y

    pub put_waits : (0 < length (given_to s queue) + length (given_to s ready)) ⊎ (64 ≤ length queue) → puts_now h s ≡ false
    put_waits w = let p = count_puts in let q = queue_length in ⊎_elim
        (λ some. ap (λ b. b && nat_lt (length h.puts) (length h.days + 64)) (not_eqb (count_of s (sessions h.puts)) (count_of s h.collects) (λ e. omega arith)))
        (λ full. let y : nat_lt (length h.puts) (length h.days + 64) ≡ false =
        grind (arith, nat_tests) in ap (λ b. (count_of s (sessions h.puts) == count_of s h.collects) && b) y
        ∙ and_false (count_of s (sessions h.puts) == count_of s h.collects)) w

    pub take_acts : 0 < length queue → takes_now h ≡ true
    take_acts some = let q = queue_length in grind (arith, nat_tests)

    pub take_waits : length queue ≡ 0 → takes_now h ≡ false
    take_waits none = let q = queue_length in grind (arith, nat_tests)

    pub collect_acts : 0 < length (given_to s ready) → collects_now h s ≡ true
    collect_acts some = let p = count_served in grind (arith, nat_tests)

    pub collect_waits : given_to s ready ≡ [] → collects_now h s ≡ false
    collect_waits none = let p = count_served in let n = ap length none in grind (arith, nat_tests)

  pub begins : Keeps {A = A} {Y = Y} (record { puts = []; days = []; collects = [] }) [] [] [] []
  begins = record { queued = refl; behind = omega arith; taken = (refl, refl); collected = refl; replies = (λ s. refl) }

  pub given_is : (h : Acted A) (served : List (Entry A Y)) (queue : List (ℕ × A)) (ready given : List (ℕ × Y)) → Keeps h served queue ready given →
      AreGiven h served given
  given_is h served queue ready given k = (
    k.collected,
    λ s. sym (ap (λ l. take (count_of s h.collects) l) (k.replies s)
        ∙ ap (λ n. take n (given_to s given ++ given_to s ready)) (sym (count_given s given ∙ ap (λ l. count_of s l) k.collected))
        ∙ take-append_seam (given_to s given) (given_to s ready)),
  )

  pub keeps_put : (h : Acted A) (served : List (Entry A Y)) (queue : List (ℕ × A)) (ready given : List (ℕ × Y)) (p : ℕ × A) → Keeps h served queue ready given →
      Keeps (record h { puts = h.puts ++ p ∷ [] }) served (queue ++ p ∷ []) ready given
  keeps_put h served queue ready given p k = record {
    queued = ap (λ l. l ++ p ∷ []) k.queued ∙ sym (drop-append-le (length h.days) h.puts (p ∷ []) k.behind);
    behind = let b = k.behind in omega (arith, length-append h.puts (p ∷ []));
    taken = (k.taken.0 ∙ sym (take-append-le (length h.days) h.puts (p ∷ []) k.behind), k.taken.1);
    collected = k.collected;
    replies = k.replies;
  }

  pub keeps_take : (h : Acted A) (served : List (Entry A Y)) (queue rest : List (ℕ × A)) (ready given : List (ℕ × Y)) (s : ℕ) (a : A) (d : ℕ) (y : Y) →
      queue ≡ (s, a) ∷ rest → Keeps h served queue ready given
      → Keeps (record h { days = h.days ++ d ∷ [] }) (served ++ record { from = s; request = a; day = d; reply = y } ∷ []) rest (ready ++ (s, y) ∷ []) given
  keeps_take h served queue rest ready given s a d y is k =
      let e : Entry A Y = record { from = s; request = a; day = d; reply = y } in let n = length h.days in
      let cut : drop n h.puts ≡ (s, a) ∷ rest = sym k.queued ∙ is in
      let low : n < length h.puts = let l = ap length cut in omega (arith, length-drop n h.puts) in
      let one : length (h.days ++ d ∷ []) ≡ suc n = omega (arith, length-append h.days (d ∷ [])) in
      let all = sym (drop-cons h.puts n (s, a) low) ∙ cut in record {
        queued = sym (ap (λ m. drop m h.puts) one ∙ ap (λ l. drop 1 l) all);
        behind = omega arith;
        taken = (
          map-append (λ (x : Entry A Y). (x.from, x.request)) served (e ∷ []) ∙ ap (λ l. l ++ (s, a) ∷ []) k.taken.0
              ∙ ap (λ x. take n h.puts ++ x ∷ []) (sym (ap (λ l. get_or l 0 (s, a)) all)) ∙ sym (take-suc h.puts n (s, a) low)
              ∙ ap (λ m. take m h.puts) (sym one),
          map-append (λ (x : Entry A Y). x.day) served (e ∷ []) ∙ ap (λ l. l ++ d ∷ []) k.taken.1,
        );
        collected = k.collected;
        replies = λ p. by_number s p
            (λ same. replies_here p served e same ∙ ap (λ l. l ++ y ∷ []) (k.replies p) ∙ append_assoc (given_to p given) (given_to p ready) (y ∷ [])
            ∙ ap (λ l. given_to p given ++ (given_to p ready ++ l)) (sym (given_here p (s, y) [] same))
            ∙ ap (λ l. given_to p given ++ l) (sym (given_append p ready ((s, y) ∷ []))))
            (λ other. replies_away p served e other ∙ k.replies p ∙ ap (λ l. given_to p given ++ l)
            (sym (given_append p ready ((s, y) ∷ []) ∙ ap (λ l. given_to p ready ++ l) (given_away p (s, y) [] other) ∙ append-nil (given_to p ready))));
      }

  pub keeps_collect : (h : Acted A) (served : List (Entry A Y)) (queue : List (ℕ × A)) (ready given xs ys : List (ℕ × Y)) (s : ℕ) (y : Y) →
      ready ≡ xs ++ (s, y) ∷ ys → given_to s xs ≡ [] → Keeps h served queue ready given
      → Keeps (record h { collects = h.collects ++ s ∷ [] }) served queue (xs ++ ys) (given ++ (s, y) ∷ [])
  keeps_collect h served queue ready given xs ys s y is none k = record {
    queued = k.queued;
    behind = k.behind;
    taken = k.taken;
    collected = map-append (λ (g : ℕ × Y). g.0) given ((s, y) ∷ []) ∙ ap (λ l. l ++ s ∷ []) k.collected;
    replies = λ p. k.replies p ∙ ap (λ l. given_to p given ++ given_to p l) is ∙ ap (λ l. given_to p given ++ l) (given_append p xs ((s, y) ∷ ys))
        ∙ by_number s p
        (λ same. let none' : given_to p xs ≡ [] = subst (λ q. given_to q xs ≡ []) same none in
        ap (λ l. given_to p given ++ (l ++ given_to p ((s, y) ∷ ys))) none' ∙ ap (λ l. given_to p given ++ l) (given_here p (s, y) ys same)
        ∙ sym (append_assoc (given_to p given) (y ∷ []) (given_to p ys))
        ∙ ap (λ l. (given_to p given ++ l) ++ given_to p ys) (sym (given_here p (s, y) [] same))
        ∙ ap (λ l. l ++ given_to p ys) (sym (given_append p given ((s, y) ∷ [])))
        ∙ ap (λ l. given_to p (given ++ (s, y) ∷ []) ++ l) (sym (given_append p xs ys ∙ ap (λ l. l ++ given_to p ys) none')))
        (λ other. ap (λ l. given_to p given ++ (given_to p xs ++ l)) (given_away p (s, y) ys other)
        ∙ ap (λ l. given_to p given ++ l) (sym (given_append p xs ys))
        ∙ ap (λ l. l ++ given_to p (xs ++ ys)) (sym (given_append p given ((s, y) ∷ []) ∙ ap (λ l. given_to p given ++ l) (given_away p (s, y) [] other)
        ∙ append-nil (given_to p given))));
  }

module _ {Y : Type 0} where
  pub found : (pairs : List (ℕ × Y)) (i s : ℕ) (p : ℕ × Y) → i < length pairs → get_or pairs i p ≡ p → p.0 ≡ s → 0 < count_of s (map (λ p. p.0) pairs)
  found [] i s p low is same = absurd (omega arith)
  found (x ∷ xs) zero s p low is same = let one : (x.0 == s) ≡ true = eq-eqb x.0 s (ap (λ (g : ℕ × Y). g.0) is ∙ same) in
      subst (λ (b : Bool). 0 < length (if b then x.0 ∷ filter (λ x. x == s) (map (λ p. p.0) xs) else filter (λ x. x == s) (map (λ p. p.0) xs))) (sym one)
      (omega arith)
  found (x ∷ xs) (suc i) s p low is same = let h = found xs i s p (omega arith) is same in
      by_test (x.0 == s)
      (λ e. subst (λ (b : Bool). 0 < length (if b then x.0 ∷ filter (λ x. x == s) (map (λ p. p.0) xs) else filter (λ x. x == s) (map (λ p. p.0) xs))) (sym e)
      (omega arith))
      (λ e. subst (λ (b : Bool). 0 < length (if b then x.0 ∷ filter (λ x. x == s) (map (λ p. p.0) xs) else filter (λ x. x == s) (map (λ p. p.0) xs))) (sym e) h)

  pub passed : (pairs : List (ℕ × Y)) (i s : ℕ) (p : ℕ × Y) → i < length pairs → get_or pairs i p ≡ p → p.0 ≢ s →
      count_of s (map (λ p. p.0) (take i pairs)) ≡ 0 → count_of s (map (λ p. p.0) (take (i + 1) pairs)) ≡ 0
  passed pairs i s p low is other none = ap (λ k. count_of s (map (λ p. p.0) (take k pairs))) (add-one i)
      ∙ ap (λ l. count_of s (map (λ p. p.0) l)) (take-suc pairs i p low) ∙ ap (λ l. count_of s l) (map-append (λ p. p.0) (take i pairs) (get_or pairs i p ∷ []))
      ∙ count_append s (map (λ p. p.0) (take i pairs)) ((get_or pairs i p).0 ∷ []) ∙ ap (λ n. n + count_of s ((get_or pairs i p).0 ∷ [])) none
      ∙ ap (λ (b : Bool). 0 + length (if b then (get_or pairs i p).0 ∷ [] else []))
      (not_eqb (get_or pairs i p).0 s (λ e. other (ap (λ (g : ℕ × Y). g.0) (sym is) ∙ e)))

pub nil_of : {P : Type 0} (xs : List P) → length xs ≡ 0 → xs ≡ []
nil_of [] e = refl
nil_of (x ∷ xs) e = absurd (omega arith)

pub some_case : {X Q : Type 0} (P : Type 0) (o : Option X) → is_some o ≡ true → MatchOption o P (λ i. Q) → Q
some_case P None e h = absurd (true≢false (sym e))
some_case P (Some x) e h = h

pub none_case : {X P : Type 0} (Q : Type 0) (o : Option X) → is_some o ≡ false → MatchOption o P (λ i. Q) → P
none_case Q None e h = h
none_case Q (Some x) e h = absurd (true≢false e)

module _ {S A Y : Type 0} (step : S → A → ℕ → Y → S → Type 0) (start end : S) (h : Acted A) (queue : List (ℕ × A)) (ready given : List (ℕ × Y)) where
  abbrev Here : Acted A → Type 0
  Here g = IsAt step start end g queue ready given

  pub put_stays : (s : ℕ) (a : A) → (0 < count_of s (map (λ p. p.0) queue)) ⊎ ((0 < count_of s (map (λ p. p.0) ready)) ⊎ (64 ≤ length queue)) → Here h →
      Here (after h (Put s a))
  put_stays s a why k = subst (λ (b : Bool). Here (if b then record h { puts = h.puts ++ (s, a) ∷ [] } else h))
      (sym (put_waits h k.0 queue ready given k.2 s (let q = count_given s queue in let r =
      count_given s ready in ⊎_elim (λ x. inl (omega arith)) (λ y. ⊎_elim (λ x. inl (omega arith)) (λ z. inr z) y) why))) k

  pub put_goes : (s : ℕ) (a : A) → count_of s (map (λ p. p.0) queue) ≡ 0 → count_of s (map (λ p. p.0) ready) ≡ 0 → length queue < 64 → Here h →
      IsAt step start end (after h (Put s a)) (queue ++ (s, a) ∷ []) ready given
  put_goes s a q r room k = subst (λ (b : Bool). IsAt step start end (if b then record h { puts = h.puts ++ (s, a) ∷ [] } else h)
      (queue ++ (s, a) ∷ []) ready given)
      (sym (put_acts h k.0 queue ready given k.2 s (nil_of (given_to s queue) (count_given s queue ∙ q))
      (nil_of (given_to s ready) (count_given s ready ∙ r)) room)) (k.0, k.1, keeps_put h k.0 queue ready given (s, a) k.2)

  pub take_stays : (d : ℕ) → length queue ≡ 0 → Here h → Here (after h (Take d))
  take_stays d none k = subst (λ (b : Bool). Here (if b then record h { days = h.days ++ d ∷ [] } else h))
      (sym (take_waits h k.0 queue ready given k.2 0 none)) k

  pub take_goes : (d s : ℕ) (a : A) (y : Y) (rest : List (ℕ × A)) (next : S) → queue ≡ (s, a) ∷ rest → step end a d y next → Here h →
      IsAt step start next (after h (Take d)) rest (ready ++ (s, y) ∷ []) given
  take_goes d s a y rest next is go k = subst (λ (b : Bool). IsAt step start next (if b then record h { days = h.days ++ d ∷ [] } else h) rest
      (ready ++ (s, y) ∷ []) given)
      (sym (take_acts h k.0 queue ready given k.2 0 (let l = ap length is in omega arith))) (
        k.0 ++ record { from = s; request = a; day = d; reply = y } ∷ [],
        runs_more step start end next k.0 (record { from = s; request = a; day = d; reply = y }) k.1 go,
        keeps_take h k.0 queue rest ready given s a d y is k.2,
      )

  pub collect_stays : (s : ℕ) → count_of s (map (λ p. p.0) ready) ≡ 0 → Here h → Here (after h (Collect s))
  collect_stays s none k = subst (λ (b : Bool). Here (if b then record h { collects = h.collects ++ s ∷ [] } else h))
      (sym (collect_waits h k.0 queue ready given k.2 s (nil_of (given_to s ready) (count_given s ready ∙ none)))) k

  pub collect_goes : (s : ℕ) (y : Y) (xs ys : List (ℕ × Y)) → ready ≡ xs ++ (s, y) ∷ ys → count_of s (map (λ p. p.0) xs) ≡ 0 → Here h →
      IsAt step start end (after h (Collect s)) queue (xs ++ ys) (given ++ (s, y) ∷ [])
  collect_goes s y xs ys is none k = subst (λ (b : Bool). IsAt step start end (if b then record h { collects = h.collects ++ s ∷ [] } else h) queue (xs ++ ys)
      (given ++ (s, y) ∷ []))
      (sym (collect_acts h k.0 queue ready given k.2 s (let l = ap length
      (ap (λ l. given_to s l) is ∙ given_append s xs ((s, y) ∷ ys) ∙ ap (λ l. given_to s xs ++ l) (given_here s (s, y) ys refl)) in omega
      (arith, length-append (given_to s xs) (y ∷ given_to s ys)))))
      (k.0, k.1, keeps_collect h k.0 queue ready given xs ys s y is (nil_of (given_to s xs) (count_given s xs ∙ none)) k.2)

both : {X Z : Type 0} (f : X → Z) (raw : List (ℕ × X)) → map (λ (p : ℕ × X). p.0) raw ≡ map (λ (p : ℕ × Z). p.0) (map (λ (q : ℕ × X). (q.0, f q.1)) raw)
both f [] = refl
both f (x ∷ xs) = ap (λ l. x.0 ∷ l) (both f xs)

pub same_sessions : {X Z : Type 0} (f : X → Z) (raw slice : List (ℕ × X)) → slice ≡ raw →
    map (λ (p : ℕ × X). p.0) slice ≡ map (λ (p : ℕ × Z). p.0) (map (λ (q : ℕ × X). (q.0, f q.1)) raw)
same_sessions {X = X} f raw slice is = ap (λ l. map (λ (p : ℕ × X). p.0) l) is ∙ both f raw

pub split_at : {X : Type 0} (xs : List X) (i : ℕ) (x : X) → i < length xs → x ≡ get_or xs i x → xs ≡ take i xs ++ x ∷ drop (suc i) xs
split_at xs i x low is = sym (take-append-drop i xs) ∙ ap (λ l. take i xs ++ l) (drop-cons xs i x low) ∙ ap (λ y. take i xs ++ y ∷ drop (suc i) xs) (sym is)

pub acted_more : {A : Type 0} (h : Acted A) (es : List (Event A)) (e : Event A) → acted_from h (es ++ e ∷ []) ≡ after (acted_from h es) e
acted_more h [] e = refl
acted_more h (x ∷ xs) e = acted_more (after h x) xs e

pub acted_next : {X A : Type 0} (f : X → Event A) (events : List X) (i : ℕ) (e : X) → i < length events → e ≡ get_or events i e →
    acted (map f (take (i + 1) events)) ≡ after (acted (map f (take i events))) (f e)
acted_next f events i e low is = ap (λ k. acted (map f (take k events))) (add-one i) ∙ ap (λ l. acted (map f l)) (take-suc events i e low)
    ∙ ap (λ x. acted (map f (take i events ++ x ∷ []))) (sym is)
    ∙ ap (λ l. acted l) (map-append f (take i events) (e ∷ [])) ∙ acted_more (record { puts = []; days = []; collects = [] }) (map f (take i events)) (f e)

pub starts : {S A Y : Type 0} (step : S → A → ℕ → Y → S → Type 0) (s : S) (queue : List (ℕ × A)) (ready given : List (ℕ × Y)) → queue ≡ [] → ready ≡ [] →
    given ≡ [] → IsAt step s s (record { puts = []; days = []; collects = [] }) queue ready given
starts {A = A} {Y = Y} step s queue ready given q r n = (
  [],
  refl,
  subst
      (λ (x : List (ℕ × A) × List (ℕ × Y) × List (ℕ × Y)). Keeps (record { puts = []; days = []; collects = [] }) [] x.0 x.1 x.2)
      (λ i. (sym q i, sym r i, sym n i)) begins,
)

module _ {S A Y : Type 0} (step : S → A → ℕ → Y → S → Type 0) (start end : S) (queue : List (ℕ × A)) (ready given : List (ℕ × Y)) where
  pub as_event : (h : Acted A) (f e : Event A) → f ≡ e → IsAt step start end (after h e) queue ready given → IsAt step start end (after h f) queue ready given
  as_event h f e is k = subst (λ x. IsAt step start end (after h x) queue ready given) (sym is) k

  pub as_acted : (f h : Acted A) → f ≡ h → IsAt step start end h queue ready given → IsAt step start end f queue ready given
  as_acted f h is k = subst (λ x. IsAt step start end x queue ready given) (sym is) k

-- What was served, one request later.
use Rattle.std.proofs.Common.{◌≡◌, ℕ, zero, suc, ◌<◌, ◌≤◌, List, [], ◌∷◌, ◌++◌, length, set, get_or, sym, refl, ap, ◌∙◌, subst, arith}
use Rattle.std.specs.Prelude.{slice_index_or, slice_set, Some, None}
use Rattle.std.proofs.lemmas.List.{get_or-set_same, get_or-set_other, length-set, append-nil, map-append}
use Rattle.std.proofs.lemmas.List.Elements.{All-append}
use Rattle.crossbeam_channel.specs.Claims.{view}
use Rattle.permit_hall.specs.Runs.{Entry, Gives, days_of, replies_of}
use Rattle.permit_hall.proofs.Entries.{runs_more, gives_more, requests_here, requests_away, replies_here, replies_away}
use Rattle.permit_hall.specs.declared.intake.Envelope.{Envelope}
use Rattle.permit_hall.specs.declared.intake.IntakeNote.{IntakeNote}
use Rattle.permit_hall.specs.declared.owner.Outlet.{Outlet}
use Rattle.permit_hall.specs.Intake.{said, requests_in, owner, TakesOne}
use Rattle.permit_hall.specs.Owner.{Serves, HasSent, Sent, SameLanes}
use Rattle.permit_hall.proofs.Cases.{by_number}
use Rattle.permit_hall.proofs.IntakeMoves.{requests_same, requests_else}

module _ {A Y : Type 0} where
  pub sent_more : (outlets : List (Outlet Y)) (o before : Outlet Y) (served : List (Entry A Y)) (e : Entry A Y) → e.from < length outlets →
      before ≡ get_or outlets e.from before
      → Sent served outlets → HasSent ((view before.lane_pass).sent ++ e.reply ∷ []) o → Sent (served ++ e ∷ []) (slice_set outlets e.from o)
  sent_more outlets o before served e inside at h now p d low =
      let low' : p < length outlets = subst (λ n. p < n) (length-set outlets e.from o) low in
      let was = subst (λ (x : Outlet Y). HasSent (replies_of e.from served) x) (sym at) (h e.from before inside) in
      by_number e.from p
      (λ is. let all : (view before.lane_pass).sent ++ e.reply ∷ [] ≡ replies_of p (served ++ e ∷ []) = ap (λ v. v.sent ++ e.reply ∷ []) was.1
      ∙ ap (λ n. replies_of n served ++ e.reply ∷ []) is ∙ sym (replies_here p served e is) in
      let there : o ≡ slice_index_or (slice_set outlets e.from o) p d =
      sym (ap (λ n. get_or (set outlets e.from o) n d) (sym is) ∙ get_or-set_same outlets e.from o d inside) in
      subst (λ (x : List Y × Outlet Y). HasSent x.0 x.1) (λ i. (all i, there i)) now)
      (λ n. let all : replies_of p served ≡ replies_of p (served ++ e ∷ []) = sym (replies_away p served e n) in
      let there : get_or outlets p d ≡ slice_index_or (slice_set outlets e.from o) p d = sym (get_or-set_other outlets e.from p o d (λ q. n (sym q))) in
      subst (λ (x : List Y × Outlet Y). HasSent x.0 x.1) (λ i. (all i, there i)) (h p d low'))

first : {X : Type 0} (k : ℕ) (d : X) → k < 1 → (e : X) → e ≡ slice_index_or (e ∷ []) k d
first zero d low e = refl
first (suc k) d low e = absurd (omega arith)

module _ {S A Y C : Type 0} (step : S → A → ℕ → Y → S → Type 0) (tick : C → ℕ → C → Type 0) (n : ℕ) where
  pub serves_none : (s : S) (c : C) → Serves step tick n [] s s c c []
  serves_none s c = record { runs = refl; days = refl; each = (λ k d low. absurd (omega arith)); requests = (λ p low. refl) }

  pub serves_as : (got more : List (Envelope A)) (s t : S) (c d : C) (served : List (Entry A Y)) → got ≡ more → Serves step tick n got s t c d served →
      Serves step tick n more s t c d served
  serves_as got more s t c d served is h = subst (λ l. Serves step tick n l s t c d served) is h

  pub serves_ask : (got : List (Envelope A)) (s t u : S) (c d f : C) (served : List (Entry A Y)) (m : Envelope A) (a : A) (day : ℕ) (reply : Y) →
      m.from < n → m.request ≡ Some a → tick d day f → step t a day reply u
      → Serves step tick n got s t c d served → Serves step tick n (got ++ m ∷ []) s u c f
      (served ++ record { from = m.from; request = a; day = day; reply = reply } ∷ [])
  serves_ask got s t u c d f served m a day reply inside is today go h = let e : Entry A Y =
      record { from = m.from; request = a; day = day; reply = reply } in record {
        runs = runs_more step s t u served e h.runs go;
        days = subst (λ l. Gives tick c l f) (sym (map-append (λ (x : Entry A Y). x.day) served (e ∷ [])))
            (gives_more tick c d f (days_of served) day h.days today);
        each = All-append (λ (x : Entry A Y). x.from < n) served (e ∷ []) h.each
            (λ k d low. subst (λ (x : Entry A Y). x.from < n) (first k d low e) inside);
        requests = λ p low. by_number m.from p
            (λ same. requests_here p served e same ∙ ap (λ l. l ++ a ∷ []) (h.requests p low) ∙ ap (λ o. requests_in p got ++ said o) (sym is)
            ∙ sym (requests_same p got m same))
            (λ other. requests_away p served e other ∙ h.requests p low ∙ sym (requests_else p got m other));
      }

  pub serves_skip : (got : List (Envelope A)) (s t : S) (c d : C) (served : List (Entry A Y)) (m : Envelope A) →
      ((p : ℕ) → p < n → requests_in p (got ++ m ∷ []) ≡ requests_in p got)
      → Serves step tick n got s t c d served → Serves step tick n (got ++ m ∷ []) s t c d served
  serves_skip got s t c d served m same h = record { runs = h.runs; days = h.days; each = h.each; requests = λ p low. h.requests p low ∙ sym (same p low) }

module _ {A : Type 0} where
  pub mark_says_nothing : (p : ℕ) (got : List (Envelope A)) (m : Envelope A) → m.request ≡ None → requests_in p (got ++ m ∷ []) ≡ requests_in p got
  mark_says_nothing p got m is = by_number m.from p (λ same. requests_same p got m same ∙ ap (λ o. requests_in p got ++ said o) is
      ∙ append-nil (requests_in p got)) (λ other. requests_else p got m other)

  pub outsider_says_nothing : (n p : ℕ) (got : List (Envelope A)) (m : Envelope A) → n ≤ m.from → p < n → requests_in p (got ++ m ∷ []) ≡ requests_in p got
  outsider_says_nothing n p got m out low = requests_else p got m (λ e. omega arith)

  pub starts : (v : IntakeNote A) (made : ℕ) → v ≡ owner made [] [] → v ≡ owner made v.got []
  starts v made is = is ∙ (λ i. owner made (sym (ap (λ (x : IntakeNote A). x.got) is) i) [])

  pub takes_keeps : (v w : IntakeNote A) (made : ℕ) (m : Envelope A) → v ≡ owner made v.got [] → TakesOne v m w → (w ≡ owner made w.got [])
      × (w.got ≡ v.got ++ m ∷ [])
  takes_keeps v w made m is next = let more = ap (λ (x : IntakeNote A). x.got) next in (next ∙ (λ i. owner ((is i).made) (sym more i) ((is i).known)), more)

module _ {Y : Type 0} where
  pub lanes_same : (a : List (Outlet Y)) → SameLanes a a
  lanes_same a = (refl, λ p d low. refl)

  pub lanes_then : (a b c : List (Outlet Y)) → SameLanes a b → SameLanes b c → SameLanes a c
  lanes_then a b c h k = (k.0 ∙ h.0, λ p d low. k.1 p d (subst (λ n. p < n) (sym h.0) low) ∙ h.1 p d low)

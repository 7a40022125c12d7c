-- One session more is closed.
use Rattle.std.proofs.Common.{◌≡◌, true, false, ℕ, ◌+◌, List, [], ◌∷◌, ◌++◌, length, get_or, sym, ap, ◌∙◌, subst, arith}
use Rattle.std.specs.Prelude.{Option, Some, None, MatchOption}
use Rattle.std.proofs.lemmas.List.{get_or_append_left, length-append}
use Rattle.std.proofs.Math.Seq.{get_or-append_seam}
use Rattle.permit_hall.specs.declared.intake.IntakeNote.{IntakeNote}
use Rattle.permit_hall.specs.declared.owner.Outlet.{Outlet}
use Rattle.permit_hall.specs.declared.session.Session.{Session}
use Rattle.permit_hall.specs.declared.worker.Worker.{Worker}
use Rattle.permit_hall.specs.Intake.{owner, session}
use Rattle.permit_hall.specs.Lane.{lane_note}
use Rattle.permit_hall.specs.Session.{Has, IsSession, put_by, got_by}
use Rattle.permit_hall.specs.Closing.{sent_by, Closed, AreClosed}
use Rattle.permit_hall.proofs.Cases.{by_number}

module _ {A : Type 0} where
  pub grown_view : (v w : IntakeNote A) (made : ℕ) (got : _) (put : List A) → v ≡ owner made got v.known → w ≡ owner v.made v.got (v.known ++ put ∷ []) →
      (w ≡ owner made got w.known) × (w.known ≡ v.known ++ put ∷ [])
  grown_view v w made got put is next = let more = ap (λ (x : IntakeNote A). x.known) next in
      (next ∙ (λ i. owner ((is i).made) ((is i).got) (sym more i)), more)

module _ {A Y : Type 0} where
  pub has_is : (s : Session A Y) (put : List A) (got : List Y) → Has s put got → IsSession s × (put_by s ≡ put) × (got_by s ≡ got)
  has_is s put got h = let p = ap (λ v. v.put) h.2 in let q = ap (λ v. v.got) h.3 in
      ((h.0, h.1, h.2 ∙ ap (λ l. session s.number l) (sym p), h.3 ∙ ap (λ l. lane_note false true [] l) (sym q)), p, q)

module _ {A Y O T : Type 0} (did : T → List A → List Y → O → Type 0) where
  abbrev Gave : Session A Y → T → Option O → Type 0
  Gave s task a = MatchOption a (put_by s ≡ []) (λ x. (length (put_by s) ≡ length (got_by s)) × did task (put_by s) (got_by s) x)

  pub done_is : (s : Session A Y) (task : T) (a : Option O) → MatchOption a (Has s [] [])
      (λ x. IsSession s × (length (put_by s) ≡ length (got_by s)) × did task (put_by s) (got_by s) x) → IsSession s × Gave s task a
  done_is s task None h = let r = has_is s [] [] h in (r.0, r.1)
  done_is s task (Some v) h = (h.0, (h.1, h.2))

  pub closes : (s : Session A Y) (task : T) (a : Option O) (sent : List Y) → Gave s task a → ((rest : List Y) × (sent ≡ got_by s ++ rest)) →
      Closed did (put_by s) sent task a
  closes s task None sent h r = h
  closes s task (Some v) sent h r = (got_by s, r.0, r.1, h.0, h.1)

  pub closed_more : (known more : List (List A)) (outlets : List (Outlet Y)) (workers : List (Worker A Y O T)) (answers next : List (Option O)) (put : List A)
      (a : Option O)
      → AreClosed did known outlets workers answers → more ≡ known ++ put ∷ [] → next ≡ answers ++ a ∷ []
      → ((o : Outlet Y) (w : Worker A Y O T) → Closed did put (sent_by (get_or outlets (length answers) o)) (get_or workers (length answers) w).task.value a)
      → AreClosed did more outlets workers next
  closed_more known more outlets workers answers next put a h grown longer last =
      let len : length next ≡ length answers + 1 = ap length longer ∙ omega (arith, length-append answers (a ∷ [])) in
      let lens : length more ≡ length next = let e = h.0 in ap length grown ∙ omega (arith, length-append known (put ∷ [])) in (
        lens,
        λ k o w b low. by_number k (length answers)
            (λ e. subst (λ (x : ℕ × List A × Option O). Closed did x.1 (sent_by (get_or outlets x.0 o)) (get_or workers x.0 w).task.value x.2)
            (λ i. (
              sym e i,
              sym (ap (λ l. get_or l k []) grown ∙ ap (λ n. get_or (known ++ put ∷ []) n []) (e ∙ sym h.0) ∙ get_or-append_seam known put [] []) i,
              sym (ap (λ l. get_or l k b) longer ∙ ap (λ n. get_or (answers ++ a ∷ []) n b) e ∙ get_or-append_seam answers a [] b) i,
            ))
            (last o w))
            (λ n. let q = h.0 in subst (λ (x : List A × Option O). Closed did x.0 (sent_by (get_or outlets k o)) (get_or workers k w).task.value x.1)
            (λ i. (
              sym (ap (λ l. get_or l k []) grown ∙ get_or_append_left known (put ∷ []) [] k (omega arith)) i,
              sym (ap (λ l. get_or l k b) longer ∙ get_or_append_left answers (a ∷ []) b k (omega arith)) i,
            ))
            (h.1 k o w b (omega arith))),
      )

  pub at_place : (outlets : List (Outlet Y)) (workers : List (Worker A Y O T)) (put : List A) (a : Option O) (n k : ℕ) (p : Outlet Y) (v : Worker A Y O T)
      (o : Outlet Y) (w : Worker A Y O T) → k ≡ n → get_or outlets n p ≡ o → get_or workers k v ≡ w
      → Closed did put (sent_by o) w.task.value a → Closed did put (sent_by (get_or outlets k p)) (get_or workers k v).task.value a
  at_place outlets workers put a n k p v o w e lane worker h = subst (λ (x : Outlet Y × Worker A Y O T). Closed did put (sent_by x.0) x.1.task.value a)
      (λ i. (sym (ap (λ m. get_or outlets m p) e ∙ lane) i, sym worker i)) h

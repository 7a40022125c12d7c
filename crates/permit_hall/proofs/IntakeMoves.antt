-- Each move keeps the rule of the intake.
use Rattle.std.proofs.Common.{◌≡◌, ◌≢◌, ℕ, ◌+◌, ◌<◌, ◌==◌, Bool, true, false, true≢false, List, [], ◌∷◌, ◌++◌, length, set, sym, refl}
use Rattle.std.proofs.Common.{ap, ◌∙◌, subst, ⊎_elim, append_assoc, arith}
use Rattle.std.specs.Prelude.{if◌then◌else◌, slice_index_or}
use Rattle.std.proofs.lemmas.Bool.{eq-eqb}
use Rattle.std.proofs.lemmas.List.{get_or_append_left, append-nil, length-append}
use Rattle.std.proofs.Math.Seq.{get_or-append_seam}
use mathlib.Core.Option.{some, some-ne-none}
use lib.ListN.{get_elem?}
use Rattle.crossbeam_channel.specs.Fifo.{Pushes, Pops, Forks, Merges, Learns}
use Rattle.atomic_table.proofs.Lists.{at_set}
use Rattle.permit_hall.specs.declared.intake.Envelope.{Envelope}
use Rattle.permit_hall.specs.declared.intake.IntakeNote.{IntakeNote}
use Rattle.permit_hall.specs.Intake.{said, requests_in, owner, session, nobody, Fits, Taken, PutsOne, TakesOne, Compares}
use Rattle.permit_hall.proofs.Cases.{by_number, not_eqb, put_at, put_here, put_else, at_end, at_snoc_or_end, EachView, all_set}

module _ {A : Type 0} where
  joined : (b : Bool) (s t u v : List A) → u ≡ t ++ v → (if b then s ++ u else u) ≡ (if b then s ++ t else t) ++ v
  joined true s t u v e = ap (λ x. s ++ x) e ∙ sym (append_assoc s t v)
  joined false s t u v e = e

  pub requests_append : (p : ℕ) (xs ys : List (Envelope A)) → requests_in p (xs ++ ys) ≡ requests_in p xs ++ requests_in p ys
  requests_append p [] ys = refl
  requests_append p (m ∷ ms) ys = joined (m.from == p) (said m.request) (requests_in p ms) (requests_in p (ms ++ ys)) (requests_in p ys)
      (requests_append p ms ys)

  pub requests_same : (p : ℕ) (log : List (Envelope A)) (m : Envelope A) → m.from ≡ p → requests_in p (log ++ m ∷ []) ≡ requests_in p log ++ said m.request
  requests_same p log m e = requests_append p log (m ∷ []) ∙ ap (λ (b : Bool). requests_in p log ++ (if b then said m.request ++ [] else []))
      (eq-eqb m.from p e) ∙ ap (λ x. requests_in p log ++ x) (append-nil (said m.request))

  pub requests_else : (p : ℕ) (log : List (Envelope A)) (m : Envelope A) → m.from ≢ p → requests_in p (log ++ m ∷ []) ≡ requests_in p log
  requests_else p log m n = requests_append p log (m ∷ []) ∙ ap (λ (b : Bool). requests_in p log ++ (if b then said m.request ++ [] else []))
      (not_eqb m.from p n) ∙ append-nil (requests_in p log)

  pub begins : Taken {A = A} [] (owner 0 [] [] ∷ [])
  begins = (
    [],
    (λ _. 0),
    0,
    all_set (Fits [] [] (λ _. 0) 0) (owner 0 [] [] ∷ []) 0 (owner 0 [] [])
        ((λ e. absurd (true≢false (sym e))), λ _. (refl, refl, (λ p _. (refl, refl)), (λ k low. absurd (omega arith)), omega arith))
        (λ j u other e. absurd (other (at_end [] _ u j (λ x. some-ne-none u (sym x)) e))),
  )

  -- an envelope of another session leaves what a pass knows
  others_fit : (log items : List (Envelope A)) (seat : ℕ → ℕ) (reader j : ℕ) (u : IntakeNote A) (m : Envelope A) → (u.sends ≡ true → m.from ≢ u.from) →
      seat m.from ≢ 0
      → Fits log items seat reader j u → Fits (log ++ m ∷ []) (items ++ m ∷ []) seat reader j u
  others_fit log items seat reader j u m apart sits h = (
    (λ s. ((h.0 s).0, (h.0 s).1 ∙ sym (requests_else u.from log m (apart s)))),
    λ g. let o = h.1 g in (
      o.0,
      sym (append_assoc u.got items (m ∷ [])) ∙ ap (λ l. l ++ m ∷ []) o.1,
      (λ p far. let q = o.2 p far in (q.0, requests_else p log m (λ e. sits (ap seat e ∙ q.0)) ∙ q.1)),
      (λ k low. let q = o.3 k low in (q.0, q.1 ∙ sym (requests_else k log m (λ e. sits (ap seat e ∙ q.0))))),
      o.4,
    ),
  )

  pub puts : (n pass : ℕ) (v : IntakeNote A) (m : Envelope A) → v.sends ≡ true → v.gets ≡ false → v.from ≡ m.from → Pushes Taken n pass v m (PutsOne v m)
  puts n pass v m may _ same items views _ h at =
      let w : IntakeNote A = session v.from (v.put ++ said m.request) in let mine = (h.3 pass v at).0 may in let log = h.0 ++ m ∷ [] in
      let sits : h.1 m.from ≡ pass + 1 = ap h.1 (sym same) ∙ mine.0 in (
        w,
        (
          log,
          h.1,
          h.2,
          all_set (Fits log (items ++ m ∷ []) h.1 h.2) views pass w
              ((λ _. (mine.0, ap (λ l. l ++ said m.request) mine.1 ∙ sym (requests_same v.from h.0 m (sym same)))), λ g. absurd (true≢false (sym g)))
              (λ j u other e. others_fit h.0 items h.1 h.2 j u m (λ s is. other (let a = ((h.3 j u e).0 s).0 in let b = sym sits ∙ ap h.1 is in omega arith))
              (λ z. let b = sits in omega arith) (h.3 j u e)),
        ),
        refl,
      )

  pub takes : (pass : ℕ) (v : IntakeNote A) → v.gets ≡ true → Pops Taken pass v (TakesOne v)
  takes pass v may m items views h at = let w : IntakeNote A = owner v.made (v.got ++ m ∷ []) v.known in let mine = (h.3 pass v at).1 may in (
    w,
    (
      h.0,
      h.1,
      h.2,
      all_set (Fits h.0 items h.1 h.2) views pass w (
        (λ s. absurd (true≢false (sym s))),
        λ _. (mine.0, append_assoc v.got (m ∷ []) items ∙ mine.1, mine.2, mine.3, mine.4),
      )
          (λ j u other e. ((h.3 j u e).0, λ g. absurd (other (((h.3 j u e).1 g).0 ∙ sym mine.0)))),
    ),
    refl,
  )

  pub forks : (pass : ℕ) (v : IntakeNote A) → v.gets ≡ true → Forks Taken pass v (owner (v.made + 1) v.got v.known) (session v.made [])
  forks pass v may items views h at =
      let l : IntakeNote A = owner (v.made + 1) v.got v.known in let r : IntakeNote A = session v.made [] in let mine =
      (h.3 pass v at).1 may in let vs : List (IntakeNote A) = set views pass l in
      let seat : ℕ → ℕ = put_at h.1 v.made (length vs + 1) in let fresh = mine.2 v.made (omega arith) in
      let Old : ℕ → IntakeNote A → Type 0 = λ j u. Fits h.0 items seat h.2 j u in
      let old : EachView Old vs = all_set Old views pass l (
        (λ s. absurd (true≢false (sym s))),
        λ _. (
          mine.0,
          mine.1,
          (λ p far. let q = mine.2 p (omega arith) in (put_else h.1 v.made (length vs + 1) p (λ e. omega arith) ∙ q.0, q.1)),
          (λ k low. let q = mine.3 k low in let m = mine.4 in (put_else h.1 v.made (length vs + 1) k (λ e. omega arith) ∙ q.0, q.1)),
          (let m = mine.4 in omega arith),
        ),
      )
      (λ j u other e. (
        (λ s. let q = (h.3 j u e).0 s in (put_else h.1 v.made (length vs + 1) u.from (λ is. let z = sym q.0 ∙ ap h.1 is ∙ fresh.0 in omega arith) ∙ q.0, q.1)),
        λ g. absurd (other (((h.3 j u e).1 g).0 ∙ sym mine.0)),
      )) in (
        h.0,
        seat,
        h.2,
        λ j u e. ⊎_elim (λ x. old j u x)
            (λ (x : (j ≡ length vs) × (r ≡ u)). subst (λ y. Fits h.0 items seat h.2 j y) x.1
            ((λ _. (put_here h.1 v.made (length vs + 1) v.made refl ∙ ap (λ n. n + 1) (sym x.0), sym fresh.1)), λ g. absurd (true≢false (sym g))))
            (at_snoc_or_end vs r u j e),
      )

  pub merges : (pass : ℕ) (v : IntakeNote A) (other : ℕ) (u : IntakeNote A) → v.gets ≡ true → u.sends ≡ true → u.from ≡ length v.known →
      Merges Taken pass v other u (owner v.made v.got (v.known ++ u.put ∷ [])) nobody
  merges pass v other u may sent next items views h at two at' =
      let both : IntakeNote A = owner v.made v.got (v.known ++ u.put ∷ []) in let mine = (h.3 pass v at).1 may in let vs : List (IntakeNote A) =
      set views pass both in
      let was : get_elem? views other ≡ some u = ⊎_elim (λ x. absurd (two x.0)) (λ x. x.1) (at_set views pass other both u at') in let theirs =
      (h.3 other u was).0 sent in
      let seat : ℕ → ℕ = put_at h.1 u.from 0 in
      let early : length v.known < v.made = by_number (length v.known) v.made
      (λ e. let z = (mine.2 u.from (omega arith)).0 in let t = theirs.0 in absurd (omega arith)) (λ n. let m = mine.4 in omega arith) in
      let len : length (v.known ++ u.put ∷ []) ≡ length v.known + 1 = omega (arith, length-append v.known (u.put ∷ [])) in
      let silent : (p : ℕ) → h.1 p ≡ 0 → seat p ≡ 0 = λ p z. by_number p u.from (λ e. put_here h.1 u.from 0 p e) (λ n. put_else h.1 u.from 0 p n ∙ z) in
      let Now : ℕ → IntakeNote A → Type 0 = λ j y. j ≢ other → Fits h.0 items seat h.2 j y in
      let now : EachView Now vs = all_set Now views pass both
      (λ _. (
        (λ s. absurd (true≢false (sym s))),
        λ _. (
          mine.0,
          mine.1,
          (λ p far. let q = mine.2 p far in (silent p q.0, q.1)),
          (λ k low. by_number k (length v.known)
              (λ e. (
                put_here h.1 u.from 0 k (e ∙ sym next),
                ap (λ n. slice_index_or (v.known ++ u.put ∷ []) n []) e ∙ get_or-append_seam v.known u.put [] []
                    ∙ theirs.1 ∙ ap (λ n. requests_in n h.0) (next ∙ sym e),
              ))
              (λ n. let q = mine.3 k (omega arith) in (silent k q.0, get_or_append_left v.known (u.put ∷ []) [] k (omega arith) ∙ q.1))),
          omega arith,
        ),
      ))
      (λ j y n e apart. (
        (λ s. let q = (h.3 j y e).0 s in (put_else h.1 u.from 0 y.from (λ is. apart (let z = sym q.0 ∙ ap h.1 is ∙ theirs.0 in omega arith)) ∙ q.0, q.1)),
        λ g. absurd (n (((h.3 j y e).1 g).0 ∙ sym mine.0)),
      )) in (
        h.0,
        seat,
        h.2,
        all_set (Fits h.0 items seat h.2) vs other nobody ((λ s. absurd (true≢false (sym s))), λ g. absurd (true≢false (sym g)))
            (λ j y apart e. now j y e apart),
      )

  pub compares : (pass : ℕ) (v : IntakeNote A) → v.gets ≡ true → Learns Taken pass v (Compares v)
  compares pass v may items views h at = let mine = (h.3 pass v at).1 may in λ k low. (mine.3 k low).1 ∙ ap (λ l. requests_in k l) (sym mine.1)

  pub nothing : (pass : ℕ) (v : IntakeNote A) → Learns Taken pass v (λ items. Unit {0})
  nothing pass v items views h at = tt

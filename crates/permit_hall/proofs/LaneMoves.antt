-- Each move keeps the rule of a lane.
use Rattle.std.proofs.Common.{◌≡◌, ◌≢◌, ℕ, true, false, true≢false, List, [], ◌∷◌, ◌++◌, length, set, sym, refl, ap, ◌∙◌, ⊎_elim, append_assoc}
use mathlib.Core.Option.{some, some-ne-none}
use lib.ListN.{get_elem?}
use Rattle.crossbeam_channel.specs.Fifo.{Pushes, Pops, Forks, Merges, Learns}
use Rattle.atomic_table.proofs.Lists.{at_set, at_snoc}
use Rattle.permit_hall.specs.declared.lane.LaneNote.{LaneNote}
use Rattle.permit_hall.specs.Lane.{lane_note, FitsLane, Carried}
use Rattle.permit_hall.proofs.Cases.{at_end, EachView, all_set}

module _ {Y : Type 0} where
  pub begins : Carried {Y = Y} [] (lane_note true true [] [] ∷ [])
  begins = (
    [],
    0,
    0,
    all_set (FitsLane [] [] 0 0) (lane_note true true [] [] ∷ []) 0 (lane_note true true [] []) ((λ _. (refl, refl)), λ _. (refl, refl))
        (λ j u other e. absurd (other (at_end [] _ u j (λ x. some-ne-none u (sym x)) e))),
  )

  pub sends : (n pass : ℕ) (v : LaneNote Y) (x : Y) → v.sends ≡ true → Pushes Carried n pass v x (λ w. w ≡ lane_note v.sends v.gets (v.sent ++ x ∷ []) v.got)
  sends n pass v x may items views _ h at = let w : LaneNote Y = lane_note v.sends v.gets (v.sent ++ x ∷ []) v.got in let mine = h.3 pass v at in let log =
      h.0 ++ x ∷ [] in
      let more : (got : List Y) → got ++ items ≡ h.0 → got ++ (items ++ x ∷ []) ≡ log = λ got e. sym (append_assoc got items (x ∷ []))
      ∙ ap (λ l. l ++ x ∷ []) e in (
        w,
        (
          log,
          h.1,
          h.2,
          all_set (FitsLane log (items ++ x ∷ []) h.1 h.2) views pass w
              ((λ _. ((mine.0 may).0, ap (λ l. l ++ x ∷ []) (mine.0 may).1)), λ g. ((mine.1 g).0, more v.got (mine.1 g).1))
              (λ j u other e. ((λ p. absurd (other (((h.3 j u e).0 p).0 ∙ sym (mine.0 may).0))), λ g. (((h.3 j u e).1 g).0, more u.got ((h.3 j u e).1 g).1))),
        ),
        refl,
      )

  pub collects : (pass : ℕ) (v : LaneNote Y) → v.gets ≡ true → Pops Carried pass v (λ x w. w ≡ lane_note v.sends v.gets v.sent (v.got ++ x ∷ []))
  collects pass v may x items views h at = let w : LaneNote Y = lane_note v.sends v.gets v.sent (v.got ++ x ∷ []) in let mine = h.3 pass v at in (
    w,
    (
      h.0,
      h.1,
      h.2,
      all_set (FitsLane h.0 items h.1 h.2) views pass w (mine.0, λ _. ((mine.1 may).0, append_assoc v.got (x ∷ []) items ∙ (mine.1 may).1))
          (λ j u other e. ((h.3 j u e).0, λ p. absurd (other (((h.3 j u e).1 p).0 ∙ sym (mine.1 may).0)))),
    ),
    refl,
  )

  pub forks : (pass : ℕ) (v : LaneNote Y) → v.sends ≡ true → v.gets ≡ true →
      Forks Carried pass v (lane_note true false v.sent []) (lane_note false true [] v.got)
  forks pass v a b items views h at = let l : LaneNote Y = lane_note true false v.sent [] in let r : LaneNote Y = lane_note false true [] v.got in let mine =
      h.3 pass v at in let vs : List (LaneNote Y) = set views pass l in
      let Old : ℕ → LaneNote Y → Type 0 = λ j u. (u.sends ≡ true → (j ≡ h.1) × (u.sent ≡ h.0)) × (u.gets ≢ true) in
      let old : EachView Old vs = all_set Old views pass l ((λ _. mine.0 a), λ p. true≢false (sym p))
      (λ j u other e. ((h.3 j u e).0, λ p. other (((h.3 j u e).1 p).0 ∙ sym (mine.1 b).0))) in (
        h.0,
        h.1,
        length vs,
        λ j u e. ⊎_elim (λ x. ((old j u x).0, λ p. absurd ((old j u x).1 p)))
            (λ (is : r ≡ u). (
              (λ p. absurd (true≢false (sym (ap (λ (y : LaneNote Y). y.sends) is ∙ p)))),
              λ p. (at_end vs r u j (λ x. (old j u x).1 p) e, ap (λ (y : LaneNote Y). y.got ++ items) (sym is) ∙ (mine.1 b).1),
            )) (at_snoc vs r u j e),
      )

  pub merges : (pass : ℕ) (v : LaneNote Y) (other : ℕ) (u : LaneNote Y) → v.sends ≡ true → u.gets ≡ true →
      Merges Carried pass v other u (lane_note true true v.sent u.got) (lane_note false false [] [])
  merges pass v other u a b items views h at two at' = let both : LaneNote Y = lane_note true true v.sent u.got in let mine =
      h.3 pass v at in let vs : List (LaneNote Y) = set views pass both in
      let was : get_elem? views other ≡ some u = ⊎_elim (λ x. absurd (two x.0)) (λ x. x.1) (at_set views pass other both u at') in let theirs =
      (h.3 other u was).1 b in
      let Now : ℕ → LaneNote Y → Type 0 = λ j y. j ≢ other → FitsLane h.0 items h.1 pass j y in
      let now : EachView Now vs = all_set Now views pass both (λ _. ((λ _. mine.0 a), λ _. (refl, theirs.1)))
      (λ j y _ e apart. ((h.3 j y e).0, λ p. absurd (apart (((h.3 j y e).1 p).0 ∙ sym theirs.0)))) in (
        h.0,
        h.1,
        pass,
        all_set (FitsLane h.0 items h.1 pass) vs other (lane_note false false [] [])
            ((λ p. absurd (true≢false (sym p))), λ p. absurd (true≢false (sym p))) (λ j y apart e. now j y e apart),
      )

  pub totals : (pass : ℕ) (v : LaneNote Y) → v.sends ≡ true → v.gets ≡ true → Learns Carried pass v (λ items. v.sent ≡ v.got ++ items)
  totals pass v a b items views h at = let mine = h.3 pass v at in (mine.0 a).1 ∙ sym (mine.1 b).1

  pub nothing : (pass : ℕ) (v : LaneNote Y) → Learns Carried pass v (λ items. Unit {0})
  nothing pass v items views h at = tt

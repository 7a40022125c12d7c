-- A hall with one session more.
use Rattle.std.proofs.Common.{◌≡◌, ℕ, ◌+◌, ◌<◌, List, [], ◌∷◌, ◌++◌, length, get_or, sym, ap, ◌∙◌, subst, arith}
use Rattle.std.proofs.lemmas.List.{get_or_append_left, length-append}
use Rattle.std.proofs.Math.Seq.{get_or-append_seam}
use Rattle.crossbeam_channel.specs.Claims.{view}
use Rattle.crossbeam_channel.specs.Ends.{sends_on}
use Rattle.permit_hall.specs.declared.hall.Hall.{Hall}
use Rattle.permit_hall.specs.declared.owner.Outlet.{Outlet}
use Rattle.permit_hall.specs.declared.session.Session.{Session}
use Rattle.permit_hall.specs.Intake.{owner}
use Rattle.permit_hall.specs.Owner.{HasSent}
use Rattle.permit_hall.specs.Session.{Has}
use Rattle.permit_hall.specs.Hall.{IsOf, IsWhole, IsNew}
use Rattle.permit_hall.proofs.Cases.{by_number}

module _ {A Y : Type 0} where
  abbrev One : Hall A Y → ℕ → Outlet Y → Session A Y → Type 0
  One h k o s = HasSent [] o × Has s [] [] × IsOf h k o s

  pub new_more : (h w : Hall A Y) (ss : List (Session A Y)) (o : Outlet Y) (s : Session A Y) → IsNew h ss → IsWhole w → sends_on w.sender ≡ sends_on h.sender →
      view w.pass ≡ owner (length ss + 1) [] []
      → w.outlets.items ≡ h.outlets.items ++ o ∷ [] → HasSent [] o → Has s [] [] → IsOf h (length ss) o s → IsNew w (ss ++ s ∷ [])
  new_more h w ss o s new whole same knows more sent has of =
      let len : length (ss ++ s ∷ []) ≡ length ss + 1 = omega (arith, length-append ss (s ∷ [])) in
      let lanes : length w.outlets.items ≡ length (ss ++ s ∷ []) = let n = new.2 in ap length more
      ∙ omega (arith, length-append ss (s ∷ []), length-append h.outlets.items (o ∷ [])) in
      let moved : (k : ℕ) (p : Outlet Y) (t : Session A Y) → One h k p t → One w k p t = λ k p t x. (x.0, x.1, (x.2.0, x.2.1 ∙ sym same, x.2.2)) in (
        whole,
        knows ∙ ap (λ n. owner n [] []) (sym len),
        lanes,
        λ k p t low. by_number k (length ss)
            (λ e. subst (λ (x : ℕ × Outlet Y × Session A Y). One w x.0 x.1 x.2)
            (λ i. (
              sym e i,
              sym (ap (λ l. get_or l k p) more ∙ ap (λ n. get_or (h.outlets.items ++ o ∷ []) n p) (e ∙ sym new.2)
                  ∙ get_or-append_seam h.outlets.items o [] p) i,
              sym (ap (λ n. get_or (ss ++ s ∷ []) n t) e ∙ get_or-append_seam ss s [] t) i,
            ))
            (moved (length ss) o s (sent, has, of)))
            (λ n. let below : k < length ss = omega arith in let q = new.2 in
            subst (λ (x : Outlet Y × Session A Y). One w k x.0 x.1)
            (λ i. (
              sym (ap (λ l. get_or l k p) more ∙ get_or_append_left h.outlets.items (o ∷ []) p k (omega arith)) i,
              sym (get_or_append_left ss (s ∷ []) t k below) i,
            ))
            (moved k (get_or h.outlets.items k p) (get_or ss k t) (new.3 k p t below))),
      )

  pub new_next : (h w : Hall A Y) (ss ts : List (Session A Y)) (n : ℕ) (o : Outlet Y) (s : Session A Y) → IsNew h ss → length ss ≡ n → IsWhole w →
      sends_on w.sender ≡ sends_on h.sender → view w.pass ≡ owner (n + 1) [] []
      → w.outlets.items ≡ h.outlets.items ++ o ∷ [] → ts ≡ ss ++ s ∷ [] → HasSent [] o → Has s [] [] → IsOf h n o s → IsNew w ts × (length ts ≡ n + 1)
  new_next h w ss ts n o s new len whole same knows more longer sent has of = (
    subst (λ l. IsNew w l) (sym longer) (new_more h w ss o s new whole same (knows ∙ ap (λ k. owner (k + 1) [] []) (sym len)) more sent has
        (subst (λ k. IsOf h k o s) (sym len) of)),
    ap length longer ∙ omega (arith, length-append ss (s ∷ []), len),
  )

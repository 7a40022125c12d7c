-- A run of the office's steps is a run of the office.
use Rattle.std.proofs.Common.{◌≡◌, ◌≤◌, ℕ, List, [], ◌∷◌, ◌++◌, map, refl, sym, ◌∙◌, ap, subst, arith, append_assoc}
use Rattle.std.proofs.lemmas.List.{append-nil}
use Rattle.permit_base.specs.Digests.{digest_of}
use Rattle.permit_base.specs.declared.request.Asked.{Asked}
use Rattle.permit_model.specs.History.{History}
use Rattle.permit_model.specs.Policy.{Policy}
use Rattle.permit_model.specs.Machine.{IsHistory, step}
use Rattle.permit_store.specs.Frames.{StoreView}
use Rattle.permit_office.specs.declared.reply.Reply.{Reply}
use Rattle.permit_office.specs.Answers.{Answers}
use Rattle.permit_office.specs.Frames.{Steps}
use Rattle.permit_office.specs.Office.{OfficeView}
use Rattle.permit_office.specs.declared.log.Log.{Ghosts}
use Rattle.permit_office.specs.Opening.{rows_opened, Opens}
use Rattle.permit_office.specs.Runs.{Ran}
use Rattle.permit_office.proofs.Running.{tells, ran_more, ran_none}
use Rattle.permit_hall.specs.Runs.{Entry, Runs}
use Rattle.permit_hall.specs.OfficeSteps.{StepFor, IsRun}

both_as : {A B : Type 0} (P : List A → List B → Type 0) (xs xs' : List A) (ys ys' : List B) → xs ≡ xs' → ys ≡ ys' → P xs ys → P xs' ys'
both_as P xs xs' ys ys' e f p = subst (λ ys. P xs' ys) f (subst (λ xs. P xs ys) e p)

module _ {S L Y : Type 0} (view : S → StoreView) (log : Ghosts L) (told : Y → Reply) (makes : OfficeView S L → Asked → ℕ → Y → OfficeView S L → Type 0)
    (as_step : (o : OfficeView S L) (a : Asked) (d : ℕ) (y : Y) (p : OfficeView S L) → makes o a d y p → StepFor view log o a d (told y) p) where
  -- no doubt goes
  doubt_along : (s : OfficeView S L) (es : List (Entry Asked Y)) (t : OfficeView S L) → Runs makes s es t → (view s.store).doubt ≤ (view t.store).doubt
  doubt_along s [] t r = let e = ap (λ (o : OfficeView S L). (view o.store).doubt) r in omega arith
  doubt_along s (e ∷ es) t r = let a = (as_step s e.request e.day e.reply r.0 r.1).step.doubt in let b = doubt_along r.0 es t r.2 in omega arith

  -- the policy stays
  policy_along : (s : OfficeView S L) (es : List (Entry Asked Y)) (t : OfficeView S L) → Runs makes s es t → t.policy ≡ s.policy
  policy_along s [] t r = ap (λ (o : OfficeView S L). o.policy) (sym r)
  policy_along s (e ∷ es) t r = policy_along r.0 es t r.2 ∙ (as_step s e.request e.day e.reply r.0 r.1).step.policy

  -- one step a request
  steps_along : (s : OfficeView S L) (es : List (Entry Asked Y)) (t : OfficeView S L) → Runs makes s es t →
      Steps view log (map (λ e. (e.request, e.day)) es) (map (λ e. told e.reply) es) s t
  steps_along s [] t r = sym r
  steps_along s (e ∷ es) t r = (r.0, (as_step s e.request e.day e.reply r.0 r.1).step, steps_along r.0 es t r.2)

  -- what ran before, and then these
  ran_along : (policy : Policy) (h : History) → IsHistory h → (s : OfficeView S L) (rs : List (Asked × ℕ)) (ys : List Reply) (es : List (Entry Asked Y))
      (t : OfficeView S L)
      → s.policy ≡ policy → Ran (view s.store).holds policy rs ys h → Runs makes s es t → (view t.store).doubt ≡ 0
      → Ran (view t.store).holds policy (rs ++ map (λ e. (e.request, e.day)) es) (ys ++ map (λ e. told e.reply) es) h
  ran_along policy h is s rs ys [] t same ran r sure =
      both_as (λ rs ys. Ran (view t.store).holds policy rs ys h) rs (rs ++ []) ys (ys ++ []) (sym (append-nil rs)) (sym (append-nil ys))
      (subst (λ (o : OfficeView S L). Ran (view o.store).holds policy rs ys h) r ran)
  ran_along policy h is s rs ys (e ∷ es) t same ran r sure =
      let one = as_step s e.request e.day e.reply r.0 r.1 in
      let none : (view (r.0).store).doubt ≡ 0 = let late = doubt_along r.0 es t r.2 in omega arith in
      let more = ran_more (view s.store).holds (view (r.0).store).holds policy rs ys h (e.request, e.day) (told e.reply) is ran
      (λ now his held. subst (λ (p : Policy). Answers (view (r.0).store).holds (told e.reply) (step p now e.request e.day) now) same
      (one.model none now his held))
      (λ now his held. tells (rows_opened policy now (digest_of e.request.token) e.request.request e.day) (told e.reply) (view s.store).handed
      (view (r.0).store).handed
      (subst (λ (p : Policy). Opens (rows_opened p now (digest_of e.request.token) e.request.request e.day) (told e.reply) (view s.store).handed
      (view (r.0).store).handed) same (one.step.opened none now his held))) in
      both_as (λ rs ys. Ran (view t.store).holds policy rs ys h) _ _ _ _
      (append_assoc rs ((e.request, e.day) ∷ []) (map (λ (e : Entry Asked Y). (e.request, e.day)) es))
      (append_assoc ys (told e.reply ∷ []) (map (λ (e : Entry Asked Y). told e.reply) es))
      (ran_along policy h is r.0 (rs ++ (e.request, e.day) ∷ []) (ys ++ told e.reply ∷ []) es t (one.step.policy ∙ same) more r.2 sure)

  pub is_run : (s : OfficeView S L) (es : List (Entry Asked Y)) (t : OfficeView S L) → Runs makes s es t →
      IsRun view log (map (λ e. (e.request, e.day)) es) (map (λ e. told e.reply) es) s t
  is_run s es t r = record {
    steps = steps_along s es t r;
    model = λ sure h is held. ran_along s.policy h is s [] [] es t refl (ran_none (view s.store).holds s.policy h held) r sure;
    policy = policy_along s es t r;
    doubt = doubt_along s es t r;
  }

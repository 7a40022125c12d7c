-- A run keeps the office that of a history.
use Rattle.std.proofs.Common.{◌≡◌, ◌≤◌, ◌⊎◌, inl, inr, refl, sym, ◌∙◌, ap, subst, arith, ℕ, Bool, true, false, List, [], ◌∷◌}
use Rattle.std.specs.Prelude.{if◌then◌else◌, IsTrue}
use Rattle.permit_base.specs.Digests.{digest_of}
use Rattle.permit_base.specs.declared.request.Asked.{Asked}
use Rattle.permit_model.specs.History.{History}
use Rattle.permit_model.specs.Machine.{IsHistory, Outcome}
use Rattle.permit_model.specs.Policy.{Policy}
use Rattle.permit_model.specs.Tables.{tables}
use Rattle.permit_history.specs.declared.entry.Entry.{Entry}
use Rattle.permit_journal.specs.Files.{FileView}
use Rattle.permit_journal.specs.Journals.{IsSettled}
use Rattle.permit_office.specs.Answers.{Answers, is_store_refusal, reply_of}
use Rattle.permit_office.specs.Frames.{UnlessDone}
use Rattle.permit_office.specs.Office.{OfficeView}
use Rattle.permit_office.specs.declared.reply.Reply.{Reply as Given}
use Rattle.permit_office.specs.declared.reply.Reply.TheVariants as given
use Rattle.permit_store.specs.Frames.{StoreView}
use Rattle.permit_wire.specs.Serving.{Steps}
use Rattle.permit_recorded.specs.Logs.{LogView}
use Rattle.permit_recorded.specs.Recorded.{StepsWithHistory, TellsAfter, TellsOver}
use Rattle.permit_recorded.specs.Laws.{KeepsItsHistory}
use Rattle.permit_recorded.specs.Runs.{AreReplies, Exchange, IsLeftWith, Runs, history_behind, history_with, outcome_for}
use Rattle.permit_recorded.proofs.Deciding.{KeepsHistories, is_done, policy_keeps}
use Rattle.permit_recorded.proofs.Stepping.{history_log, with_history}

-- a journal that isn't shut wasn't
was_open : (before after : Bool) → (before ≡ true → after ≡ before) → after ≡ false → before ≡ false
was_open true after same unshut = sym (same refl) ∙ unshut
was_open false after same unshut = refl

module _ {S H : Type 0} (view : S → StoreView) (file_view : H → FileView) (start : List Entry) where
  -- ---- after one request

  module _ (t : OfficeView S (LogView H)) (outcome : Outcome) (h : History) where
    abbrev IsAfter : Bool → Given → Type 0
    IsAfter b reply =
        IsLeftWith view file_view start t (if b then h else outcome.history) × ((reply_of reply ≡ outcome.reply) ⊎ IsTrue (is_store_refusal reply))

    -- where the history stays
    stays : IsHistory h → (view t.store).holds (tables h)
        → (t.log.journal.is_shut ≡ false → TellsOver start (file_view t.log.journal.file).text h × IsSettled file_view t.log.journal)
        → IsLeftWith view file_view start t h
    stays is held stands = record {
      history = is;
      held = held;
      stands = λ unshut. record {
        has = record { history = is; held = held; told = (stands unshut).0 };
        settled = (stands unshut).1;
      };
    }

    undone : (reply : Given) (b : Bool) → is_store_refusal reply ≡ b → is_done (reply_of reply) ≡ false
        → IsHistory h → (is_done outcome.reply ≡ false → outcome.history ≡ h)
        → Answers (view t.store).holds reply outcome h → (view t.store).holds (tables h)
        → (t.log.journal.is_shut ≡ false → TellsOver start (file_view t.log.journal.file).text h × IsSettled file_view t.log.journal) → IsAfter b reply
    undone reply true refused not is leaves answers held stands = (stays is held stands, inr refused)
    undone reply false refused not is leaves (inl a) held stands =
        let same : outcome.history ≡ h = leaves (ap is_done (sym a.0) ∙ not) in (
          subst (λ (k : History). IsLeftWith view file_view start t k) (sym same) (stays is held stands),
          inl a.0,
        )
    undone reply false refused not is leaves (inr a) held stands =
        let no : true ≡ false = sym (ap is_store_refusal a.0) ∙ refused in cc

    abbrev TellsOpen : Given → Type 0
    TellsOpen reply = t.log.journal.is_shut ≡ false → TellsAfter file_view start reply h outcome.history t.log.journal × IsSettled file_view t.log.journal

    after : (reply : Given) → IsHistory h → IsHistory outcome.history → (is_done outcome.reply ≡ false → outcome.history ≡ h)
        → Answers (view t.store).holds reply outcome h → UnlessDone reply ((view t.store).holds (tables h)) → TellsOpen reply
        → IsAfter (is_store_refusal reply) reply
    after (given.Done number) is more leaves (inl a) held tells = (
      record {
        history = more;
        held = a.1;
        stands = λ unshut. record {
          has = record { history = more; held = a.1; told = (tells unshut).0.1 };
          settled = (tells unshut).1;
        };
      },
      inl a.0,
    )
    after (given.Done number) is more leaves (inr a) held tells = cc (a.0)
    after (given.Parcel parcel) is more leaves answers held tells =
        undone (given.Parcel parcel) _ refl refl is leaves answers held (λ unshut. ((tells unshut).0 unshut, (tells unshut).1))
    after (given.File file papers) is more leaves answers held tells =
        undone (given.File file papers) _ refl refl is leaves answers held (λ unshut. ((tells unshut).0 unshut, (tells unshut).1))
    after (given.Listed listing) is more leaves answers held tells =
        undone (given.Listed listing) _ refl refl is leaves answers held (λ unshut. ((tells unshut).0 unshut, (tells unshut).1))
    after (given.Register kind listing) is more leaves answers held tells =
        undone (given.Register kind listing) _ refl refl is leaves answers held (λ unshut. ((tells unshut).0 unshut, (tells unshut).1))
    after (given.Refused why) is more leaves answers held tells =
        undone (given.Refused why) (is_store_refusal (given.Refused why)) refl refl is leaves answers held
        (λ unshut. ((tells unshut).0 unshut, (tells unshut).1))

module _ {S H : Type 0} (view : S → StoreView) (file_view : H → FileView) (leaves : List ℕ → List ℕ → Type 0) (nothing : leaves [] []) where
  abbrev Serves : Asked → ℕ → Given → OfficeView S (LogView H) → OfficeView S (LogView H) → Type 0
  Serves asked day reply = Steps view (history_log file_view leaves) day asked reply

  abbrev IsLeft : List Entry → OfficeView S (LogView H) → History → Type 0
  IsLeft = IsLeftWith view file_view

  one_more : (start : List Entry) (s : OfficeView S (LogView H)) (e : Exchange) (t : OfficeView S (LogView H)) (h : History) → IsLeft start s h
      → Serves e.asked e.day e.reply s t → (view t.store).doubt ≡ 0
      → IsLeft start t (history_with s.policy e h)
      × ((reply_of e.reply ≡ (outcome_for s.policy h e.asked e.day).reply) ⊎ IsTrue (is_store_refusal e.reply))
  one_more start s e t h left serves sure =
      let digest = digest_of e.asked.token in
      let steps : StepsWithHistory view file_view leaves digest e.asked.request e.day s t e.reply =
      with_history view file_view leaves nothing digest e.asked.request e.day s t e.reply serves.step in
      let keeps : KeepsHistories s.policy = policy_keeps s.policy in
      after view file_view start t (outcome_for s.policy h e.asked e.day) h e.reply left.history
      (keeps.keeps h digest e.asked.request e.day left.history) (keeps.leaves h digest e.asked.request e.day)
      (serves.model sure h left.history left.held) (serves.step.kept (tables h) left.held)
      (λ unshut.
      let before = left.stands (was_open s.log.journal.is_shut t.log.journal.is_shut (λ shut. ap (λ (o : OfficeView S (LogView H)). o.log.journal.is_shut) (steps.shut shut).1) unshut) in
      (steps.told before.settled sure h left.history left.held start before.has.told, steps.stands (λ _. before.settled) unshut))

  doubt_along : (s : OfficeView S (LogView H)) (es : List Exchange) (t : OfficeView S (LogView H)) → Runs Serves s es t → (view s.store).doubt ≤ (view t.store).doubt
  doubt_along s [] t run = let e = ap (λ (o : OfficeView S (LogView H)). (view o.store).doubt) run in omega (arith, e)
  doubt_along s (e ∷ es) t run = let a = run.1.step.doubt in let b = doubt_along run.0 es t run.2 in omega (arith, a, b)

  run_keeps : (start : List Entry) (s : OfficeView S (LogView H)) (es : List Exchange) (t : OfficeView S (LogView H)) (h : History)
      → IsLeft start s h
      → Runs Serves s es t → (view t.store).doubt ≡ 0
      → IsLeft start t (history_behind s.policy es h) × AreReplies s.policy es h
  run_keeps start s [] t h left run sure = (subst (λ (o : OfficeView S (LogView H)). IsLeft start o h) run left, tt)
  run_keeps start s (e ∷ es) t h left run sure =
      let u = run.0 in
      let serves = run.1 in
      let later = doubt_along u es t run.2 in
      let none : (view u.store).doubt ≡ 0 = omega (arith, later, sure) in
      let one = one_more start s e u h left serves none in
      let same : u.policy ≡ s.policy = serves.step.policy in
      let behind = history_with s.policy e h in
      let more = run_keeps start u es t behind one.0 run.2 sure in (
        subst (λ (p : Policy). IsLeft start t (history_behind p es behind)) same more.0,
        (one.1, subst (λ (p : Policy). AreReplies p es behind) same more.1),
      )

  -- the office is that of its history at first
  pub keeps_its_history : KeepsItsHistory view file_view (history_log file_view leaves)
  keeps_its_history = λ start office h of es after run sure.
      let ran = run_keeps start office es after h (record { history = of.has.history; held = of.has.held; stands = λ unshut. of }) run sure in
      record { left = ran.0; replies = ran.1 }

-- What a step of an office with a history leaves of its text.
use Rattle.std.proofs.Common.{◌≡◌, ◌⊎◌, ◌∙◌, inl, inr, refl, sym, ap, subst, ℕ, Bool, true, false, not, List, [], ◌∷◌, Option, Some}
use Rattle.permit_base.specs.declared.refusal.Refusal.TheVariants as refusal
use Rattle.permit_base.specs.declared.request.Request.{Request}
use Rattle.permit_model.specs.History.{History}
use Rattle.permit_model.specs.Machine.{entry_of, step_as}
use Rattle.permit_model.specs.Policy.{Policy}
use Rattle.permit_history.specs.declared.entry.Entry.{Entry}
use Rattle.permit_journal.specs.Files.{FileView}
use Rattle.permit_journal.specs.Journals.{JournalView, IsSettled, HasUnlessShut}
use Rattle.permit_office.specs.declared.log.Log.{Ghosts}
use Rattle.permit_office.specs.declared.reply.Reply.{Reply as Given}
use Rattle.permit_office.specs.declared.reply.Reply.TheVariants as given
use Rattle.permit_office.specs.Frames.{IsStep}
use Rattle.permit_office.specs.Logged.{IsDoneFor, WasEntered, WasRefused, WasWithdrawn}
use Rattle.permit_office.specs.Logs.{note}
use Rattle.permit_office.specs.Office.{OfficeView}
use Rattle.permit_store.specs.Frames.{StoreView, OverHistory}
use Rattle.permit_recorded.specs.Lines.{IsLineBehind, IsLineOf}
use Rattle.permit_recorded.specs.Logs.{IsEntered, IsRefused, IsWithdrawn, LeavesLine, LogView}
use Rattle.permit_recorded.specs.Recorded.{IsReadable, LeavesText, Stands, StepsWithHistory, TellsAfter, TellsOver}
use Rattle.permit_recorded.proofs.Adding.{done_adds}
use Rattle.permit_recorded.proofs.Entering.{nothing_left, still_has}
use Rattle.permit_recorded.proofs.Telling.{entry_said, tells_more}

-- the relations of the log
abbrev pub history_log : {H : Type 0} → (H → FileView) → (List ℕ → List ℕ → Type 0) → Ghosts (LogView H)
history_log view leaves = record {
  is_open = λ log. not log.journal.is_shut;
  entered = IsEntered view leaves;
  refused = IsRefused view leaves;
  withdrawn = IsWithdrawn view leaves;
}

-- the line of what is entered is that of the machine's entry
behind : (policy : Policy) (h : History) (digest : List ℕ) (asked : Request) (day caller : ℕ) (number : Option ℕ) (line : List ℕ)
    → IsDoneFor policy h digest asked day caller number → IsLineOf caller asked number day line → IsLineBehind h digest asked day line
behind policy h digest asked day caller number line done is = record {
  caller = caller;
  known = done.0;
  entry = subst (λ (n : Option ℕ). IsLineOf caller asked n day line) (done_adds policy h digest asked day caller done.0 number done.1).1 is;
}

crash_line : (policy : Policy) (h : History) (digest : List ℕ) (asked : Request) (day caller : ℕ) (number : Option ℕ) (line : List ℕ)
    → IsDoneFor policy h digest asked day caller number → (line ≡ []) ⊎ IsLineOf caller asked number day line
    → (line ≡ []) ⊎ IsLineBehind h digest asked day line
crash_line policy h digest asked day caller number line done (inl none) = inl none
crash_line policy h digest asked day caller number line done (inr is) = inr (behind policy h digest asked day caller number line done is)

module _ {H : Type 0} (view : H → FileView) (journal : JournalView H) where
  settled_unless : (shut : Bool) (bytes : List ℕ) → HasUnlessShut view journal shut bytes → shut ≡ false → IsSettled view journal
  settled_unless true bytes has unshut = cc
  settled_unless false bytes has unshut = has.settled

  text_unless : (shut : Bool) (bytes : List ℕ) → HasUnlessShut view journal shut bytes → shut ≡ false → (view journal.file).text ≡ bytes
  text_unless true bytes has unshut = cc
  text_unless false bytes has unshut = has.bytes_there

module _ {S H : Type 0} (view : S → StoreView) (file_view : H → FileView) (leaves : List ℕ → List ℕ → Type 0) (nothing : leaves [] [])
    (digest : List ℕ) (asked : Request) (day : ℕ) (old new : OfficeView S (LogView H)) where
  abbrev text : List ℕ
  text = (file_view old.log.journal.file).text

  -- ---- the line that a crash leaves

  leaves_text : (caller : ℕ) (number : Option ℕ) → OverHistory (view old.store) (view new.store) (λ h. IsDoneFor old.policy h digest asked day caller number)
      → LeavesLine leaves text (file_view new.log.journal.file).may_leave (note caller asked number day)
      → LeavesText leaves text (file_view new.log.journal.file).may_leave (view old.store) (view new.store) digest asked day
  leaves_text caller number done left = record {
    line = left.line;
    left = left.left;
    told = λ sure h is held. crash_line old.policy h digest asked day caller number left.line (done sure h is held) left.is;
  }

  -- ---- what is so of the journal where no command is done

  record LeavesJournal : Type 0 where
    back : IsSettled file_view old.log.journal → HasUnlessShut file_view new.log.journal new.log.journal.is_shut text
    crash : IsSettled file_view old.log.journal
        → LeavesText leaves text (file_view new.log.journal.file).may_leave (view old.store) (view new.store) digest asked day
    read : IsReadable (view new.store) old.log.journal new.log.journal

  untouched : (journal : JournalView H) → journal ≡ old.log.journal → IsSettled file_view journal
      → LeavesText leaves (file_view journal.file).text (file_view journal.file).may_leave (view old.store) (view new.store) digest asked day
  untouched journal same settled = record {
    line = [];
    left = nothing_left leaves (file_view journal.file).text (file_view journal.file).may_leave nothing settled.durable;
    told = λ sure h is held. inl refl;
  }

  -- the log is as it was
  same_journal : new.log ≡ old.log → LeavesJournal
  same_journal same =
      let journal : new.log.journal ≡ old.log.journal = ap (λ (l : LogView H). l.journal) same in
      record {
        back = λ settled. subst (λ (j : JournalView H). HasUnlessShut file_view j j.is_shut text) (sym journal)
            (still_has file_view old.log.journal old.log.journal.is_shut refl settled);
        crash = λ settled. subst (λ (j : JournalView H). LeavesText leaves text (file_view j.file).may_leave (view old.store) (view new.store) digest asked day)
            (sym journal) (untouched old.log.journal refl settled);
        read = λ unshut sure. inl journal;
      }

  refused_journal : WasRefused view (history_log file_view leaves) digest asked day old new → LeavesJournal
  refused_journal was = record {
    back = was.refused.back;
    crash = λ settled. leaves_text was.caller was.number was.is (was.refused.crash settled);
    read = λ unshut sure. inr (was.one sure);
  }

  withdrawn_journal : WasWithdrawn view (history_log file_view leaves) digest asked day old new → LeavesJournal
  withdrawn_journal was = record {
    back = was.withdrawn.back;
    crash = λ settled. leaves_text was.caller was.number was.is (was.withdrawn.crash settled);
    read = λ unshut sure. inr (was.withdrawn.read unshut sure);
  }

  refused_store : (new.log ≡ old.log) ⊎ (WasRefused view (history_log file_view leaves) digest asked day old new
      ⊎ WasWithdrawn view (history_log file_view leaves) digest asked day old new) → LeavesJournal
  refused_store (inl same) = same_journal same
  refused_store (inr (inl was)) = refused_journal was
  refused_store (inr (inr was)) = withdrawn_journal was

  -- ---- a step

  stands_by : (shut : Bool) → old.log.journal.is_shut ≡ shut → (shut ≡ true → new ≡ old)
      → (IsSettled file_view old.log.journal → new.log.journal.is_shut ≡ false → IsSettled file_view new.log.journal)
      → Stands file_view old.log.journal → Stands file_view new.log.journal
  stands_by true is same settles stands = λ unshut.
      let no : true ≡ false = sym is ∙ sym (ap (λ (o : OfficeView S (LogView H)). o.log.journal.is_shut) (same refl)) ∙ unshut in cc
  stands_by false is same settles stands = λ unshut. settles (stands is) unshut

  module _ (reply : Given) (step : IsStep view (history_log file_view leaves) digest asked day old new reply) where
    shut_by : old.log.journal.is_shut ≡ true → (reply ≡ given.Refused refusal.Store) × (new ≡ old)
    shut_by shut = step.shut (ap not shut)

    stands : (IsSettled file_view old.log.journal → new.log.journal.is_shut ≡ false → IsSettled file_view new.log.journal)
        → Stands file_view old.log.journal → Stands file_view new.log.journal
    stands settles = stands_by old.log.journal.is_shut refl (λ shut. (shut_by shut).1) settles

    undone : LeavesJournal
        → ((start : List Entry) (before after : History) → (new.log.journal.is_shut ≡ false → TellsOver start (file_view new.log.journal.file).text before)
        → TellsAfter file_view start reply before after new.log.journal)
        → StepsWithHistory view file_view leaves digest asked day old new reply
    undone left tells = record {
      told = λ settled sure h is held start told. tells start h (step_as old.policy h digest asked day).history (λ unshut.
          subst (λ (bytes : List ℕ). TellsOver start bytes h)
          (sym (text_unless file_view new.log.journal new.log.journal.is_shut text (left.back settled) unshut)) told);
      stands = stands (λ settled unshut. settled_unless file_view new.log.journal new.log.journal.is_shut text (left.back settled) unshut);
      shut = shut_by;
      crash = left.crash;
      read = left.read;
    }

  done : (number : Option ℕ) → IsStep view (history_log file_view leaves) digest asked day old new (given.Done number)
      → WasEntered view (history_log file_view leaves) digest asked day old new number
      → StepsWithHistory view file_view leaves digest asked day old new (given.Done number)
  done number step was = record {
    told = λ settled sure h is held start told.
        let so = was.is sure h is held in
        let it = was.entered.written settled in
        let entry = behind old.policy h digest asked day was.caller number it.line so it.is in
        let adds = done_adds old.policy h digest asked day entry.caller entry.known number so.1 in
        let more = tells_more start text it.line h (entry_of h day entry.caller asked) day entry.caller entry.entry.act told
        (entry_said h day entry.caller asked entry.entry.act entry.entry.is) entry.entry.line_is in (
          it.has.settled.is_open,
          subst (λ (after : History). TellsOver start (file_view new.log.journal.file).text after) (sym adds.0)
              (subst (λ (bytes : List ℕ). TellsOver start bytes (entry_of h day entry.caller asked ∷ h)) (sym it.has.bytes_there) more),
        );
    stands = stands (given.Done number) step (λ settled unshut. (was.entered.written settled).has.settled);
    shut = shut_by (given.Done number) step;
    crash = λ settled. leaves_text was.caller number was.is (was.entered.crash settled);
    read = λ unshut sure. inr (step.one sure refl);
  }

  -- what each step makes of the history
  pub with_history : (reply : Given) → IsStep view (history_log file_view leaves) digest asked day old new reply
      → StepsWithHistory view file_view leaves digest asked day old new reply
  with_history (given.Done number) step = done number step step.logged
  with_history (given.Refused refusal.Store) step =
      undone (given.Refused refusal.Store) step (refused_store step.logged) (λ start before after told. told)
  with_history reply step = undone reply step (same_journal step.logged) (λ start before after told. told)

-- A run of an office with a history, and what it leaves.
use Rattle.std.specs.Prelude.{◌≡◌, ◌⊎◌, ℕ, false, if◌then◌else◌, IsTrue, List, [], ◌∷◌, ⊤}
use Rattle.permit_base.specs.Digests.{digest_of}
use Rattle.permit_base.specs.declared.request.Asked.{Asked}
use Rattle.permit_model.specs.History.{History}
use Rattle.permit_model.specs.Machine.{IsHistory, Outcome, step_as}
use Rattle.permit_model.specs.Policy.{Policy}
use Rattle.permit_model.specs.Tables.{tables}
use Rattle.permit_history.specs.declared.entry.Entry.{Entry}
use Rattle.permit_journal.specs.Files.{FileView}
use Rattle.permit_journal.specs.Journals.{IsSettled}
use Rattle.permit_office.specs.Answers.{is_store_refusal, reply_of}
use Rattle.permit_office.specs.Office.{OfficeView}
use Rattle.permit_office.specs.declared.reply.Reply.{Reply as Given}
use Rattle.permit_store.specs.Frames.{StoreView}
use Rattle.permit_recorded.specs.Logs.{LogView}
use Rattle.permit_recorded.specs.Resuming.{HasHistory}

-- a request that was served on the day, and the reply
pub record Exchange : Type 0 where
  pub asked : Asked
  pub day : ℕ
  pub reply : Given

module _ {V : Type 0} (serves : Asked → ℕ → Given → V → V → Type 0) where
  -- the requests, served one after the other, take the office from s to t
  abbrev pub Runs : V → List Exchange → V → Type 0
  Runs s [] t = s ≡ t
  Runs s (e ∷ es) t = (u : V) × serves e.asked e.day e.reply s u × Runs u es t

-- ---- what the machine makes of a run

-- what comes of a request after a history
abbrev pub outcome_for : Policy → History → Asked → ℕ → Outcome
outcome_for policy h asked day = step_as policy h (digest_of asked.token) asked.request day

module _ (policy : Policy) where
  -- the history after a request: the store's refusal leaves it
  abbrev pub history_with : Exchange → History → History
  history_with e h = if is_store_refusal e.reply then h else (outcome_for policy h e.asked e.day).history

  -- the history after the requests that weren't refused for the store, one after the other
  abbrev pub history_behind : List Exchange → History → History
  history_behind [] h = h
  history_behind (e ∷ es) h = history_behind es (history_with e h)

  -- each reply is the machine's after the history at its place, or the store's refusal
  abbrev pub AreReplies : List Exchange → History → Type 0
  AreReplies [] h = ⊤
  AreReplies (e ∷ es) h =
      ((reply_of e.reply ≡ (outcome_for policy h e.asked e.day).reply) ⊎ IsTrue (is_store_refusal e.reply)) × AreReplies es (history_with e h)

-- ---- the office and its history

module _ {S H : Type 0} (view : S → StoreView) (file_view : H → FileView) (start : List Entry) where
  -- the office is that of the history: its store holds the tables, its text gives the history over the start, and its journal is
  -- settled
  pub record IsOf (office : OfficeView S (LogView H)) (h : History) : Type 0 where
    pub has : HasHistory start (file_view office.log.journal.file).text (view office.store) h
    pub settled : IsSettled file_view office.log.journal

  -- its store holds the history's tables, and unless the journal is shut the office is that of the history
  pub record IsLeftWith (office : OfficeView S (LogView H)) (h : History) : Type 0 where
    pub history : IsHistory h
    pub held : (view office.store).holds (tables h)
    pub stands : office.log.journal.is_shut ≡ false → IsOf office h

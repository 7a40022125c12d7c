use Rattle.std.proofs.Common.{inl, inr, ap, ◌∙◌, refl, Err}
use Rattle.permit_store.specs.contracts.plain.PlainStoreStore.TheImpl as plain
use Rattle.permit_database.proofs.Failures.{if_err, never_database, never_memory}
use Rattle.permit_database.proofs.Opened.{none_before, opens_back, opens_on}
use Rattle.permit_database.proofs.Served.{once_opened, served_on}
use Rattle.permit_database.proofs.serving.serve_recorded.Goals as goal

pub returns-in-Ok-settled_in : goal.returns-in-Ok-settled_in
returns-in-Ok-settled_in g c =
    let settled = c.in-Ok-settled_in.settled in
    let opened = c.in-Ok-settled_in.ensures in
    let done = c.serve_beside_memory-store in
    let back = c.into_connection.result in
    let back_is = c.into_connection.ensures.conn in
    let file_is = c.into_file-file.ensures ∙ ap (λ j. j.file) c.into_journal.ensures in
    record {
      served = elim done.ensures.served [
        | inl served ↦ inl (
          settled.redone,
          opened.says,
          served_on _ _ _ _ _ _ _ _ _ _ _ _ _
              (λ o loaded.
              opens_on g.S.Store plain.view-value.it c.args.history.beginning g.H.HistoryFile.view c.args.conn settled.store.store.conn
              o.store.kept.store.conn _ _ _ settled.journal o.log.journal settled.redone opened.settled (λ clean. loaded.0.held)
              (none_before _ _ loaded.0.doubt) refl (ap (λ l. l.journal) loaded.1 ∙ c.new-log.ensures.journal))
              (λ o left. (back_is ∙ ap (λ s. s.store.conn) left.0, file_is ∙ ap (λ l. l.journal.file) left.1)) served,
        )
        | inr other ↦
            let store = done.result.0.store in
            inr (
              _,
              other.2,
              (inr (
                (
                  settled.journal,
                  settled.redone,
                  opens_back g.S.Store plain.view-value.it c.args.history.beginning g.H.HistoryFile.view c.args.conn settled.store.store.conn store.conn
                      back store.upgrade store.handed store.failed store.commits _ _ settled.journal settled.redone opened.settled other.0.held other.0.doubt
                      back_is,
                  file_is ∙ ap (λ l. l.journal.file) other.1 ∙ ap (λ j. j.file) c.new-log.ensures.journal,
                  opened.says,
                ),
                (inr refl),
              )),
              other.3,
            )
      ];
      fails = if_err done.result.2 (λ why said. elim (once_opened c.args.words.now.listen.now why said) [
        | inl unusable ↦ inl (inl unusable)
        | inr unheard ↦ inr unheard
      ]) done.ensures.fails;
      says = done.ensures.says;
      says_on_err = (settled.redone, opened.says);
    }

pub returns-in-Err : goal.returns-in-Err
returns-in-Err g c = record {
  served = inr (c.in-Err.why, refl, (inl (c.in-Err.ensures.left, c.in-Err.ensures.says)), refl);
  fails = inl c.in-Err.ensures.fails;
  says = inr (inl refl);
  says_on_err = (0, c.in-Err.ensures.says);
}

pub returns-in_default-clause-served : goal.returns-in_default-clause-served
returns-in_default-clause-served g c = inr (
  _,
  refl,
  (inl (
    record {
      from = c.args.conn;
      base = inl refl;
      on_the_way = λ clean read t keeps sound. inl (λ opened. keeps);
      kept = λ none clean t keeps sound opened. keeps;
      differs = λ is. absurd (never_memory _ c.memory.ensures is);
      refused = λ reason is other. absurd (never_database _ reason c.memory.ensures is);
      unsound = λ no fine. refl;
      part = λ read. inl refl;
      crash = λ read c' may. inl may;
    },
    refl,
  )),
  refl,
)

use Rattle.std.proofs.Common.{inl, inr, ap, ◌∙◌, refl}
use Rattle.permit_store.specs.contracts.plain.PlainStoreStore.TheImpl as plain
use Rattle.permit_subcommands.specs.declared.failure.Failure.TheVariants as failure
use Rattle.permit_database.proofs.Doings.{says_nothing_of}
use Rattle.permit_database.proofs.Failures.{if_err}
use Rattle.permit_database.proofs.Opened.{none_before, opens_back, opens_on}
use Rattle.permit_database.proofs.asking.ask_recorded.Goals as goal

pub returns-in-Ok-open : goal.returns-in-Ok-open
returns-in-Ok-open g c =
    let settled = c.in-Ok.settled in
    let office = c.in-Ok-open.office in
    let read = c.in-Ok-open.ensures.opened in
    let done = c.ask_once-store in
    let asked = done.ensures.asked in
    record {
      asked = inl (
        settled.redone,
        _,
        c.in-Ok.ensures.says,
        record {
          office = office;
          left = asked.0;
          opens_so = opens_on g.S.Store plain.view-value.it c.args.history.beginning g.H.HistoryFile.view c.args.conn settled.store.store.conn
              office.store.store.conn _ _ _ settled.journal office.log.journal settled.redone c.in-Ok.ensures.settled (λ clean t held sound. read.kept t held)
              (none_before _ _ read.doubt) refl (ap (λ l. l.journal) c.in-Ok-open.ensures.log ∙ c.new-log.ensures.journal);
          policy_is = c.in-Ok-open.ensures.policy;
          answered = asked.1;
          leaves_so = (
            c.into_connection.ensures.conn ∙ ap (λ s. s.store.conn) asked.2,
            c.into_file-file.ensures ∙ ap (λ j. j.file) (c.into_journal.ensures ∙ ap (λ l. l.journal) asked.3),
          );
        },
      );
      told = done.ensures.told;
      fails = if_err done.result.2 (λ why. inr) done.ensures.fails;
      says = (_, (settled.redone, c.in-Ok.ensures.says), done.ensures.says);
    }

pub returns-in-Err-open : goal.returns-in-Err-open
returns-in-Err-open g c =
    let settled = c.in-Ok.settled in
    let store = c.in-Err-open.store.store in
    let read = c.in-Err-open.ensures.back in
    let failed = ap failure.Database c.in-Err-open.ensures.refusal in
    record {
      asked = inr (
        _,
        refl,
        (inr (
          (
            settled.journal,
            settled.redone,
            opens_back g.S.Store plain.view-value.it c.args.history.beginning g.H.HistoryFile.view c.args.conn settled.store.store.conn store.conn
                c.into_connection-in-Err-open.result store.upgrade store.handed store.failed store.commits _ _ settled.journal settled.redone
                c.in-Ok.ensures.settled (λ t held sound. read.kept t held) read.doubt c.into_connection-in-Err-open.ensures.conn,
            c.into_file-file-in-Err-open.ensures ∙ ap (λ j. j.file) (c.into_journal-in-Err-open.ensures ∙ ap (λ l. l.journal) c.in-Err-open.ensures.log_kept ∙ c.new-log.ensures.journal),
            c.in-Ok.ensures.says,
          ),
          (inl failed),
        )),
        refl,
      );
      told = tt;
      fails = inl ((inl (inr (inr (inl failed)))), refl);
      says = (_, (settled.redone, c.in-Ok.ensures.says), says_nothing_of c.args.question _);
    }

pub returns-in-Err : goal.returns-in-Err
returns-in-Err g c = record {
  asked = inr (c.in-Err.why, refl, (inl (c.in-Err.ensures.left, c.in-Err.ensures.says)), refl);
  told = tt;
  fails = inl (c.in-Err.ensures.fails, refl);
  says = (_, (0, c.in-Err.ensures.says), says_nothing_of c.args.question _);
}

use Rattle.std.proofs.Common.{◌≡◌, ap, Err, inl, inr, refl, sym, subst, arith, ◌∙◌}
use Rattle.std.specs.Prelude.{IsTrue}
use Rattle.sqlite.specs.State.{HasCleanDisk}
use Rattle.sqlite.specs.Held.{Held, state}
use Rattle.permit_replay.specs.Bringing.{IsNowhere, IsOnTheWay}
use Rattle.permit_replay.specs.Holding.{IsBeginning}
use Rattle.permit_recorded.specs.Resuming.{IsCutTo, IsPartlyCut, IsRedone}
use Rattle.permit_sql_rows.specs.Kept.{Shows}
use Rattle.permit_store.specs.contracts.plain.PlainStoreStore.TheImpl as plain
use Rattle.permit_database.specs.Failing.{comes_before_redo}
use Rattle.permit_database.specs.Opening.{shown}
use Rattle.permit_database.proofs.Brought.{way_back}
use Rattle.permit_database.proofs.Failures.{before_redo, resuming_alone, resuming_database, resuming_told}
use Rattle.permit_database.proofs.Opened.{alike_itself, base_on, none_before}
use Rattle.permit_database.proofs.opening.settle_over.Goals as goal

pub returns-in-Ok-clause-settled : goal.returns-in-Ok-clause-settled
returns-in-Ok-clause-settled g c = λ conn from file read base over.
    let said = c.in-Ok.ensures in
    let begins = IsBeginning plain.view-value.it c.args.history.beginning in
    let before : HasCleanDisk (state g.S.Store c.settle.new.store.store.conn) → HasCleanDisk (state g.S.Store c.args.store.conn) =
    none_before _ _ said.doubt in
    record {
      from = from;
      base = base_on g.S.Store begins g.H.HistoryFile.view conn from _ c.args.history.file _ said.clean base;
      settled = said.settled;
      cut = λ told. subst (λ bytes. IsCutTo begins bytes (g.H.HistoryFile.view c.in-Ok.settled.journal.file).text) read.text (said.cut told);
      resumed = λ clean told.
          let kept = over.sound (before clean) in
          said.resumed clean kept.0 (over.held kept.0 (λ _. kept.3)) kept.2 told;
      redone_is = λ clean told t shows sound. subst (λ bytes. IsRedone begins bytes t c.in-Ok.settled.redone) read.text (said.redone clean t (over.held t shows) sound told);
      idle = λ clean none t shows sound. (t, (said.idle none).kept t (over.held t shows), alike_itself t);
      doubt_is = refl;
      sound = λ clean. over.sound (before clean);
    }

pub returns-in-Err-clause-left : goal.returns-in-Err-clause-left
returns-in-Err-clause-left g c = λ conn from file read base over.
    let said = c.in-Err.ensures in
    let begins = IsBeginning plain.view-value.it c.args.history.beginning in
    let now = c.settle.new.store.store in
    let back = c.into_connection.result in
    let same = c.into_connection.ensures.conn in
    let clean_there = λ (clean : HasCleanDisk (state g.S.Store back)). subst (λ (h : Held _). HasCleanDisk (state g.S.Store h)) same clean in
    record {
      from = from;
      base = base_on g.S.Store begins g.H.HistoryFile.view conn from _ c.args.history.file _ said.clean base;
      on_the_way = λ clean told t keeps sound. subst (λ bytes. IsOnTheWay begins bytes t (shown (state g.S.Store back))) read.text
          (way_back g.S.Store now.conn back now.upgrade now.handed now.failed now.commits same clean _ _ t
          (said.left (clean_there clean) t (over.held t (λ _. keeps)) sound told));
      kept = λ none clean t keeps sound.
          let fault = before_redo c.in-Err.fault (subst (λ why. IsTrue (comes_before_redo why)) c.of_resuming.ensures none) in
          subst (λ (h : Held _). Shows t (state g.S.Store h)) (sym same) ((said.looks fault).kept t (over.held t (λ _. keeps)) (clean_there clean)).1;
      differs = λ is clean told t keeps sound.
          let fault = resuming_alone c.in-Err.fault (sym c.of_resuming.ensures ∙ is) in
          subst (λ bytes. IsNowhere begins bytes t) read.text (said.differs fault (clean_there clean) t (over.held t (λ _. keeps)) sound told).0;
      refused = λ reason is other. absurd (other (resuming_database c.in-Err.fault reason (sym c.of_resuming.ensures ∙ is)));
      unsound = λ none fine. absurd (none (over.sound (none_before _ _ said.doubt (clean_there fine.0))));
      part = λ told. subst (λ bytes. IsPartlyCut begins g.H.HistoryFile.leaves bytes (g.H.HistoryFile.view c.in-Err.file).text) read.text (said.part told);
      crash = λ told c' may. elim (said.crash told c' may) [
        | inl left ↦ inl (read.leaves c' left)
        | inr part ↦ inr (subst (λ bytes. IsPartlyCut begins g.H.HistoryFile.leaves bytes c') read.text part)
      ];
    }

pub returns-in-Err-clause-fails : goal.returns-in-Err-clause-fails
returns-in-Err-clause-fails g c = resuming_told c.in-Err.fault _ c.of_resuming.ensures

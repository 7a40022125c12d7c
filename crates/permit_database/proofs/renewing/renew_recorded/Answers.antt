use Rattle.std.proofs.Common.{inl, inr, refl}
use Rattle.permit_base.specs.Digests.{digest_of}
use Rattle.permit_store.specs.contracts.plain.PlainStoreStore.TheImpl as plain
use Rattle.permit_database.proofs.Failures.{at_ok}
use Rattle.permit_database.proofs.Opened.{opens_on}
use Rattle.permit_database.proofs.Renewed.{not_renewed, renews}
use Rattle.permit_database.proofs.renewing.renew_recorded.Goals as goal

pub returns-in-Ok-last : goal.returns-in-Ok-last
returns-in-Ok-last g c =
    let settled = c.in-Ok.settled in
    let read = c.last_of-conn in
    let said = c.renew_with-conn.ensures in
    record {
      renewed = renews g.S.Store plain.view-value.it c.args.history.beginning g.H.HistoryFile.view c.args.conn settled.store.store.conn read.result.0
          c.renew_with-conn.result.0 _ _ settled.journal c.renew_with-conn.new.journal settled.redone c.in-Ok.ensures.settled _ c.into_file.ensures read.ensures.kept
          read.ensures.clean said.fine _ _ c.in-Ok.ensures.says c.in-Ok-last.day c.args.party (digest_of c.args.token.now) c.renew_with-conn.result.1
          (λ well t held. at_ok _ read.result.1 c.in-Ok-last.day c.in-Ok-last.is (read.ensures.last well t held)) said.opened said.made said.admitted said.entered;
      unrenewed = not_renewed g.S.Store plain.view-value.it c.args.history.beginning g.H.HistoryFile.view c.args.conn settled.store.store.conn read.result.0
          c.renew_with-conn.result.0 _ _ settled.journal c.renew_with-conn.new.journal settled.redone c.in-Ok.ensures.settled _ c.into_file.ensures read.ensures.kept
          read.ensures.clean said.fine _ _ c.in-Ok.ensures.says _ c.renew_with-conn.result.1 said.same said.back;
      fails = said.fails;
      says = (settled.redone, c.in-Ok.ensures.says);
    }

pub returns-in-Err-last-clause-unrenewed : goal.returns-in-Err-last-clause-unrenewed
returns-in-Err-last-clause-unrenewed g c =
    let settled = c.in-Ok.settled in
    let read = c.last_of-conn in
    inl (inr (
      (
        settled.journal,
        settled.redone,
        opens_on g.S.Store plain.view-value.it c.args.history.beginning g.H.HistoryFile.view c.args.conn settled.store.store.conn read.result.0 _ _ _
            settled.journal settled.journal settled.redone c.in-Ok.ensures.settled (λ well t held sound. (held.0, read.ensures.kept well held.0 held.1, held.2))
            read.ensures.clean refl refl,
        c.into_file-in-Err-last.ensures,
        c.in-Ok.ensures.says,
      ),
      (inl refl),
    ))

pub returns-in-Err-clause-says : goal.returns-in-Err-clause-says
returns-in-Err-clause-says g c = (0, c.in-Err.ensures.says)

pub returns-in-Err-clause-fails : goal.returns-in-Err-clause-fails
returns-in-Err-clause-fails g c = elim c.in-Err.ensures.fails [
  | inl unusable ↦ inl (inr (inr unusable))
  | inr text ↦ inr text
]

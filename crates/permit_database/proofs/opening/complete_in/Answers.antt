use Rattle.std.proofs.Common.{arith}
use Rattle.permit_store.specs.contracts.plain.PlainStoreStore.TheImpl as plain
use Rattle.permit_database.proofs.Opened.{opens_back}
use Rattle.permit_database.proofs.opening.complete_in.Goals as goal

pub returns-in-Ok-clause-completed : goal.returns-in-Ok-clause-completed
returns-in-Ok-clause-completed g c =
    let settled = c.in-Ok.settled in
    let store = settled.store.store in (
      settled.journal,
      settled.redone,
      opens_back g.S.Store plain.view-value.it c.args.history.beginning g.H.HistoryFile.view c.args.conn store.conn store.conn
          c.into_connection.result store.upgrade store.handed store.failed store.commits _ _ settled.journal settled.redone c.in-Ok.ensures.settled
          (λ t held sound. held) (omega arith) c.into_connection.ensures.conn,
      c.into_file.ensures,
      c.in-Ok.ensures.says,
    )

pub returns-in-Ok-clause-says : goal.returns-in-Ok-clause-says
returns-in-Ok-clause-says g c = (c.in-Ok.settled.redone, c.in-Ok.ensures.says)

pub returns-in-Err-clause-says : goal.returns-in-Err-clause-says
returns-in-Err-clause-says g c = (0, c.in-Err.ensures.says)

use Rattle.std.proofs.Common.{Result, Ok, Err, OnOk}
use Rattle.permit_replay.proofs.Reading.{if_some, some_at}
use Rattle.permit_replay.specs.Holding.{IsBeginning}
use Rattle.permit_replay.specs.Texts.{IsReplayed}
use Rattle.permit_store.specs.contracts.plain.PlainStoreStore.TheImpl as plain
use Rattle.permit_database.proofs.Failures.{replaying_told}
use Rattle.permit_database.proofs.replaying.founder_told.Goals as goal

on_ok_any : {A E P : Type 0} (r : Result A E) → P → OnOk r P
on_ok_any (Ok x) fact = fact
on_ok_any (Err e) fact = tt

pub returns-in-Ok-clause-whole : goal.returns-in-Ok-clause-whole
returns-in-Ok-clause-whole g c = if_some (g.P.Read.remaining c.args.whole.now) _
    (λ bytes e. on_ok_any c.founder_of.result
    (c.in-Ok.replayed, some_at (g.P.Read.remaining c.args.whole.now) (λ bs. IsReplayed plain.view-value.it (IsBeginning plain.view-value.it c.args.beginning) bs c.in-Ok.replayed) bytes c.in-Ok.ensures.replayed e))

pub returns-in-Err-clause-fails : goal.returns-in-Err-clause-fails
returns-in-Err-clause-fails g c = replaying_told c.in-Err.fault _ c.of_replaying.ensures

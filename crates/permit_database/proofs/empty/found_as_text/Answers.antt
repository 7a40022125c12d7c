use Rattle.std.proofs.Common.{inr, subst, sym, ◌≡◌, ◌∙◌}
use Rattle.sqlite.specs.State.{HasCleanDisk}
use Rattle.sqlite.specs.Held.{Held, state}
use Rattle.permit_replay.proofs.Reading.{some_at}
use Rattle.permit_replay.specs.Holding.{IsBeginning}
use Rattle.permit_replay.specs.declared.beginning.Beginning.TheVariants.{Founding}
use Rattle.permit_store.specs.contracts.plain.PlainStoreStore.TheImpl as plain
use Rattle.permit_sql_rows.specs.Kept.{Keeps}
use Rattle.permit_database.specs.Founding.{IsFoundedBy, tables_founded}
use Rattle.permit_database.proofs.FoundedFirst.{tells_founding}
use Rattle.permit_database.proofs.Surviving.{survives_back}
use Rattle.permit_database.proofs.empty.found_as_text.Goals as goal

pub returns-in-Ok-create-clause-base : goal.returns-in-Ok-create-clause-base
returns-in-Ok-create-clause-base g c =
    let same = c.into_connection.ensures.conn in
    let founder = c.in-Ok-Some.founder in
    let founds = subst (λ bs. IsFoundedBy bs founder) (c.as_slice-first.ensures.value ∙ sym c.as_slice-whole.ensures.value)
    (some_at c.in-Ok-Some.field-0 (IsFoundedBy c.as_slice-first.result.now) founder c.in-Ok-Some.ensures.founds c.in-Ok-Some.field-0-is) in
    inr record {
      empty = c.in-Ok-create.ensures.founds.empty;
      founder = founder;
      told = λ clean. tells_founding plain.view-value.it (IsBeginning plain.view-value.it Founding) c.as_slice-whole.result.now
          (g.H.HistoryFile.view c.args.file.now).text founder (c.as_slice-whole.ensures.value ∙ c.in-Ok.ensures.text clean) founds
          c.in-Ok-Some.ensures.whole;
      made = λ clean. subst (λ (h : Held _). Keeps (tables_founded founder) (state g.S.Store h).now) (sym same)
          (c.in-Ok-create.ensures.founds.keeps (subst (λ (h : Held _). HasCleanDisk (state g.S.Store h)) same clean));
      crash = survives_back g.S.Store c.args.conn c.in-Ok-create.store.conn c.into_connection.result _ same c.in-Ok-create.ensures.founds.crash;
    }

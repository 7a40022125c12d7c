use Rattle.std.proofs.lemmas.Result.{IfOk-weaker}
use Rattle.sqlite.specs.Held.{state}
use Rattle.permit_sql_statements.proofs.KeptLemmas.{shown_open}
use Rattle.permit_sql_statements.specs.declared.texts.TheConstants.{READ_INTERESTS}
use Rattle.permit_sql_statements.proofs.QueryTexts.{plain_second, read_interests_plain}
use Rattle.permit_sql_statements.proofs.ReadLemmas.{interests_shown}
use Rattle.permit_sql_statements.proofs.read.declared_rows.Goals as goal

pub returns-clause-found : goal.returns-clause-found
returns-clause-found g c t clean there =
    let old = state g.S.Store c.args.conn.now in
    let new = state g.S.Store c.rows_of.new.conn in
    IfOk-weaker c.rows_of.result _ _ (λ rows h.
    let keeps = there (shown_open _ _ old new rows.items h) in
    interests_shown old new t rows.items keeps h) (c.rows_of.ensures.shown clean)

pub returns-clause-read : goal.returns-clause-read
returns-clause-read g c = c.rows_of.ensures.read (plain_second READ_INTERESTS.now read_interests_plain)

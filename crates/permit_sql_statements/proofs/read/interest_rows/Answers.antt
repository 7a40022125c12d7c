use Rattle.std.proofs.lemmas.Result.{IfOk-weaker}
use Rattle.sqlite.specs.Held.{state}
use Rattle.permit_sql_statements.proofs.KeptLemmas.{shown_open}
use Rattle.permit_sql_statements.specs.declared.texts.TheConstants.{FIND_INTEREST}
use Rattle.permit_sql_statements.proofs.QueryTexts.{plain_second, find_interest_plain}
use Rattle.permit_sql_statements.proofs.ReadLemmas.{interest_shown}
use Rattle.permit_sql_statements.proofs.read.interest_rows.Goals as goal

pub returns-clause-found : goal.returns-clause-found
returns-clause-found g c t clean there =
    let old = state g.S.Store c.args.conn.now in
    let new = state g.S.Store c.rows_of.new.conn in
    IfOk-weaker c.rows_of.result _ _ (λ rows h.
    let keeps = there (shown_open _ _ old new rows.items h) in
    interest_shown old new t rows.items keeps c.args.parcel c.args.party
    (rw (c.params-to_sql.ensures, c.params-to_sql-2.ensures, c.get.ensures.same, c.get-2.ensures.same) at h)) (c.rows_of.ensures.shown clean)

pub returns-clause-read : goal.returns-clause-read
returns-clause-read g c = c.rows_of.ensures.read (plain_second FIND_INTEREST.now find_interest_plain)

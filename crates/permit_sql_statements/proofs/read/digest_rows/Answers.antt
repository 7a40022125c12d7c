use Rattle.std.proofs.Common.{◌∙◌, ap, slice_get}
use Rattle.std.specs.Prelude.{bytes_eq}
use Rattle.std.proofs.lemmas.Result.{IfOk-weaker}
use Rattle.sqlite.specs.Held.{state}
use Rattle.permit_sql_rows.specs.Rows.{shown_party}
use Rattle.permit_sql_statements.proofs.KeptLemmas.{shown_open}
use Rattle.permit_sql_statements.specs.declared.texts.TheConstants.{FIND_PARTY}
use Rattle.permit_sql_statements.proofs.QueryTexts.{plain_second, find_party_plain}
use Rattle.permit_sql_statements.proofs.ReadLemmas.{digest_shown, first_of}
use Rattle.permit_sql_statements.proofs.read.digest_rows.Goals as goal

pub returns-clause-found : goal.returns-clause-found
returns-clause-found g c t clean there =
    let old = state g.S.Store c.args.conn.now in
    let new = state g.S.Store c.rows_of.new.conn in
    IfOk-weaker c.rows_of.result _ _ (λ rows h.
    let keeps = there (shown_open _ _ old new rows.items h) in
    let shown = digest_shown old new t rows.items keeps c.args.digest.now (rw (c.params-to_sql.ensures, c.as_str.ensures.same) at h) in
    ap (λ l. slice_get l 0) shown ∙ first_of shown_party (λ p. bytes_eq p.digest c.args.digest.now) t.parties) (c.rows_of.ensures.shown clean)

pub returns-clause-read : goal.returns-clause-read
returns-clause-read g c = c.rows_of.ensures.read (plain_second FIND_PARTY.now find_party_plain)

pub returns-clause-outlasts : goal.returns-clause-outlasts
returns-clause-outlasts g c = c.rows_of.ensures.outlasts (plain_second FIND_PARTY.now find_party_plain)

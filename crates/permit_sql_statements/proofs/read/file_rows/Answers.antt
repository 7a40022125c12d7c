use Rattle.std.proofs.Common.{◌∙◌, ap, eqb, slice_get}
use Rattle.std.proofs.lemmas.Result.{IfOk-weaker}
use Rattle.sqlite.specs.Held.{state}
use Rattle.permit_sql_rows.specs.Rows.{shown_file}
use Rattle.permit_sql_rows.specs.Kept.{IsNamed}
use Rattle.permit_sql_statements.proofs.KeptLemmas.{shown_open}
use Rattle.permit_sql_statements.specs.declared.texts.TheConstants.{READ_FILE}
use Rattle.permit_sql_statements.proofs.QueryTexts.{plain_second, read_file_plain}
use Rattle.permit_sql_statements.proofs.ReadLemmas.{file_shown, first_of, all_found}
use Rattle.permit_sql_statements.proofs.read.file_rows.Goals as goal

pub returns-clause-found : goal.returns-clause-found
returns-clause-found g c t clean there =
    let old = state g.S.Store c.args.conn.now in
    let new = state g.S.Store c.rows_of.new.conn in
    IfOk-weaker c.rows_of.result _ _ (λ rows h.
    let keeps = there (shown_open _ _ old new rows.items h) in
    let shown = file_shown old new t rows.items keeps c.args.file (rw (c.params-to_sql.ensures, c.get.ensures.same) at h) in
    ap (λ l. slice_get l 0) shown ∙ first_of shown_file (λ f. eqb f.id c.args.file) t.files) (c.rows_of.ensures.shown clean)

pub returns-clause-read : goal.returns-clause-read
returns-clause-read g c = c.rows_of.ensures.read (plain_second READ_FILE.now read_file_plain)

pub returns-clause-named : goal.returns-clause-named
returns-clause-named g c t clean there =
    let old = state g.S.Store c.args.conn.now in
    let new = state g.S.Store c.rows_of.new.conn in
    IfOk-weaker c.rows_of.result _ _ (λ rows h.
    let keeps = there (shown_open _ _ old new rows.items h) in
    all_found (λ f. eqb f.id c.args.file) (λ f. IsNamed t.upgrade f.id f.state) t.files keeps.keyed.named) (c.rows_of.ensures.shown clean)

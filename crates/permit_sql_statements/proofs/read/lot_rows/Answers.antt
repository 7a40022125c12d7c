use Rattle.std.proofs.Common.{◌∙◌, ap, slice_get}
use Rattle.std.specs.Prelude.{bytes_eq}
use Rattle.std.proofs.lemmas.Result.{IfOk-weaker}
use Rattle.sqlite.specs.Held.{state}
use Rattle.permit_sql_rows.specs.Rows.{shown_parcel}
use Rattle.permit_sql_statements.proofs.KeptLemmas.{shown_open}
use Rattle.permit_sql_statements.specs.declared.texts.TheConstants.{FIND_PARCEL}
use Rattle.permit_sql_statements.proofs.QueryTexts.{plain_second, find_parcel_plain}
use Rattle.permit_sql_statements.proofs.ReadLemmas.{lot_shown, first_of}
use Rattle.permit_sql_statements.proofs.read.lot_rows.Goals as goal

pub returns-clause-found : goal.returns-clause-found
returns-clause-found g c t clean there =
    let old = state g.S.Store c.args.conn.now in
    let new = state g.S.Store c.rows_of.new.conn in
    IfOk-weaker c.rows_of.result _ _ (λ rows h.
    let keeps = there (shown_open _ _ old new rows.items h) in
    let shown = lot_shown old new t rows.items keeps c.args.lot.now (rw (c.params-to_sql.ensures, c.as_str.ensures.same) at h) in
    ap (λ l. slice_get l 0) shown ∙ first_of shown_parcel (λ p. bytes_eq p.lot c.args.lot.now) t.parcels) (c.rows_of.ensures.shown clean)

pub returns-clause-read : goal.returns-clause-read
returns-clause-read g c = c.rows_of.ensures.read (plain_second FIND_PARCEL.now find_parcel_plain)

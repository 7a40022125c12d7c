use Rattle.std.proofs.Common.{◌∙◌, ap, ◌++◌, ◌∷◌, [], arith}
use Rattle.permit_model.specs.Parcels.{Interest}
use Rattle.permit_sql_rows.specs.Rows.{shown_interest}
use Rattle.permit_sql_statements.proofs.ReadLemmas.{interest_is, one_more}
use Rattle.permit_sql_statements.proofs.read.all_interests.Goals as goal

pub rows-preserved : goal.rows-preserved
rows-preserved c = λ interests are.
    let it : Interest = record { parcel = c.in-Some.pair.0; party = c.in-Some.pair.1 } in
    c.in_ok-push_interest.ensures ∙ ap (λ l. l ++ it ∷ []) (c.rows.invariant interests are)
    ∙ one_more shown_interest interests c.args.rows.now c.rows.row-index c.row-item.result it are (omega (arith, c.rows-test.true)) c.row-item.is
    (interest_is c.row-item.result it c.in-Some.ensures.back.0)

use Rattle.std.proofs.Common.{[], ◌∷◌, ap, ap₂}
use Rattle.permit_sql_rows.proofs.schema.searches.Goals as goal

pub returns : goal.returns
returns c =
    ap₂ ◌∷◌ c.plain_index.ensures (ap₂ ◌∷◌ c.plain_index-2.ensures (ap₂ ◌∷◌ c.plain_index-3.ensures (ap₂ ◌∷◌ c.plain_index-4.ensures
    (ap₂ ◌∷◌ c.plain_index-5.ensures (ap₂ ◌∷◌ c.plain_index-6.ensures (ap₂ ◌∷◌ c.plain_index-7.ensures (ap (λ i. i ∷ []) c.plain_index-8.ensures)))))))

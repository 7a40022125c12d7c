use Rattle.std.proofs.Common.{[], ◌∷◌, List, ap, ap₂, sym, ◌∙◌}
use Rattle.sqlite_schema.specs.declared.schema.Column.{Column}
use Rattle.sqlite_schema.specs.declared.schema.Reference.{Reference}
use Rattle.permit_sql_rows.specs.Schema.{file_table}
use Rattle.permit_sql_rows.proofs.schema.is_file.Goals as goal

pub returns : goal.returns
returns c =
    let same = ap₂ (λ (cs : List Column) (rs : List Reference). record file_table { columns = cs; references = rs })
    (ap₂ ◌∷◌ c.id.ensures (ap₂ ◌∷◌ c.number.ensures (ap₂ ◌∷◌ c.number-2.ensures
    (ap₂ ◌∷◌ c.number-3.ensures (ap₂ ◌∷◌ c.number-4.ensures (ap₂ ◌∷◌ c.number-5.ensures
    (ap₂ ◌∷◌ c.number-6.ensures (ap₂ ◌∷◌ c.number-7.ensures (ap₂ ◌∷◌ c.text.ensures
    (ap₂ ◌∷◌ c.number-8.ensures (ap₂ ◌∷◌ c.number-9.ensures (ap₂ ◌∷◌ c.number-10.ensures
    (ap₂ ◌∷◌ c.number-11.ensures (ap₂ ◌∷◌ c.number-12.ensures (ap₂ ◌∷◌ c.number-13.ensures
    (ap₂ ◌∷◌ c.number-14.ensures (ap₂ ◌∷◌ c.number-15.ensures (ap₂ ◌∷◌ c.number-16.ensures
    (ap₂ ◌∷◌ c.number-17.ensures (ap (λ i. i ∷ []) c.number-18.ensures))))))))))))))))))))
    (ap₂ ◌∷◌ c.refers.ensures (ap (λ r. r ∷ []) c.refers-2.ensures)) in
    (λ yes. c.is_table.ensures.0 yes ∙ same, λ is. c.is_table.ensures.1 (is ∙ sym same))

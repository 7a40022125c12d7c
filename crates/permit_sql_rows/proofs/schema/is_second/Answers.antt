use Rattle.std.proofs.Common.{◌≡◌, ◌<◌, ◌∷◌, ◌++◌, List, ℕ, [], ◌∙◌, ap, ap₂, sym, subst, true≢false}
use Rattle.sqlite_schema.specs.declared.schema.Index.{Index}
use Rattle.sqlite_schema.specs.declared.schema.Table.{Table}
use Rattle.sqlite_schema.specs.declared.schema.Schema.{Schema}
use Rattle.permit_sql_rows.specs.Schema.{first_tables, key_indexes, upgrade_table, AreSearches, IsSecond}
use Rattle.permit_sql_rows.proofs.schema.is_second.Goals as goal
use Rattle.permit_sql_rows.proofs.schema.is_second.Goals.{then-are_second_tables, else-are_second_tables}

-- its tables, its indexes and no views
made : (s : Schema) → (tree : ℕ) × (s.tables ≡ first_tables ++ upgrade_table tree ∷ []) × (9 < tree) × (tree < 65536) →
    (searches : List Index) × (s.indexes ≡ key_indexes ++ searches) × AreSearches searches → s.views ≡ [] → IsSecond s
made s t i none = record {
  order = record { tree = t.0; searches = i.0 };
  is = ap (λ views. record s { views = views }) none ∙ ap₂ (λ (tables : List Table) (indexes : List Index). record { tables = tables; indexes = indexes; views = [] }) t.1 i.1;
  apart = t.2;
  low = t.3;
  are = i.2;
}

pub returns-then-are_second_indexes : goal.returns-then-are_second_indexes
returns-then-are_second_indexes c = elim c.if-are_second_tables.branch [
  | then-are_second_tables w ↦
      let tables = subst (λ ts. (tree : ℕ) × (ts ≡ first_tables ++ upgrade_table tree ∷ []) × (9 < tree) × (tree < 65536)) c.as_slice.ensures
      (c.are_second_tables.ensures.0 w.if-are_second_tables.true) in
      let indexes = subst (λ is. (searches : List Index) × (is ≡ key_indexes ++ searches) × AreSearches searches) w.as_slice-then-are_second_tables.ensures
      (w.are_second_indexes.ensures.0 (sym w.value-is ∙ c.if-are_second_indexes.true)) in (
        λ yes. made c.args.schema.now tables indexes (c.is_empty.ensures.0 yes),
        λ second. c.is_empty.ensures.1 (ap (λ (s : Schema). s.views) second.is),
      )
  | else-are_second_tables w ↦ absurd (true≢false (sym c.if-are_second_indexes.true ∙ w.value-is ∙ w.if-are_second_tables.false))
]

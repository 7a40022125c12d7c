-- What a database keeps goes by its trees.
use Rattle.std.proofs.Common.{◌≡◌, sym, subst, ap, ◌∙◌}
use Rattle.sqlite_trees.specs.Tree.{Trees}
use Rattle.sqlite_catalog.specs.Listing.{Lists}
use Rattle.sqlite_trees.specs.Objects.{catalog_tree}
use Rattle.sqlite_catalog.proofs.ReadLemmas.{lists_once}
use Rattle.sqlite.specs.Effect.{Database, IsDatabase}
use Rattle.sqlite.specs.State.{State}
use Rattle.permit_base.specs.declared.words.Edition.TheVariants.{Second}
use Rattle.permit_model.specs.Tables.{Tables}
use Rattle.permit_sql_rows.specs.Schema.{IsOffice, upgrade_tree}
use Rattle.permit_sql_rows.specs.Kept.{AreInTrees, Keeps}
use Rattle.permit_sql.specs.Reopening.{FindsAgain, HasSettled}

-- the list of tables in the trees fixes the schema
keeps_by_trees : (a b : Database) (t : Tables) → Keeps t a → IsDatabase a → IsDatabase b → b.trees ≡ a.trees → Keeps t b
keeps_by_trees a b t k was is same =
    let one = subst (λ (trees : Trees). Lists (trees catalog_tree) b.schema) same is.lists in
    let schema = lists_once (a.trees catalog_tree) a.schema b.schema was.lists one in
    record {
      schema = subst (IsOffice Second) schema k.schema;
      now = k.now;
      keyed = k.keyed;
      rows = subst (λ s. AreInTrees t (upgrade_tree s) b.trees) schema (subst (AreInTrees t (upgrade_tree a.schema)) (sym same) k.rows);
    }

-- what a store has committed is found again
pub found_again : (t : Tables) (old new : State) → HasSettled t old → FindsAgain old new → Keeps t new.now
found_again t old new settled again =
    let was = settled again.clean again.opened in
    keeps_by_trees old.now new.now t was.kept was.live again.live (again.same ∙ ap (λ db. db.trees) (sym was.same))

-- What the text that reads the table of the upgrade means, in whatever tree that is.
use Rattle.std.proofs.Common.{◌≡◌, ◌<◌, refl, sym, subst, arith, eqb, true≢false, codes, [], ◌∷◌, ℕ}
use Rattle.std.specs.Prelude.{Bool, true, false, if◌then◌else◌, nat_le, ◌^◌, Result, Ok, Err, None}
use Rattle.std.proofs.lemmas.Bool.Decides.{nat_tests}
use Rattle.sqlite_tied.specs.Compute.{everything}
use Rattle.sqlite.specs.Listing.{understood, listing_schema, misses_table, if_select}
use Rattle.sqlite.specs.Effect.{IsShown}
use Rattle.sqlite_value.specs.Order.{Row}
use Rattle.sqlite_sql.specs.Term.{col}
use Rattle.sqlite_sql.specs.Query.{Query, inner, end}
use Rattle.sqlite_schema.specs.declared.schema.Schema.{Schema}
use Rattle.sqlite_schema.specs.declared.command.Command.TheVariants.{Select}
use Rattle.sqlite_resolve.specs.declared.error.CompileError.{CompileError}
use Rattle.sqlite_resolve.specs.declared.error.CompileError.TheVariants.{Mismatch}
use Rattle.sqlite_resolve.specs.declared.compiled.Compiled.{Compiled}
use Rattle.sqlite_resolve.specs.Lowering.{Checked, and_then}
use Rattle.sqlite_resolve.specs.Compile.{compiled, first, with_command}
use Rattle.sqlite.proofs.Callers.{command_of, IsPlain}
use Rattle.permit_base.specs.declared.words.Edition.TheVariants.{Second}
use Rattle.permit_sql_rows.specs.Schema.{Order, schema_in, upgrade_tree, IsOffice}
use Rattle.permit_sql_statements.specs.declared.texts.TheConstants.{READ_UPGRADE}
use Rattle.permit_sql_statements.specs.Frames.{IsPlainIn}
use Rattle.permit_sql_statements.proofs.Lookups.{plain_query}
use Rattle.permit_sql_statements.proofs.QueryTexts.{alone, names_of, columns_of}
use Rattle.permit_sql.proofs.WholeMeanings.{IsText}

abbrev pub read_upgrade_query : ℕ → Query
read_upgrade_query tree = plain_query (inner tree end) [] (col 1 0 ∷ columns_of 1 2) []

-- the types of the query are accepted, since the table in the tree is that of the upgrade
accepted : (o : Order) → 9 < o.tree → o.tree < 65536 →
    ¬ IsShown (λ (r : Row). r) (record { schema = schema_in o; trees = λ tree. [] }) (alone (read_upgrade_query o.tree)) [] None
accepted o apart low refused =
    let stored : nat_le (2 ^ 31) o.tree ≡ false = grind (arith, nat_tests) in
    let desk : eqb 0 o.tree ≡ false = grind (arith, nat_tests) in
    let party : eqb 1 o.tree ≡ false = grind (arith, nat_tests) in
    let parcel : eqb 3 o.tree ≡ false = grind (arith, nat_tests) in
    let interest : eqb 5 o.tree ≡ false = grind (arith, nat_tests) in
    let file : eqb 7 o.tree ≡ false = grind (arith, nat_tests) in
    let paper : eqb 8 o.tree ≡ false = grind (arith, nat_tests) in
    let own : eqb o.tree o.tree ≡ true = grind (arith, nat_tests) in
    true≢false (rw (stored, desk, party, parcel, interest, file, paper, own) at refused)

module _ (o : Order) where
  -- what the text is read as, by whether its types are accepted
  abbrev read_if : Bool → Checked Compiled
  read_if is_accepted = and_then (first READ_UPGRADE.now) (λ parsed.
      and_then (and_then (and_then
      (and_then (if is_accepted then Ok (record { lets = []; body = read_upgrade_query o.tree }) else Err Mismatch)
      (λ program. Ok (Select program (codes "id" ∷ codes "files" ∷ []))))
      (λ command. Ok (command, None))) (λ meaning. Ok ([], meaning)))
      (λ plan. Ok (with_command parsed plan)))

  -- it is read as the query
  abbrev IsRead : Result Compiled CompileError → Type 0
  IsRead r =
      let understood_as = if misses_table r then if_select (compiled listing_schema READ_UPGRADE.now) else r in
      (command_of understood_as ≡ Select (alone (read_upgrade_query o.tree)) (names_of (command_of understood_as))) × IsPlain understood_as
      × (misses_table r ≡ false)

  once_accepted : (is_accepted : Bool) → ¬ (is_accepted ≡ false) → compiled (schema_in o) READ_UPGRADE.now ≡ read_if is_accepted →
      IsRead (compiled (schema_in o) READ_UPGRADE.now)
  unfolding understood everything
  once_accepted true never is = subst IsRead (sym is) (refl, (refl, refl), refl)
  once_accepted false never is = absurd (never refl)

  upgrade_text : 9 < o.tree → o.tree < 65536 → IsText READ_UPGRADE.now (read_upgrade_query o.tree) (schema_in o)
  unfolding understood everything
  upgrade_text apart low = let it = once_accepted _ (accepted o apart low) refl in record { is = it.0; plain = it.1; unlisted = it.2 }

-- the text reads the tree of the upgrade
pub read_upgrade_text : (s : Schema) → IsOffice Second s → IsText READ_UPGRADE.now (read_upgrade_query (upgrade_tree s)) s
read_upgrade_text s office =
    subst (λ x. IsText READ_UPGRADE.now (read_upgrade_query (upgrade_tree x)) x) (sym office.is) (upgrade_text office.order office.apart office.low)

pub read_upgrade_plain : IsPlainIn Second READ_UPGRADE.now
read_upgrade_plain s office = (read_upgrade_text s office).plain

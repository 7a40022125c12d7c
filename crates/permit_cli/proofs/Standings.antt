-- Which tables are in a database, by two looks at its version and two at its schema.
use Rattle.std.proofs.Common.{◌≡◌, Bool, true, false, refl, sym, ap, subst, ◌∙◌, true≢false}
use Rattle.std.specs.Prelude.{◌↔◌, IsTrue}
use Rattle.sqlite.specs.Effect.{Database}
use Rattle.sqlite_schema.specs.declared.schema.Schema.{Schema}
use Rattle.permit_base.specs.declared.words.Edition.{Edition}
use Rattle.permit_base.specs.declared.words.Edition.TheVariants.{First, Second}
use Rattle.permit_sql_rows.specs.Schema.{IsOffice}
use Rattle.permit_sql.specs.Opening.{HasOtherVersion}
use Rattle.permit_cli.specs.Reasons.{standing_by, HasOffice, HasUnknownVersion, Stands}

-- what two looks say of an edition: whether the desk says another version, and whether the schema is an office's under it
pub record Tells (edition : Edition) (db : Database) (says_other is_schema : Bool) : Type 0 where
  pub other : IsTrue says_other → HasOtherVersion edition db
  pub told : HasOtherVersion edition db → IsTrue says_other
  pub schema : IsTrue is_schema → IsOffice edition db.schema
  pub same : IsOffice edition db.schema → IsTrue is_schema

-- no office of the edition
no_office : (edition : Edition) (db : Database) (says_other is_schema : Bool) → Tells edition db says_other is_schema →
    (says_other ≡ false → is_schema ≡ true → ⊥) → ¬ HasOffice edition db
no_office edition db true is_schema tells neither has = has.version (tells.other refl)
no_office edition db false is_schema tells neither has = neither refl (tells.same has.schema)

-- no unknown version
known_first : (db : Database) (is_schema : Bool) → Tells First db false is_schema → ¬ HasUnknownVersion db
known_first db is_schema tells both = true≢false (sym (tells.told both.0))

known_second : (db : Database) (is_schema : Bool) → Tells Second db false is_schema → ¬ HasUnknownVersion db
known_second db is_schema tells both = true≢false (sym (tells.told both.1))

-- an office of the edition
office : (edition : Edition) (db : Database) → Tells edition db false true → HasOffice edition db
office edition db tells = record { schema = tells.schema refl; version = λ other. true≢false (sym (tells.told other)) }

no_offices : (db : Database) (n m f s : Bool) → Tells First db n f → Tells Second db m s → (n ≡ false → f ≡ true → ⊥) → (m ≡ false → s ≡ true → ⊥) →
    (edition : Edition) → ¬ HasOffice edition db
no_offices db n m f s first second not_first not_second First = no_office First db n f first not_first
no_offices db n m f s first second not_first not_second Second = no_office Second db m s second not_second

-- the tables that the looks name are there
pub stands_by : (db : Database) (n m f s : Bool) → Tells First db n f → Tells Second db m s → Stands db (standing_by n m f s)
stands_by db true true f s first second = (first.other refl, second.other refl)
stands_by db false m true s first second = office First db first
stands_by db true false f true first second = office Second db second
stands_by db false false false true first second = office Second db second
stands_by db true false f false first second =
    (no_offices db true false f false first second (λ says shows. true≢false says) (λ says shows. true≢false (sym shows)), known_second db false second)
stands_by db false true false s first second =
    (no_offices db false true false s first second (λ says shows. true≢false (sym shows)) (λ says shows. true≢false says), known_first db false first)
stands_by db false false false false first second =
    (no_offices db false false false false first second (λ says shows. true≢false (sym shows)) (λ says shows. true≢false (sym shows)), known_first db false first)

-- what the looks say of a database that stays as it is
pub tells : (edition : Edition) (db now : Database) (shown : Schema) (says_other is_schema : Bool) → (IsTrue says_other → HasOtherVersion edition db) →
    (HasOtherVersion edition db → IsTrue says_other) → (IsTrue is_schema ↔ IsOffice edition shown) → shown ≡ now.schema → now ≡ db →
    Tells edition db says_other is_schema
tells edition db now shown says_other is_schema other told same_schema shows same =
    let is : shown ≡ db.schema = shows ∙ ap (λ (d : Database). d.schema) same in
    record {
      other = other;
      told = told;
      schema = λ yes. subst (IsOffice edition) is (same_schema.0 yes);
      same = λ has. same_schema.1 (subst (IsOffice edition) (sym is) has);
    }

-- The answer to the text of all files.
use Rattle.std.proofs.Common.{◌≡◌, refl, ap, ap₂, subst, ◌∙◌, ℕ, List, [], ◌∷◌, ◌++◌, map, drop, find, eqb, Option, Some, None, option_map, IsPermutation, Bool}
use Rattle.std.specs.List.{flat_map}
use Rattle.std.proofs.lemmas.List.Sorted.{IsPermutation-trans}
use Rattle.sqlite.specs.declared.types.Value.TheVariants.{Null}
use Rattle.sqlite.specs.State.{State, Shown}
use Rattle.sqlite.proofs.Callers.{reads_as}
use Rattle.sqlite_value.specs.Order.{Row, column}
use Rattle.sqlite_sql.specs.Program.{overlay}
use Rattle.sqlite_sql.specs.Term.{Env}
use Rattle.sqlite_sql.specs.Query.{Join, inner, left, IsAnswer, Output, output, matches}
use Rattle.sqlite_trees.specs.Tree.{Trees}
use Rattle.sqlite_keyed.proofs.ListLemmas.{IsPermutation-flat_map, map-flat_map}
use Rattle.permit_model.specs.Parcels.{Parcel}
use Rattle.permit_model.specs.Tables.{Tables, FileRow}
use Rattle.permit_model.specs.Routes.{has_interest_in}
use Rattle.permit_sql_rows.specs.Kept.{AreKeyed, Keeps}
use Rattle.permit_sql_rows.specs.Rows.{int, or_null, flag, parcel_row, file_row, shown_interest, shown_file}
use Rattle.permit_sql_rows.specs.Schema.{schema_in}
use Rattle.permit_sql_statements.specs.declared.texts.TheConstants.{READ_FOUND}
use Rattle.permit_sql_statements.proofs.Lookups.{answers}
use Rattle.permit_sql_statements.proofs.QueryTexts.{its_parcel, one_interest, read_found_query, read_found_is, read_found_plain, read_found_unlisted}
use Rattle.permit_sql_statements.proofs.Selecting.{ShowAll, beside_row, counted_is, out, parcel_found, shows_all}

module _ (t : Tables) (caller : ℕ) (db : Trees) (keyed : AreKeyed t) (parcels : IsPermutation (map parcel_row t.parcels) (db 3))
    (interests : IsPermutation (map shown_interest t.interests) (map (drop 1) (db 5))) (files : IsPermutation (map file_row t.files) (db 7)) where
  abbrev parcel_of : FileRow → Option Parcel
  parcel_of f = find (λ p. eqb p.id f.state.parcel) t.parcels

  abbrev conflict : FileRow → Bool
  conflict f = has_interest_in t f.state.parcel caller

  abbrev params : Row
  params = int caller ∷ []

  -- a file's row beside its parcel's, and whether the caller has an interest in the parcel
  abbrev beside : FileRow → Env
  beside f = params ∷ file_row f ∷ beside_row (parcel_of f) ∷ (flag (conflict f) ∷ []) ∷ []

  abbrev rest : Join
  rest = left 3 its_parcel one_interest

  met : (f : FileRow) → matches db [] rest (params ∷ file_row f ∷ []) ≡ beside f ∷ []
  met f =
      ap (flat_map (λ r. matches db [] one_interest (params ∷ file_row f ∷ r ∷ [])))
      (parcel_found f.state.parcel t.parcels (db 3) parcels (keyed.parcels f.state.parcel))
      ∙ ap (λ v. (params ∷ file_row f ∷ beside_row (parcel_of f) ∷ (v ∷ []) ∷ []) ∷ [])
      (counted_is f.state.parcel caller (λ r. params ∷ file_row f ∷ beside_row (parcel_of f) ∷ r ∷ []) t.interests (db 5) interests)

  owner_shown : (o : Option Parcel) → column (beside_row o) 4 ≡ or_null (option_map (λ (p : Parcel). p.owner) o)
  owner_shown None = refl
  owner_shown (Some p) = refl

  shown_as : (f : FileRow) → output read_found_query (beside f) ≡ out t caller f
  shown_as f = ap (λ v. (int f.id ∷ [], shown_file f ++ v ∷ flag (conflict f) ∷ [])) (owner_shown (parcel_of f))

  abbrev put_out : Row → List Output
  put_out r = map (output read_found_query) (matches db [] rest (params ∷ r ∷ []))

  put_is : (f : FileRow) → put_out (file_row f) ≡ out t caller f ∷ []
  put_is f = ap (map (output read_found_query)) (met f) ∙ ap (λ o. o ∷ []) (shown_as f)

  all_put : (fs : List FileRow) → flat_map put_out (map file_row fs) ≡ map (out t caller) fs
  all_put [] = refl
  all_put (f ∷ fs) = ap₂ ◌++◌ (put_is f) (all_put fs)

  answer_shown : (rows : List Row) → IsAnswer read_found_query db params rows → ShowAll t caller rows
  answer_shown rows a =
      let got = answers (inner 7 rest) [] read_found_query.project read_found_query.order db params rows a in
      let all = subst (λ l. IsPermutation l (flat_map put_out (db 7))) (all_put t.files) (IsPermutation-flat_map put_out _ _ files) in
      let over : map (output read_found_query) (matches db [] (inner 7 rest) (params ∷ [])) ≡ flat_map put_out (db 7) =
      map-flat_map (output read_found_query) (λ r. matches db [] rest (params ∷ r ∷ [])) (db 7) in
      shows_all t caller keyed.named got.0 rows (IsPermutation-trans _ _ _ all (subst (λ l. IsPermutation l got.0) over got.1)) got.2 got.3

pub found_shown : (t : Tables) (caller : ℕ) (old new : State) → Keeps t old.now → (rows : List Row) → Shown READ_FOUND.now (int caller ∷ []) old new rows →
    ShowAll t caller rows
found_shown t caller old new k rows h =
    let o = k.schema.order in
    let read = reads_as READ_FOUND.now (int caller ∷ []) old new (schema_in o) k.schema.is _ (read_found_is o) (read_found_plain o) (read_found_unlisted o) rows h in
    answer_shown t caller (overlay old.now.trees []) k.keyed k.rows.parcels k.rows.interests k.rows.files rows (read.answer Null)

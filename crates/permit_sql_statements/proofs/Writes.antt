-- What each text that writes makes of the trees.
use Rattle.std.proofs.Common.{◌≡◌, ℕ, pos, true, eqb, [], ◌∷◌, map, filter, Ok, refl, sym, ap, ap₂, ◌∙◌, arith}
use Rattle.sqlite.specs.declared.types.Value.TheVariants.{Null, Int}
use Rattle.sqlite_value.specs.Order.{Row}
use Rattle.sqlite_trees.specs.Tree.{put_row, without_rowid}
use Rattle.sqlite_sql.specs.Program.{overlay}
use Rattle.sqlite_rules.specs.declared.error.Rowids.TheVariants.{Chosen}
use Rattle.sqlite_rules.specs.Cast.{cast_row}
use Rattle.sqlite_rules.specs.Edit.{with_rowid, next_rowid}
use Rattle.sqlite_keyed.proofs.ListLemmas.{IsPermutation-same}
use Rattle.sqlite.specs.State.{State, Executes}
use Rattle.permit_base.specs.declared.words.Edition.TheVariants.{Second}
use Rattle.permit_model.specs.Codes.{kind_code, stage_code}
use Rattle.permit_model.specs.Caller.{Party}
use Rattle.permit_model.specs.Parcels.{Parcel, Interest}
use Rattle.permit_model.specs.Tables.{Desk, State as FileState, FileRow, Paper, Tables}
use Rattle.permit_sql_rows.specs.Schema.{Order, schema_in, desk_table, upgrade_table, party_table, parcel_table, interest_table, file_table, paper_table}
use Rattle.permit_sql_rows.specs.Rows.{int, or_zero, or_minus_one, step_value, flag, desk_row, upgrade_row, party_row, parcel_row, file_row, shown_party, shown_parcel}
use Rattle.permit_sql_rows.specs.Rows.{shown_file, shown_interest, shown_paper}
use Rattle.permit_sql_rows.specs.Kept.{Keeps}
use Rattle.permit_sql_statements.specs.declared.texts.TheConstants.{WRITE_DESK, ADD_PARTY, ADD_PARCEL, ADD_INTEREST, ADD_FILE, ADD_PAPER, SET_OWNER, WRITE_FILE}
use Rattle.permit_sql_statements.specs.declared.texts.TheConstants.{FOUND_DESK, ADD_UPGRADE, SET_VERSION}
use Rattle.permit_sql_statements.proofs.Permuted.{alone, has_is}
use Rattle.permit_sql_statements.proofs.Lookups.{one_test, eq_is, finds_one}
use Rattle.permit_sql_statements.proofs.WriteTexts.{write_desk_query, write_desk_is, write_desk_plain, add_party_terms, add_party_is, add_party_plain}
use Rattle.permit_sql_statements.proofs.WriteTexts.{add_parcel_terms, add_parcel_is, add_parcel_plain, add_interest_terms, add_interest_is, add_interest_plain}
use Rattle.permit_sql_statements.proofs.WriteTexts.{add_file_terms, add_file_is, add_file_plain, add_paper_terms, add_paper_is, add_paper_plain}
use Rattle.permit_sql_statements.proofs.WriteTexts.{set_owner_query, set_owner_is, set_owner_plain, write_file_query, write_file_is, write_file_plain}
use Rattle.permit_sql_statements.proofs.WriteTexts.{found_desk_terms, found_desk_is, found_desk_plain, add_upgrade_terms, add_upgrade_is, add_upgrade_plain}
use Rattle.permit_sql_statements.proofs.WriteTexts.{set_version_query, set_version_is, set_version_plain}
use Rattle.permit_sql_statements.proofs.Effects.{cast_int, cast_null, cast_or_zero, cast_or_minus_one, cast_step, cast_flag, Leaves, Adds, adds, sets}

-- ---- the rows are stored as they are

cast_desk : (d : Desk) → cast_row desk_table (desk_row d) ≡ desk_row d
cast_desk d = simp (cast_int, cast_null)

cast_upgrade : (tree files : ℕ) → cast_row (upgrade_table tree) (upgrade_row files) ≡ upgrade_row files
cast_upgrade tree files = simp (cast_int, cast_null)

cast_party : (p : Party) → cast_row party_table (party_row p) ≡ party_row p
cast_party p = simp (cast_int, cast_null)

cast_parcel : (p : Parcel) → cast_row parcel_table (parcel_row p) ≡ parcel_row p
cast_parcel p = simp (cast_int, cast_null)

cast_interest : (i : Interest) → cast_row interest_table (Null ∷ shown_interest i) ≡ Null ∷ shown_interest i
cast_interest i = simp (cast_int, cast_null)

cast_file : (f : FileRow) → cast_row file_table (file_row f) ≡ file_row f
cast_file f = simp (cast_int, cast_null, cast_or_zero, cast_or_minus_one, cast_step, cast_flag)

cast_paper : (p : Paper) → cast_row paper_table (Null ∷ shown_paper p) ≡ Null ∷ shown_paper p
cast_paper p = simp (cast_int, cast_null, cast_flag)

-- ---- new rows

module _ (o : Order) (old new : State) (count : ℕ) (schema : old.now.schema ≡ schema_in o) where
  pub founds_desk : (last : ℕ) → Executes FOUND_DESK.now (int last ∷ []) old new (Ok count) →
      Adds o old.now new.now desk_table (desk_row (record { edition = Second; last = last; parties = 1; parcels = 0; files = 0 }))
  founds_desk last h =
      adds o FOUND_DESK.now 0 desk_table refl found_desk_terms 7 (found_desk_is o) (found_desk_plain o) (int last ∷ []) old new count schema _ (λ tally d. d)
      (ap (λ r. with_rowid Chosen (old.now.trees 0) r ∷ []) (cast_desk (record { edition = Second; last = last; parties = 1; parcels = 0; files = 0 }))) h

  pub adds_upgrade : (files : ℕ) → Executes ADD_UPGRADE.now (int files ∷ []) old new (Ok count) → Adds o old.now new.now (upgrade_table o.tree) (upgrade_row files)
  adds_upgrade files h =
      adds o ADD_UPGRADE.now 6 (upgrade_table o.tree) refl add_upgrade_terms 3 (add_upgrade_is o) (add_upgrade_plain o) (int files ∷ []) old new count schema _ (λ tally d. d)
      (ap (λ r. with_rowid Chosen (old.now.trees o.tree) r ∷ []) (cast_upgrade o.tree files)) h

  pub adds_party : (p : Party) → Executes ADD_PARTY.now (shown_party p) old new (Ok count) → Adds o old.now new.now party_table (party_row p)
  adds_party p h =
      adds o ADD_PARTY.now 1 party_table refl add_party_terms 5 (add_party_is o) (add_party_plain o) (shown_party p) old new count schema _ (λ tally d. d)
      (ap (λ r. with_rowid Chosen (old.now.trees 1) r ∷ []) (cast_party p)) h

  pub adds_parcel : (p : Parcel) → Executes ADD_PARCEL.now (shown_parcel p) old new (Ok count) → Adds o old.now new.now parcel_table (parcel_row p)
  adds_parcel p h =
      adds o ADD_PARCEL.now 2 parcel_table refl add_parcel_terms 5 (add_parcel_is o) (add_parcel_plain o) (shown_parcel p) old new count schema _ (λ tally d. d)
      (ap (λ r. with_rowid Chosen (old.now.trees 3) r ∷ []) (cast_parcel p)) h

  pub adds_interest : (i : Interest) → Executes ADD_INTEREST.now (shown_interest i) old new (Ok count) →
      Adds o old.now new.now interest_table (Int (next_rowid (old.now.trees 5)) ∷ shown_interest i)
  adds_interest i h =
      adds o ADD_INTEREST.now 3 interest_table refl add_interest_terms 3 (add_interest_is o) (add_interest_plain o) (shown_interest i) old new count schema _
      (λ tally d. d) (ap (λ r. with_rowid Chosen (old.now.trees 5) r ∷ []) (cast_interest i)) h

  pub adds_file : (f : FileRow) → Executes ADD_FILE.now (shown_file f) old new (Ok count) → Adds o old.now new.now file_table (file_row f)
  adds_file f h =
      adds o ADD_FILE.now 4 file_table refl add_file_terms 21 (add_file_is o) (add_file_plain o) (shown_file f) old new count schema _ (λ tally d. d)
      (ap (λ r. with_rowid Chosen (old.now.trees 7) r ∷ []) (cast_file f)) h

  pub adds_paper : (p : Paper) → Executes ADD_PAPER.now (shown_paper p) old new (Ok count) →
      Adds o old.now new.now paper_table (Int (next_rowid (old.now.trees 8)) ∷ shown_paper p)
  adds_paper p h =
      adds o ADD_PAPER.now 5 paper_table refl add_paper_terms 10 (add_paper_is o) (add_paper_plain o) (shown_paper p) old new count schema _ (λ tally d. d)
      (ap (λ r. with_rowid Chosen (old.now.trees 8) r ∷ []) (cast_paper p)) h

  -- ---- rows that are set

  pub sets_version : (was : Desk) → old.now.trees 0 ≡ desk_row was ∷ [] → Executes SET_VERSION.now [] old new (Ok count)
      → Leaves o old.now new.now desk_table × (new.now.trees 0 ≡ desk_row (record was { edition = Second }) ∷ [])
  sets_version was is h =
      let it = sets o SET_VERSION.now 0 desk_table set_version_query (set_version_is o) (set_version_plain o) [] old new count schema refl (λ tally x. x) h in
      let d : Desk = record was { edition = Second } in
      let found = finds_one desk_row (λ x. int 1 ∷ desk_row (record x { edition = Second })) 0 set_version_query.filter set_version_query.project
      (overlay old.now.trees []) [] (was ∷ [])
      (λ x. true) (λ x. one_test _ ∙ eq_is 1 1) (λ x. refl)
      (IsPermutation-same _ _ (sym is)) (omega arith) it.found (it.answer.answer Null) in
      let done = it.one (pos 1) (desk_row d) (cast_desk d) found in (
        done.0,
        done.1 ∙ ap (λ rows. put_row (desk_row d) (without_rowid (pos 1) rows)) is
            ∙ ap (put_row (desk_row d)) (alone (pos 1) (desk_row was) (has_is 1 1)),
      )

  pub sets_desk : (was d : Desk) → d.edition ≡ was.edition → old.now.trees 0 ≡ desk_row was ∷ [] →
      Executes WRITE_DESK.now (int d.last ∷ int d.parties ∷ int d.parcels ∷ int d.files ∷ []) old new (Ok count)
      → Leaves o old.now new.now desk_table × (new.now.trees 0 ≡ desk_row d ∷ [])
  sets_desk was d now is h =
      let params = int d.last ∷ int d.parties ∷ int d.parcels ∷ int d.files ∷ [] in
      let it = sets o WRITE_DESK.now 0 desk_table write_desk_query (write_desk_is o) (write_desk_plain o) params old new count schema refl (λ tally x. x) h in
      let found = finds_one desk_row (λ x. int 1 ∷ desk_row (record d { edition = x.edition })) 0 write_desk_query.filter write_desk_query.project (overlay old.now.trees []) params (was ∷ [])
      (λ x. true) (λ x. one_test _ ∙ eq_is 1 1) (λ x. refl)
      (IsPermutation-same _ _ (sym is)) (omega arith) it.found (it.answer.answer Null) in
      let same = ap (λ e. (int 1 ∷ desk_row (record d { edition = e })) ∷ []) (sym now) in
      let done = it.one (pos 1) (desk_row d) (cast_desk d) (found ∙ same) in (
        done.0,
        done.1 ∙ ap (λ rows. put_row (desk_row d) (without_rowid (pos 1) rows)) is
            ∙ ap (put_row (desk_row d)) (alone (pos 1) (desk_row was) (has_is 1 1)),
      )

  pub sets_owner : (t : Tables) (k : Keeps t old.now) (id owner : ℕ) (p : Parcel) → filter (λ x. eqb x.id id) t.parcels ≡ p ∷ [] → p.id ≡ id →
      Executes SET_OWNER.now (int id ∷ int owner ∷ []) old new (Ok count)
      → Leaves o old.now new.now parcel_table × (new.now.trees 3 ≡ put_row (parcel_row (record p { owner = owner })) (without_rowid (pos id) (old.now.trees 3)))
  sets_owner t k id owner p there same h =
      let params = int id ∷ int owner ∷ [] in
      let it = sets o SET_OWNER.now 2 parcel_table set_owner_query (set_owner_is o) (set_owner_plain o) params old new count schema refl (λ tally x. x) h in
      let set : Parcel → Row = λ x. int x.id ∷ parcel_row (record x { owner = owner }) in
      let found = finds_one parcel_row set 3 set_owner_query.filter set_owner_query.project (overlay old.now.trees []) params t.parcels (λ x. eqb x.id id)
      (λ x. one_test _ ∙ eq_is x.id id) (λ x. refl)
      k.rows.parcels (k.keyed.parcels id) it.found (it.answer.answer Null) in
      it.one (pos id) (parcel_row (record p { owner = owner })) (cast_parcel (record p { owner = owner }))
      (found ∙ ap (map set) there ∙ ap (λ n. (int n ∷ parcel_row (record p { owner = owner })) ∷ []) same)

  pub sets_file : (t : Tables) (k : Keeps t old.now) (id : ℕ) (s : FileState) (f : FileRow) → filter (λ x. eqb x.id id) t.files ≡ f ∷ [] → f.id ≡ id →
      s.parcel ≡ f.state.parcel → s.applicant ≡ f.state.applicant
      → Executes WRITE_FILE.now (int id ∷ or_zero s.contractor ∷ or_zero s.reviewer ∷ or_zero s.inspector ∷ int (kind_code s.kind) ∷ int s.filed
      ∷ int (stage_code s.stage) ∷ or_minus_one s.deadline ∷ int s.done ∷ step_value s.request
      ∷ or_minus_one s.requested ∷ or_zero s.ask ∷ flag s.stopped ∷ int s.notices ∷ int s.papers ∷ or_minus_one s.temporary ∷ []) old new (Ok count)
      → Leaves o old.now new.now file_table × (new.now.trees 7 ≡ put_row (file_row (record f { state = s })) (without_rowid (pos id) (old.now.trees 7)))
  sets_file t k id s f there same parcel applicant h =
      let params = int id ∷ or_zero s.contractor ∷ or_zero s.reviewer ∷ or_zero s.inspector ∷ int (kind_code s.kind) ∷ int s.filed ∷ int (stage_code s.stage)
      ∷ or_minus_one s.deadline ∷ int s.done ∷ step_value s.request
      ∷ or_minus_one s.requested ∷ or_zero s.ask ∷ flag s.stopped ∷ int s.notices ∷ int s.papers ∷ or_minus_one s.temporary ∷ [] in
      let it = sets o WRITE_FILE.now 4 file_table write_file_query (write_file_is o) (write_file_plain o) params old new count schema refl (λ tally x. x) h in
      let set : FileRow → Row = λ x. int x.id ∷ file_row (record x { state = record s { parcel = x.state.parcel; applicant = x.state.applicant } }) in
      let found = finds_one file_row set 7 write_file_query.filter write_file_query.project (overlay old.now.trees []) params t.files (λ x. eqb x.id id)
      (λ x. one_test _ ∙ eq_is x.id id) (λ x. refl)
      k.rows.files (k.keyed.files id) it.found (it.answer.answer Null) in
      let made = record f { state = s } in
      let whole : set f ∷ [] ≡ (int id ∷ file_row made) ∷ [] =
      ap (λ n. (int n ∷ file_row (record f { state = record s { parcel = f.state.parcel; applicant = f.state.applicant } })) ∷ []) same
      ∙ ap₂ (λ a b. (int id ∷ file_row (record f { state = record s { parcel = a; applicant = b } })) ∷ []) (sym parcel) (sym applicant) in
      it.one (pos id) (file_row made) (cast_file made) (found ∙ ap (map set) there ∙ whole)

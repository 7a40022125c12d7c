-- What the statements of a creation make of an empty database.
use Rattle.std.proofs.Common.{◌≡◌, ℕ, ◌≤◌, Option, arith, IsPermutation, true, false, List, [], ◌∷◌, ◌++◌, map, drop, take, slice_get, Some, None, Ok, Result, refl, sym, ap}
use Rattle.std.proofs.Common.{subst, ◌∙◌, inl, inr}
use Rattle.sqlite_tied.specs.Compute.{everything}
use Rattle.sqlite.specs.Listing.{understood}
use Rattle.sqlite_resolve.specs.Compile.{table_defined_by, index_defined_by}
use Rattle.sqlite_catalog.specs.Change.{created, indexed, next_tree, KeepsRows}
use Rattle.sqlite_schema.specs.declared.schema.Table.{Table}
use Rattle.sqlite_schema.specs.declared.schema.Schema.{Schema}
use Rattle.sqlite_schema.specs.declared.schema.Index.{Index}
use Rattle.sqlite_schema.specs.declared.command.Command.TheVariants.{CreateTable, CreateIndex}
use Rattle.std.specs.Prelude.{IfSome}
use Rattle.std.specs.List.{AllByRecursion}
use Rattle.sqlite_trees.specs.Tree.{Trees, put_row}
use Rattle.sqlite_trees.specs.declared.store.Store.{Ghosts}
use Rattle.sqlite_keyed.proofs.ListLemmas.{IsPermutation-same}
use Rattle.sqlite.specs.Effect.{Database}
use Rattle.sqlite.specs.Does.{Tally, Does, AtPlace, Defines, MakesIndex, lacks_sequence}
use Rattle.sqlite.specs.State.{State, Writes, Executes, mode_of}
use Rattle.sqlite.specs.Held.{Held, state}
use Rattle.sqlite.proofs.Callers.{runs_as, command_of, statement_of, IsPlain}
use Rattle.permit_model.specs.Caller.{Party}
use Rattle.permit_base.specs.declared.words.Edition.TheVariants.{First, Second}
use Rattle.permit_model.specs.Tables.{Desk, FileRow, Tables, edition_by, with_upgrade}
use Rattle.permit_model.proofs.Editions.{first_upto}
use Rattle.permit_sql_rows.specs.Schema.{desk_table, party_table, parcel_table, interest_table, file_table, paper_table, upgrade_table, first_tables, key_indexes}
use Rattle.permit_sql_rows.specs.Schema.{search_indexes, cell_index, applicant_index, contractor_index, reviewer_index, inspector_index, parcel_index}
use Rattle.permit_sql_rows.specs.Schema.{owner_index, interested_index, first_schema, made_order, office_schema, upgrade_tree, IsAmong, IsSecond, empty_schema, table_schema}
use Rattle.permit_sql_rows.specs.Rows.{int, desk_row, upgrade_row, party_row, parcel_row, file_row, shown_party, shown_interest, shown_paper}
use Rattle.permit_sql_rows.specs.Kept.{IsNamed, AreKeyed, AreInTrees, KeepsUnder, Keeps}
use Rattle.permit_sql_statements.specs.Statements.{RanAll}
use Rattle.permit_sql_statements.specs.Founding.{founding_statements, upgrade_statements}
use Rattle.permit_sql_statements.specs.declared.texts.TheConstants.{CREATE_DESK, CREATE_PARTY, CREATE_PARCEL, CREATE_INTEREST, CREATE_FILE, CREATE_PAPER}
use Rattle.permit_sql_statements.specs.declared.texts.TheConstants.{INDEX_CELL, INDEX_APPLICANT, INDEX_CONTRACTOR, INDEX_REVIEWER, INDEX_INSPECTOR}
use Rattle.permit_sql_statements.specs.declared.texts.TheConstants.{INDEX_PARCEL, INDEX_OWNER, INDEX_INTERESTED, CREATE_UPGRADE}
use Rattle.permit_sql_statements.proofs.Permuted.{put_more}
use Rattle.permit_sql_statements.proofs.Writes.{founds_desk, adds_party, adds_upgrade, sets_version}
use Rattle.permit_sql_statements.proofs.Keeping.{Apart, keeps_desk, keeps_upgrade, keeps_parties, keyed_party}
use Rattle.permit_sql_statements.proofs.WriteLemmas.{went, same_value}

-- the text makes this table under this schema
record Makes (s : Schema) (text : List ℕ) (table : Table) : Type 0 where
  command : command_of (understood s text) ≡ CreateTable
  statement : statement_of text (understood s text) ≡ text
  plain : IsPlain (understood s text)
  defines : table_defined_by text ≡ Ok table
  whole : lacks_sequence (created s table) ≡ false

record Made (s : Schema) (table : Table) (old new : Database) : Type 0 where
  schema : new.schema ≡ created s table
  empty : new.trees (next_tree s) ≡ []
  others : KeepsRows s.tables old.trees new.trees

makes : (s : Schema) (text : List ℕ) (table : Table) → Makes s text table → (old new : State) (count : ℕ) → old.now.schema ≡ s →
    Executes text [] old new (Ok count) → Made s table old.now new.now
makes s text table m old new count has h =
    let w = subst (λ t. Writes old new None CreateTable t [] count) m.statement (runs_as text [] old new s has CreateTable m.command m.plain count h) in
    let all = went w.changed in
    let first = went all.1 in
    let made = first.1 in
    let both : ◌≡◌ {A = Result Table Rattle.sqlite_resolve.specs.declared.error.CompileError.CompileError} (Ok made.table) (Ok table) = sym made.defined
    ∙ m.defines in
    let same : made.table ≡ table = same_value both in
    let schema : first.0.schema ≡ created s table = made.is ∙ ap (λ x. created x made.table) has ∙ ap (created s) same in
    let plain : lacks_sequence first.0.schema ≡ false = ap lacks_sequence schema ∙ m.whole in
    let now : new.now ≡ first.0 = ap (λ (p : Tally × Database). p.1) (same_value all.2) ∙ same_value (rw plain at first.2) in
    record {
      schema = ap (λ (d : Database). d.schema) now ∙ schema;
      empty = ap (λ (d : Database). d.trees (next_tree s)) now ∙ subst (λ x. first.0.trees (next_tree x) ≡ []) has made.empty;
      others = subst (λ (d : Database). KeepsRows s.tables old.now.trees d.trees) (sym now)
          (subst (λ x. KeepsRows x.tables old.now.trees first.0.trees) has made.others);
    }

abbrev pub made_1 : Schema
made_1 = created empty_schema desk_table

abbrev pub made_2 : Schema
made_2 = created made_1 (record party_table { tree = 0 })

abbrev pub made_3 : Schema
made_3 = created made_2 (record parcel_table { tree = 0 })

abbrev pub made_4 : Schema
made_4 = created made_3 (record interest_table { tree = 0 })

abbrev pub made_5 : Schema
made_5 = created made_4 (record file_table { tree = 0 })

abbrev pub made_6 : Schema
made_6 = created made_5 (record paper_table { tree = 0 })

makes_desk : Makes empty_schema CREATE_DESK.now desk_table
unfolding understood everything
makes_desk = record { command = refl; statement = refl; plain = (refl, refl); defines = refl; whole = refl }

makes_party : Makes made_1 CREATE_PARTY.now (record party_table { tree = 0 })
unfolding understood everything
makes_party = record { command = refl; statement = refl; plain = (refl, refl); defines = refl; whole = refl }

makes_parcel : Makes made_2 CREATE_PARCEL.now (record parcel_table { tree = 0 })
unfolding understood everything
makes_parcel = record { command = refl; statement = refl; plain = (refl, refl); defines = refl; whole = refl }

makes_interest : Makes made_3 CREATE_INTEREST.now (record interest_table { tree = 0 })
unfolding understood everything
makes_interest = record { command = refl; statement = refl; plain = (refl, refl); defines = refl; whole = refl }

makes_file : Makes made_4 CREATE_FILE.now (record file_table { tree = 0 })
unfolding understood everything
makes_file = record { command = refl; statement = refl; plain = (refl, refl); defines = refl; whole = refl }

makes_paper : Makes made_5 CREATE_PAPER.now (record paper_table { tree = 0 })
unfolding understood everything
makes_paper = record { command = refl; statement = refl; plain = (refl, refl); defines = refl; whole = refl }

six_is : made_6 ≡ table_schema
unfolding understood everything
six_is = refl

abbrev pub AreBlank : List Table → Trees → Type 0
AreBlank tables db = AllByRecursion (λ (t : Table). db t.tree ≡ []) tables

blank_more : (ts : List Table) (t : Table) (old new : Trees) → AreBlank ts old → KeepsRows ts old new → new t.tree ≡ [] → AreBlank (ts ++ t ∷ []) new
blank_more [] t old new blank kept empty = (empty, tt)
blank_more (x ∷ xs) t old new blank kept empty = (kept.0 ∙ blank.0, blank_more xs t old new blank.1 kept.1 empty)

blank_still : (ts : List Table) (old new : Trees) → AreBlank ts old → KeepsRows ts old new → AreBlank ts new
blank_still [] old new blank kept = tt
blank_still (x ∷ xs) old new blank kept = (kept.0 ∙ blank.0, blank_still xs old new blank.1 kept.1)

-- a database that has these tables alone, with no rows
pub record IsBlank (s : Schema) (db : Database) : Type 0 where
  pub schema : db.schema ≡ s
  pub blank : AreBlank s.tables db.trees

more : (s : Schema) (text : List ℕ) (table : Table) → Makes s text table → (old new : State) (count : ℕ) → IsBlank s old.now →
    Executes text [] old new (Ok count) → IsBlank (created s table) new.now
more s text table m old new count was h =
    let it = makes s text table m old new count was.schema h in
    record { schema = it.schema; blank = blank_more s.tables (record table { tree = next_tree s }) old.now.trees new.now.trees was.blank it.others it.empty }

-- ---- the indexes

-- the text makes this index on the table at this place, under this schema, and then it is that one
record Indexes (s : Schema) (text : List ℕ) (at : ℕ) (table : Table) (index : Index) (made : Schema) : Type 0 where
  there : slice_get s.tables at ≡ Some table
  command : command_of (understood s text) ≡ CreateIndex at
  statement : statement_of text (understood s text) ≡ text
  plain : IsPlain (understood s text)
  defines : index_defined_by table text ≡ Ok index
  whole : indexed s table index ≡ made

indexed_more : (s : Schema) (text : List ℕ) (at : ℕ) (table : Table) (index : Index) (made : Schema) → Indexes s text at table index made
    → (old new : State) (count : ℕ) → IsBlank s old.now → Executes text [] old new (Ok count) → IsBlank made new.now
indexed_more s text at table index made m old new count was h =
    let w = subst (λ t. Writes old new None (CreateIndex at) t [] count) m.statement
    (runs_as text [] old new s was.schema (CreateIndex at) m.command m.plain count h) in
    let does = subst (λ x. Does old.step_limit (mode_of old) [] (record old.now { schema = x }) text None (CreateIndex at)
    (Ok (w.tally, new.now))) was.schema w.changed in
    let all = went (subst (λ o. AtPlace (λ t. Defines (mode_of old) (MakesIndex text (record old.now { schema = s }) t)) o
    (Ok (w.tally, new.now))) m.there does) in
    let one = all.1 in
    let both : ◌≡◌ {A = Result Index Rattle.sqlite_resolve.specs.declared.error.CompileError.CompileError} (Ok one.index) (Ok index) = sym one.defined
    ∙ m.defines in
    let schema : all.0.schema ≡ indexed s table index = one.is ∙ ap (indexed s table) (same_value both) in
    let now : new.now ≡ all.0 = ap (λ (p : Tally × Database). p.1) (same_value all.2) in
    let blank : IsBlank (indexed s table index) new.now = record {
      schema = ap (λ (d : Database). d.schema) now ∙ schema;
      blank = subst (λ (d : Database). AreBlank s.tables d.trees) (sym now) (blank_still s.tables old.now.trees all.0.trees was.blank one.rows);
    } in
    subst (λ x. IsBlank x new.now) m.whole blank

-- the tables of version 1 with the first indexes of those that make the selections quick
abbrev with_first : ℕ → Schema
with_first n = record { tables = first_tables; indexes = key_indexes ++ take n search_indexes; views = [] }

indexes_cell : Indexes table_schema INDEX_CELL.now 4 file_table (record cell_index { tree = 0 }) (with_first 1)
unfolding understood everything
indexes_cell = record { there = refl; command = refl; statement = refl; plain = (refl, refl); defines = refl; whole = refl }

indexes_applicant : Indexes (with_first 1) INDEX_APPLICANT.now 4 file_table (record applicant_index { tree = 0 }) (with_first 2)
unfolding understood everything
indexes_applicant = record { there = refl; command = refl; statement = refl; plain = (refl, refl); defines = refl; whole = refl }

indexes_contractor : Indexes (with_first 2) INDEX_CONTRACTOR.now 4 file_table (record contractor_index { tree = 0 }) (with_first 3)
unfolding understood everything
indexes_contractor = record { there = refl; command = refl; statement = refl; plain = (refl, refl); defines = refl; whole = refl }

indexes_reviewer : Indexes (with_first 3) INDEX_REVIEWER.now 4 file_table (record reviewer_index { tree = 0 }) (with_first 4)
unfolding understood everything
indexes_reviewer = record { there = refl; command = refl; statement = refl; plain = (refl, refl); defines = refl; whole = refl }

indexes_inspector : Indexes (with_first 4) INDEX_INSPECTOR.now 4 file_table (record inspector_index { tree = 0 }) (with_first 5)
unfolding understood everything
indexes_inspector = record { there = refl; command = refl; statement = refl; plain = (refl, refl); defines = refl; whole = refl }

indexes_parcel : Indexes (with_first 5) INDEX_PARCEL.now 4 file_table (record parcel_index { tree = 0 }) (with_first 6)
unfolding understood everything
indexes_parcel = record { there = refl; command = refl; statement = refl; plain = (refl, refl); defines = refl; whole = refl }

indexes_owner : Indexes (with_first 6) INDEX_OWNER.now 2 parcel_table (record owner_index { tree = 0 }) (with_first 7)
unfolding understood everything
indexes_owner = record { there = refl; command = refl; statement = refl; plain = (refl, refl); defines = refl; whole = refl }

indexes_interested : Indexes (with_first 7) INDEX_INTERESTED.now 3 interest_table (record interested_index { tree = 0 }) first_schema
unfolding understood everything
indexes_interested = record { there = refl; command = refl; statement = refl; plain = (refl, refl); defines = refl; whole = refl }

-- ---- the table of the upgrade

makes_upgrade : Makes first_schema CREATE_UPGRADE.now (upgrade_table 0)
unfolding understood everything
makes_upgrade = record { command = refl; statement = refl; plain = (refl, refl); defines = refl; whole = refl }

all_is : created first_schema (upgrade_table 0) ≡ office_schema
unfolding understood everything
all_is = refl

-- ---- the founding

-- each search index is one of them
searches_there : AllByRecursion (λ (i : Index). IsAmong i search_indexes) search_indexes
searches_there =
    let first : IsAmong cell_index search_indexes = inl refl in
    let second : IsAmong applicant_index search_indexes = inr (inl refl) in
    let third : IsAmong contractor_index search_indexes = inr (inr (inl refl)) in
    let fourth : IsAmong reviewer_index search_indexes = inr (inr (inr (inl refl))) in
    let fifth : IsAmong inspector_index search_indexes = inr (inr (inr (inr (inl refl)))) in
    let sixth : IsAmong parcel_index search_indexes = inr (inr (inr (inr (inr (inl refl))))) in
    let seventh : IsAmong owner_index search_indexes = inr (inr (inr (inr (inr (inr (inl refl)))))) in
    let eighth : IsAmong interested_index search_indexes = inr (inr (inr (inr (inr (inr (inr (inl refl))))))) in
    (first, (second, (third, (fourth, (fifth, (sixth, (seventh, (eighth, tt))))))))

-- the order in which the tables and indexes are made
abbrev made_second : (s : Schema) → s ≡ office_schema → IsSecond s
made_second s same = record { order = made_order; is = same; apart = omega arith; low = omega arith; are = record { eight = refl; each = searches_there } }

abbrev pub no_rows : Desk → Tables
no_rows d = record { desk = d; upgrade = Some 0; parties = []; parcels = []; interests = []; files = []; papers = [] }

none_keyed : (d : Desk) → d.edition ≡ Second → AreKeyed (no_rows d)
none_keyed d now = record {
  upgraded = omega arith;
  edition = now;
  parties = λ id. omega arith;
  digests = λ d. omega arith;
  parcels = λ id. omega arith;
  lots = λ l. omega arith;
  files = λ id. omega arith;
  named = tt;
  papers = λ f. tt;
  counted = λ f. tt;
}

abbrev founding_desk : ℕ → Desk
founding_desk last = record { edition = Second; last = last; parties = 1; parcels = 0; files = 0 }

desk_founded : (old new : State) (last count : ℕ) → IsBlank office_schema old.now →
    Executes Rattle.permit_sql_statements.specs.declared.texts.TheConstants.FOUND_DESK.now (int last ∷ []) old new (Ok count)
    → (new.now.schema ≡ office_schema)
    × AreInTrees (record (no_rows (founding_desk last)) { upgrade = None }) (upgrade_tree new.now.schema) new.now.trees × (new.now.trees 18 ≡ [])
desk_founded old new last count was h =
    let it = founds_desk made_order old new count was.schema last h in
    let o = it.leaves.others in
    let b = was.blank in
    let e1 : new.now.trees 1 ≡ [] = o.1.0 (λ e. absurd (omega (arith, e))) ∙ b.1.0 in
    let e3 : new.now.trees 3 ≡ [] = o.1.1.0 (λ e. absurd (omega (arith, e))) ∙ b.1.1.0 in
    let e5 : new.now.trees 5 ≡ [] = o.1.1.1.0 (λ e. absurd (omega (arith, e))) ∙ b.1.1.1.0 in
    let e7 : new.now.trees 7 ≡ [] = o.1.1.1.1.0 (λ e. absurd (omega (arith, e))) ∙ b.1.1.1.1.0 in
    let e8 : new.now.trees 8 ≡ [] = o.1.1.1.1.1.0 (λ e. absurd (omega (arith, e))) ∙ b.1.1.1.1.1.0 in (
      it.leaves.schema,
      record {
        upgrade = tt;
        desk = it.row ∙ ap (put_row (desk_row (founding_desk last))) b.0;
        parties = IsPermutation-same _ _ (sym e1);
        parcels = IsPermutation-same _ _ (sym e3);
        interests = IsPermutation-same _ _ (sym (ap (map (drop 1)) e5));
        files = IsPermutation-same _ _ (sym e7);
        papers = IsPermutation-same _ _ (sym (ap (map (drop 1)) e8));
        apart = subst Apart (sym e8) (λ id. omega arith);
      },
      o.1.1.1.1.1.1.0 (λ e. absurd (omega (arith, e))) ∙ b.1.1.1.1.1.1.0,
    )

pub founding_made : {S : Type 0} (g : Ghosts S) (old : Held S) (db : Database) (last : ℕ) (p : Party) → (state g old).now.schema ≡ empty_schema
    → RanAll g (founding_statements (int last ∷ []) (int 0 ∷ []) (shown_party p)) old db →
    Keeps (record (no_rows (founding_desk last)) { parties = p ∷ [] }) db
founding_made g old db last p none ran =
    let s0 = state g (record old { in_transaction = true }) in
    let r1 = ran.ran in
    let r2 = r1.3 in
    let r3 = r2.3 in
    let r4 = r3.3 in
    let r5 = r4.3 in
    let r6 = r5.3 in
    let r7 = r6.3 in
    let r8 = r7.3 in
    let r9 = r8.3 in
    let r10 = r9.3 in
    let r11 = r10.3 in
    let r12 = r11.3 in
    let r13 = r12.3 in
    let r14 = r13.3 in
    let r15 = r14.3 in
    let r16 = r15.3 in
    let r17 = r16.3 in
    let r18 = r17.3 in
    let b0 : IsBlank empty_schema s0.now = record { schema = none; blank = tt } in
    let b1 = more empty_schema CREATE_DESK.now desk_table makes_desk s0 (state g r1.0) r1.1 b0 r1.2 in
    let b2 = more made_1 CREATE_PARTY.now _ makes_party (state g r1.0) (state g r2.0) r2.1 b1 r2.2 in
    let b3 = more made_2 CREATE_PARCEL.now _ makes_parcel (state g r2.0) (state g r3.0) r3.1 b2 r3.2 in
    let b4 = more made_3 CREATE_INTEREST.now _ makes_interest (state g r3.0) (state g r4.0) r4.1 b3 r4.2 in
    let b5 = more made_4 CREATE_FILE.now _ makes_file (state g r4.0) (state g r5.0) r5.1 b4 r5.2 in
    let b6 = more made_5 CREATE_PAPER.now _ makes_paper (state g r5.0) (state g r6.0) r6.1 b5 r6.2 in
    let c0 : IsBlank table_schema (state g r6.0).now = subst (λ s. IsBlank s (state g r6.0).now) six_is b6 in
    let c1 = indexed_more table_schema INDEX_CELL.now 4 file_table (record cell_index { tree = 0 }) (with_first 1) indexes_cell (state g r6.0)
    (state g r7.0) r7.1 c0 r7.2 in
    let c2 = indexed_more (with_first 1) INDEX_APPLICANT.now 4 file_table (record applicant_index { tree = 0 }) (with_first 2) indexes_applicant (state g r7.0)
    (state g r8.0) r8.1 c1 r8.2 in
    let c3 = indexed_more (with_first 2) INDEX_CONTRACTOR.now 4 file_table (record contractor_index { tree = 0 }) (with_first 3) indexes_contractor
    (state g r8.0) (state g r9.0) r9.1 c2 r9.2 in
    let c4 = indexed_more (with_first 3) INDEX_REVIEWER.now 4 file_table (record reviewer_index { tree = 0 }) (with_first 4) indexes_reviewer (state g r9.0)
    (state g r10.0) r10.1 c3 r10.2 in
    let c5 = indexed_more (with_first 4) INDEX_INSPECTOR.now 4 file_table (record inspector_index { tree = 0 }) (with_first 5) indexes_inspector (state g r10.0)
    (state g r11.0) r11.1 c4 r11.2 in
    let c6 = indexed_more (with_first 5) INDEX_PARCEL.now 4 file_table (record parcel_index { tree = 0 }) (with_first 6) indexes_parcel (state g r11.0)
    (state g r12.0) r12.1 c5 r12.2 in
    let c7 = indexed_more (with_first 6) INDEX_OWNER.now 2 parcel_table (record owner_index { tree = 0 }) (with_first 7) indexes_owner (state g r12.0)
    (state g r13.0) r13.1 c6 r13.2 in
    let c8 = indexed_more (with_first 7) INDEX_INTERESTED.now 3 interest_table (record interested_index { tree = 0 }) first_schema indexes_interested
    (state g r13.0) (state g r14.0) r14.1 c7 r14.2 in
    let c9 : IsBlank office_schema (state g r15.0).now = subst (λ s. IsBlank s (state g r15.0).now) all_is
    (more first_schema CREATE_UPGRADE.now _ makes_upgrade (state g r14.0) (state g r15.0) r15.1 c8 r15.2) in
    let desk = desk_founded (state g r15.0) (state g r16.0) last r16.1 c9 r16.2 in
    let t0 = no_rows (founding_desk last) in
    let upgrade = adds_upgrade made_order (state g r16.0) (state g r17.0) r17.1 desk.0 0 r17.2 in
    let upgraded = keeps_upgrade (state g r16.0).now (state g r17.0).now _ (made_second _ desk.0) desk.1 0 upgrade.leaves
    (upgrade.row ∙ ap (put_row (upgrade_row 0)) desk.2) in
    let party = adds_party made_order (state g r17.0) (state g r18.0) r18.1 upgrade.leaves.schema p r18.2 in
    let there = subst (IsPermutation (map party_row (p ∷ []))) (sym party.row)
    (put_more (λ (q : Party). q.id) party_row (λ q. refl) p [] ((state g r17.0).now.trees 1) party.fresh upgraded.parties) in
    let k = keeps_parties (state g r17.0).now (state g r18.0).now t0 (made_second _ upgrade.leaves.schema) upgraded (p ∷ []) party.leaves there in
    let same : db ≡ (state g r18.0).now = ran.is ∙ ap (λ (h : Held _). (state g h).now) r18.3 in
    record {
      schema = made_second db.schema (ap (λ (x : Database). x.schema) same ∙ party.leaves.schema);
      now = refl;
      keyed = keyed_party t0 (none_keyed _ refl) p refl refl;
      rows = subst (λ (x : Database). AreInTrees (record t0 { parties = p ∷ [] }) (upgrade_tree x.schema) x.trees) (sym same) k;
    }

-- ---- the upgrade

-- an edit that makes a table leaves the rows of the tables there
in_trees_still : (t : Tables) (m n : ℕ) (old new : Trees) → t.upgrade ≡ None → KeepsRows first_tables old new → AreInTrees t m old → AreInTrees t n new
in_trees_still t m n old new none kept k = record {
  desk = kept.0 ∙ k.desk;
  upgrade = subst (λ o. IfSome o (λ files. new n ≡ upgrade_row files ∷ [])) (sym none) tt;
  parties = subst (IsPermutation (map party_row t.parties)) (sym kept.1.0) k.parties;
  parcels = subst (IsPermutation (map parcel_row t.parcels)) (sym kept.1.1.0) k.parcels;
  interests = subst (λ r. IsPermutation (map shown_interest t.interests) (map (drop 1) r)) (sym kept.1.1.1.0) k.interests;
  files = subst (IsPermutation (map file_row t.files)) (sym kept.1.1.1.1.0) k.files;
  papers = subst (λ r. IsPermutation (map shown_paper t.papers) (map (drop 1) r)) (sym kept.1.1.1.1.1.0) k.papers;
  apart = subst Apart (sym kept.1.1.1.1.1.0) k.apart;
}

no_upgrade : (o : Option ℕ) → First ≡ edition_by o → o ≡ None
no_upgrade None e = refl
no_upgrade (Some n) e = absurd cc

-- the files up to the count keep the first edition
still_first : (count : ℕ) (fs : List FileRow) → AllByRecursion (λ (f : FileRow). f.id ≤ count) fs → AllByRecursion (λ (f : FileRow). IsNamed None f.id f.state) fs →
    AllByRecursion (λ (f : FileRow). IsNamed (Some count) f.id f.state) fs
still_first count [] low named = tt
still_first count (f ∷ fs) low named = (
  record {
    contractor = named.0.contractor;
    reviewer = named.0.reviewer;
    inspector = named.0.inspector;
    ask = named.0.ask;
    edition = named.0.edition ∙ sym (first_upto count f.id low.0);
  },
  still_first count fs low.1 named.1,
)

-- the statements of an upgrade make of tables of version 1, whose numbers are at most the count of files, those after it
pub upgrade_made : {S : Type 0} (g : Ghosts S) (old : Held S) (db : Database) (t : Tables) → KeepsUnder First t (state g old).now →
    AllByRecursion (λ (f : FileRow). f.id ≤ t.desk.files) t.files → RanAll g (upgrade_statements (int t.desk.files ∷ [])) old db → Keeps (with_upgrade t) db
upgrade_made g old db t k low ran =
    let s0 = state g (record old { in_transaction = true }) in
    let r1 = ran.ran in
    let r2 = r1.3 in
    let r3 = r2.3 in
    let none : t.upgrade ≡ None = no_upgrade t.upgrade (sym k.now ∙ k.keyed.edition) in
    let made = makes first_schema CREATE_UPGRADE.now _ makes_upgrade s0 (state g r1.0) r1.1 k.schema r1.2 in
    let here : (state g r1.0).now.schema ≡ office_schema = made.schema ∙ all_is in
    let rows = in_trees_still t (upgrade_tree s0.now.schema) (upgrade_tree (state g r1.0).now.schema) s0.now.trees (state g r1.0).now.trees none made.others k.rows in
    let upgrade = adds_upgrade made_order (state g r1.0) (state g r2.0) r2.1 here t.desk.files r2.2 in
    let upgraded = keeps_upgrade (state g r1.0).now (state g r2.0).now t (made_second _ here) rows t.desk.files upgrade.leaves
    (upgrade.row ∙ ap (put_row (upgrade_row t.desk.files)) made.empty) in
    let version = sets_version made_order (state g r2.0) (state g r3.0) r3.1 upgrade.leaves.schema t.desk upgraded.desk r3.2 in
    let now = keeps_desk (state g r2.0).now (state g r3.0).now _ (made_second _ upgrade.leaves.schema) upgraded (record t.desk { edition = Second }) version.0 version.1 in
    let same : db ≡ (state g r3.0).now = ran.is ∙ ap (λ (h : Held _). (state g h).now) r3.3 in
    record {
      schema = made_second db.schema (ap (λ (x : Database). x.schema) same ∙ version.0.schema);
      now = refl;
      keyed = record {
        upgraded = omega arith;
        edition = refl;
        parties = k.keyed.parties;
        digests = k.keyed.digests;
        parcels = k.keyed.parcels;
        lots = k.keyed.lots;
        files = k.keyed.files;
        named = still_first t.desk.files t.files low (subst (λ o. AllByRecursion (λ (f : FileRow). IsNamed o f.id f.state) t.files) none k.keyed.named);
        papers = k.keyed.papers;
        counted = k.keyed.counted;
      };
      rows = subst (λ (x : Database). AreInTrees (with_upgrade t) (upgrade_tree x.schema) x.trees) (sym same) now;
    }

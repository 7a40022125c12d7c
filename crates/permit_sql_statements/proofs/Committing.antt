-- A change that fits: what its statements make of the tables is what the change makes of them.
use Rattle.std.proofs.Common.{◌≡◌, ℕ, true, eqb, List, [], ◌∷◌, ◌++◌, map, find, Option, None, Some, refl, sym, ap, subst, ◌∙◌, ◌+◌, ◌≤◌, arith, true≢false}
use Rattle.std.specs.Prelude.{IfSome, is_none}
use Rattle.std.specs.Borrow.{Bor}
use Rattle.std.proofs.lemmas.Bool.{and_parts, eqb-true}
use Rattle.sqlite.specs.declared.types.Value.TheVariants.{Text}
use Rattle.sqlite_trees.specs.declared.store.Store.{Ghosts}
use Rattle.sqlite.specs.Held.{Held, state}
use Rattle.permit_base.specs.declared.words.Role.{Role}
use Rattle.permit_base.specs.declared.words.Edition.{Edition}
use Rattle.permit_base.specs.declared.words.Edition.TheVariants.{First, Second}
use Rattle.permit_model.specs.Codes.{role_code, is_edition}
use Rattle.permit_model.specs.Caller.{Party}
use Rattle.permit_model.specs.Parcels.{Parcel, Interest}
use Rattle.permit_model.specs.Tables.{Desk, State as FileState, FileRow, Tables, edition_numbered}
use Rattle.permit_model.proofs.Editions.{IsWithin, edition_next}
use Rattle.permit_store.specs.Changes.{Fits, changed, suits_row, suits_effect, with_state, closed_by, paper_of, given_to}
use Rattle.permit_store.specs.declared.change.Change.{Change}
use Rattle.permit_store.specs.declared.change.Change.TheVariants.{NewParty, NewParcel, NewOwner, NewInterest, NewFile, NewRow}
use Rattle.permit_store.specs.declared.change.RowEffect.{RowEffect}
use Rattle.permit_store.specs.declared.change.RowEffect.TheVariants as effect
use Rattle.permit_store.specs.declared.change.NewPaper.{NewPaper}
use Rattle.permit_sql_rows.specs.Rows.{int, shown_file, shown_paper, row_params}
use Rattle.permit_sql_rows.specs.Kept.{IsNamed, AreKeyed, Keeps}
use Rattle.permit_sql_statements.specs.declared.texts.TheConstants.{ADD_PARTY, ADD_PARCEL, ADD_INTEREST, ADD_FILE, ADD_PAPER, SET_OWNER, WRITE_FILE}
use Rattle.permit_sql_statements.specs.declared.texts.TheConstants.{CLOSE_NOTICE}
use Rattle.permit_sql_statements.specs.Changing.{Names, NamesRow, change_statements}
use Rattle.permit_sql_statements.specs.Statements.{Ran, desk_statement}
use Rattle.permit_sql_statements.proofs.Commits.{party_made, parcel_made, owner_made, interest_made, file_made, row_made, paper_made, notice_closed}
use Rattle.permit_sql_statements.proofs.Commits.{found_number}
use Rattle.permit_sql_statements.proofs.ReadLemmas.{all_found}

none_is : {A : Type 0} (o : Option A) → is_none o ≡ true → o ≡ None
none_is None e = refl
none_is (Some x) e = absurd (true≢false (sym e))

some_is : {A : Type 0} (o : Option A) → Rattle.std.specs.Prelude.is_some o ≡ true → (x : A) × (o ≡ Some x)
some_is None e = absurd (true≢false (sym e))
some_is (Some x) e = (x, refl)

-- two editions that the test takes for one
edition_is : (a b : Edition) → is_edition a b ≡ true → a ≡ b
edition_is First First e = refl
edition_is First Second e = absurd (true≢false (sym e))
edition_is Second First e = absurd (true≢false (sym e))
edition_is Second Second e = refl

-- what fits of a file's new row
pub record FitsRow (t : Tables) (file : ℕ) (s : FileState) (e : RowEffect) : Type 0 where
  pub row : FileRow
  pub found : find (λ f. eqb f.id file) t.files ≡ Some row
  pub parcel : s.parcel ≡ row.state.parcel
  pub applicant : s.applicant ≡ row.state.applicant
  pub edition : s.edition ≡ row.state.edition
  pub suits : suits_effect t row.state s e ≡ true

fits_row : (t : Tables) (file : ℕ) (s : FileState) (e : RowEffect) (day : ℕ) → Fits t (NewRow file s e) day → FitsRow t file s e
fits_row t file s e day fits = go (find (λ f. eqb f.id file) t.files) refl fits.suits
  where
    go : (o : Option FileRow) → find (λ f. eqb f.id file) t.files ≡ o → suits_row t o s e ≡ true → FitsRow t file s e
    go None is suits = absurd (true≢false (sym suits))
    go (Some row) is suits =
        let first = and_parts _ _ suits in
        let kept = and_parts _ _ first.0 in
        let same = and_parts _ _ kept.0 in
        record {
          row = row;
          found = is;
          parcel = eqb-true _ _ same.0;
          applicant = eqb-true _ _ same.1;
          edition = edition_is _ _ kept.1;
          suits = first.1;
        }

some_so : {X : Type 0} (o : Option X) (x : X) (P : X → Type 0) → o ≡ Some x → IfSome o P → P x
some_so None x P e all = absurd cc
some_so (Some y) x P e all = let same : y ≡ x = cc in subst P same all

-- the number of the file gives also the edition of its new row
still_named : (t : Tables) (k : AreKeyed t) (file : ℕ) (s : FileState) (e : RowEffect) → FitsRow t file s e → Names s → IsNamed t.upgrade file s
still_named t k file s e it names =
    let was = some_so _ it.row (λ (f : FileRow). IsNamed t.upgrade f.id f.state) it.found
    (all_found (λ f. eqb f.id file) (λ f. IsNamed t.upgrade f.id f.state) t.files k.named) in
    let number = found_number (λ (f : FileRow). f.id) file t.files it.row it.found in
    names t.upgrade file (it.edition ∙ was.edition ∙ ap (edition_numbered t.upgrade) number)

-- the next file's number gives the edition in force
next_named : (t : Tables) (k : AreKeyed t) (s : FileState) → s.edition ≡ t.desk.edition → Names s → IsNamed t.upgrade (t.desk.files + 1) s
next_named t k s now names = names t.upgrade (t.desk.files + 1) (now ∙ k.edition ∙ edition_next t.upgrade t.desk.files (within t.upgrade k.upgraded))
  where
    within : (o : Option ℕ) → IfSome o (λ files. files ≤ t.desk.files) → IsWithin o t.desk.files
    within None few = tt
    within (Some files) few = few

more_files : {a b : Desk} (n : ℕ) → a ≡ b → n ≤ b.files → n ≤ a.files
more_files n is low = subst (λ (e : Desk). n ≤ e.files) (sym is) low

module _ {S : Type 0} (g : Ghosts S) (old last : Held S) (t : Tables) (k : Keeps t (state g old).now) (day : ℕ) (d : Desk) where
  pub party_committed : (name : Bor (List ℕ)) (role : Role) (digest : List ℕ) → d ≡ (changed t (NewParty name role digest) day).desk →
      Fits t (NewParty name role digest) day
      → Ran g ((ADD_PARTY.now, int d.parties ∷ Text name.now ∷ int (role_code role) ∷ Text digest ∷ []) ∷ desk_statement d ∷ []) old last →
      Keeps (changed t (NewParty name role digest) day) (state g last).now
  party_committed name role digest is fits ran =
      let new : ℕ → Party = λ id. record { id = id; name = name.now; role = role; digest = digest } in
      subst (λ (e : Desk). Keeps (record t { desk = e; parties = t.parties ++ new e.parties ∷ [] }) (state g last).now) is
      (party_made g old last t k d (more_files _ is (omega arith)) (ap (λ (e : Desk). e.edition) is) (new d.parties) (none_is _ (and_parts _ _ fits.suits).1) ran)

  pub parcel_committed : (lot address : Bor (List ℕ)) (owner : ℕ) → d ≡ (changed t (NewParcel lot address owner) day).desk →
      Fits t (NewParcel lot address owner) day
      → Ran g ((ADD_PARCEL.now, int d.parcels ∷ Text lot.now ∷ Text address.now ∷ int owner ∷ []) ∷ desk_statement d ∷ []) old last →
      Keeps (changed t (NewParcel lot address owner) day) (state g last).now
  parcel_committed lot address owner is fits ran =
      let new : ℕ → Parcel = λ id. record { id = id; lot = lot.now; address = address.now; owner = owner } in
      subst (λ (e : Desk). Keeps (record t { desk = e; parcels = t.parcels ++ new e.parcels ∷ [] }) (state g last).now) is
      (parcel_made g old last t k d (more_files _ is (omega arith)) (ap (λ (e : Desk). e.edition) is) (new d.parcels) (none_is _ (and_parts _ _ (and_parts _ _ fits.suits).0).1) ran)

  pub owner_committed : (parcel owner : ℕ) → d ≡ (changed t (NewOwner parcel owner) day).desk → Fits t (NewOwner parcel owner) day
      → Ran g ((SET_OWNER.now, int parcel ∷ int owner ∷ []) ∷ desk_statement d ∷ []) old last → Keeps (changed t (NewOwner parcel owner) day) (state g last).now
  owner_committed parcel owner is fits ran =
      let found = some_is _ (and_parts _ _ fits.suits).0 in
      subst (λ (e : Desk). Keeps (record t { desk = e; parcels = map (given_to parcel owner) t.parcels }) (state g last).now) is
      (owner_made g old last t k d (more_files _ is (omega arith)) (ap (λ (e : Desk). e.edition) is) parcel owner found.0 found.1 ran)

  pub interest_committed : (parcel party : ℕ) → d ≡ (changed t (NewInterest parcel party) day).desk
      → Ran g ((ADD_INTEREST.now, int parcel ∷ int party ∷ []) ∷ desk_statement d ∷ []) old last → Keeps (changed t (NewInterest parcel party) day) (state g last).now
  interest_committed parcel party is ran =
      let new : Interest = record { parcel = parcel; party = party } in
      subst (λ (e : Desk). Keeps (record t { desk = e; interests = t.interests ++ new ∷ [] }) (state g last).now) is (interest_made g old last t k d (more_files _ is (omega arith)) (ap (λ (e : Desk). e.edition) is) new ran)

  pub file_committed : (s : FileState) (valuation : ℕ) (description : Bor (List ℕ)) → Names s → d ≡ (changed t (NewFile s valuation description) day).desk
      → Fits t (NewFile s valuation description) day
      → Ran g ((ADD_FILE.now, shown_file (record { id = d.files; state = s; valuation = valuation; description = description.now })) ∷ desk_statement d
      ∷ []) old last → Keeps (changed t (NewFile s valuation description) day) (state g last).now
  file_committed s valuation description named is fits ran =
      let now = edition_is _ _ (and_parts _ _ (and_parts _ _ (and_parts _ _ fits.suits).0).0).1 in
      let new : ℕ → FileRow = λ id. record { id = id; state = s; valuation = valuation; description = description.now } in
      subst (λ (e : Desk). Keeps (record t { desk = e; files = t.files ++ new e.files ∷ [] }) (state g last).now) is (file_made g old last t k d (more_files _ is (omega arith)) (ap (λ (e : Desk). e.edition) is) (new d.files)
      (subst (λ n. IsNamed t.upgrade n s) (ap (λ (e : Desk). e.files) (sym is)) (next_named t k.keyed s now named)) ran)

  pub row_committed : (file : ℕ) (s : FileState) → Names s → d ≡ record t.desk { last = day } → Fits t (NewRow file s effect.None) day
      → Ran g ((WRITE_FILE.now, row_params file s) ∷ desk_statement d ∷ []) old last → Keeps (changed t (NewRow file s effect.None) day) (state g last).now
  row_committed file s named is fits ran =
      let it = fits_row t file s effect.None day fits in
      let same = eqb-true _ _ it.suits in
      subst (λ (e : Desk). Keeps (record t { desk = e; files = map (with_state file s) t.files }) (state g last).now) is
      (row_made g old last t k d (more_files _ is (omega arith)) (ap (λ (e : Desk). e.edition) is) file s it.row it.found it.parcel it.applicant (omega (arith, same)) (still_named t k.keyed file s _ it named) ran)

  pub paper_committed : (file : ℕ) (s : FileState) (new : NewPaper) → Names s → d ≡ record t.desk { last = day } →
      Fits t (NewRow file s (effect.Paper new)) day
      → Ran g ((WRITE_FILE.now, row_params file s) ∷ (ADD_PAPER.now, shown_paper (paper_of file s.papers d.last new)) ∷ desk_statement d ∷ []) old last →
      Keeps (changed t (NewRow file s (effect.Paper new)) day) (state g last).now
  paper_committed file s new named is fits ran =
      let it = fits_row t file s (effect.Paper new) day fits in
      let more = eqb-true _ _ (and_parts _ _ (and_parts _ _ it.suits).0).1 in
      subst (λ (e : Desk). Keeps (record t {
        desk = e;
        files = map (with_state file s) t.files;
        papers = t.papers ++ paper_of file s.papers e.last new ∷ [];
      }) (state g last).now) is
      (paper_made g old last t k d (more_files _ is (omega arith)) (ap (λ (e : Desk). e.edition) is) file s it.row (paper_of file s.papers d.last new) it.found it.parcel it.applicant more (still_named t k.keyed file s _ it named) refl refl ran)

  pub notice_committed : (file number : ℕ) (s : FileState) → Names s → d ≡ record t.desk { last = day } →
      Fits t (NewRow file s (effect.NoticeClosed number)) day
      → Ran g ((WRITE_FILE.now, row_params file s) ∷ (CLOSE_NOTICE.now, int file ∷ int number ∷ []) ∷ desk_statement d ∷ []) old last →
      Keeps (changed t (NewRow file s (effect.NoticeClosed number)) day) (state g last).now
  notice_committed file number s named is fits ran =
      let it = fits_row t file s (effect.NoticeClosed number) day fits in
      let same = eqb-true _ _ it.suits in
      subst (λ (e : Desk). Keeps (record t { desk = e; files = map (with_state file s) t.files; papers = map (closed_by file number) t.papers }) (state g last).now) is
      (notice_closed g old last t k d (more_files _ is (omega arith)) (ap (λ (e : Desk). e.edition) is) file number s it.row it.found it.parcel it.applicant (omega (arith, same)) (still_named t k.keyed file s _ it named) ran)

  -- any change that fits
  pub change_made : (change : Change) → NamesRow change → d ≡ (changed t change day).desk → Fits t change day → Ran g (change_statements d change) old last →
      Keeps (changed t change day) (state g last).now
  change_made (NewParty name role digest) named is fits ran = party_committed name role digest is fits ran
  change_made (NewParcel lot address owner) named is fits ran = parcel_committed lot address owner is fits ran
  change_made (NewOwner parcel owner) named is fits ran = owner_committed parcel owner is fits ran
  change_made (NewInterest parcel party) named is fits ran = interest_committed parcel party is ran
  change_made (NewFile s valuation description) named is fits ran = file_committed s valuation description named is fits ran
  change_made (NewRow file s effect.None) named is fits ran = row_committed file s named is fits ran
  change_made (NewRow file s (effect.Paper new)) named is fits ran = paper_committed file s new named is fits ran
  change_made (NewRow file s (effect.NoticeClosed number)) named is fits ran = notice_committed file number s named is fits ran

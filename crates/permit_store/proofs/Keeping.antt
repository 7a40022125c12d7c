-- What is kept after a change keeps the tables with the change.
use Rattle.std.proofs.Common.{◌≡◌, ◌+◌, ℕ, ◌==◌, List, [], ◌∷◌, ◌++◌, length, map, filter, sym, ◌∙◌, ap, length-append}
use Rattle.std.specs.Prelude.{if◌then◌else◌, Bool, ◌&&◌, ◌||◌}
use Rattle.std.specs.List.{list_any}
use Rattle.std.proofs.lemmas.List.Folds.{list_any-append}
use Rattle.std.specs.Borrow.{Bor}
use Rattle.std.proofs.lemmas.List.{length-map, map-append}
use Rattle.permit_base.specs.declared.words.Edition.TheVariants.{Second}
use Rattle.permit_base.specs.declared.words.Role.{Role}
use Rattle.permit_model.specs.Caller.{Party}
use Rattle.permit_model.specs.Parcels.{Parcel, Interest}
use Rattle.permit_model.specs.Tables.{State, Desk, FileRow, Tables}
use Rattle.permit_store.specs.Changes.{changed, given_to, with_state, papers_after}
use Rattle.permit_store.specs.Plain.{KeptFile, papers_at, Keeps}
use Rattle.permit_store.specs.declared.change.Change.TheVariants.{NewParty, NewParcel, NewOwner, NewInterest, NewFile, NewRow}
use Rattle.permit_store.specs.declared.change.RowEffect.{RowEffect}
use Rattle.permit_store.proofs.Kept.{papers_pushed, papers_filtered}

-- a party more
pub keeps_party : (upgrade last day : ℕ) (parties later : List Party) (parcels : List Parcel) (interests : List Interest) (files : List KeptFile) (t : Tables)
    (name : Bor (List ℕ)) (role : Role) (digest : List ℕ) →
    later ≡ parties ++ (record { id = length parties + 1; name = name.now; role = role; digest = digest }) ∷ [] →
    Keeps upgrade last parties parcels interests files t → Keeps upgrade day later parcels interests files (changed t (NewParty name role digest) day)
keeps_party upgrade last day parties later parcels interests files t name role digest e k =
    let new : ℕ → Party = λ n. record { id = n + 1; name = name.now; role = role; digest = digest } in
    let more : length parties + 1 ≡ length later = sym (length-append parties (new (length parties) ∷ [])) ∙ ap length (sym e) in
    record {
      desk = ap (λ (d : Desk). record d { last = day; parties = d.parties + 1 }) k.desk
          ∙ ap (λ n. record { edition = Second; last = day; parties = n; parcels = length parcels; files = length files }) more;
      upgrade = k.upgrade;
      parties = ap (λ ps. ps ++ new t.desk.parties ∷ []) k.parties ∙ ap (λ (d : Desk). parties ++ new d.parties ∷ []) k.desk ∙ sym e;
      parcels = k.parcels;
      interests = k.interests;
      files = k.files;
      papers = k.papers;
    }

-- a parcel more
pub keeps_parcel : (upgrade last day : ℕ) (parties : List Party) (parcels later : List Parcel) (interests : List Interest) (files : List KeptFile) (t : Tables)
    (lot address : Bor (List ℕ)) (owner : ℕ) →
    later ≡ parcels ++ (record { id = length parcels + 1; lot = lot.now; address = address.now; owner = owner }) ∷ [] →
    Keeps upgrade last parties parcels interests files t → Keeps upgrade day parties later interests files (changed t (NewParcel lot address owner) day)
keeps_parcel upgrade last day parties parcels later interests files t lot address owner e k =
    let new : ℕ → Parcel = λ n. record { id = n + 1; lot = lot.now; address = address.now; owner = owner } in
    let more : length parcels + 1 ≡ length later = sym (length-append parcels (new (length parcels) ∷ [])) ∙ ap length (sym e) in
    record {
      desk = ap (λ (d : Desk). record d { last = day; parcels = d.parcels + 1 }) k.desk
          ∙ ap (λ n. record { edition = Second; last = day; parties = length parties; parcels = n; files = length files }) more;
      upgrade = k.upgrade;
      parties = k.parties;
      parcels = ap (λ ps. ps ++ new t.desk.parcels ∷ []) k.parcels ∙ ap (λ (d : Desk). parcels ++ new d.parcels ∷ []) k.desk ∙ sym e;
      interests = k.interests;
      files = k.files;
      papers = k.papers;
    }

-- another owner of a parcel
pub keeps_owner : (upgrade last day : ℕ) (parties : List Party) (parcels later : List Parcel) (interests : List Interest) (files : List KeptFile) (t : Tables)
    (parcel owner : ℕ) →
    later ≡ map (given_to parcel owner) parcels →
    Keeps upgrade last parties parcels interests files t → Keeps upgrade day parties later interests files (changed t (NewOwner parcel owner) day)
keeps_owner upgrade last day parties parcels later interests files t parcel owner e k =
    let same : length parcels ≡ length later = sym (length-map parcels (given_to parcel owner)) ∙ ap length (sym e) in
    record {
      desk = ap (λ (d : Desk). record d { last = day }) k.desk ∙ ap (λ n. record {
        edition = Second;
        last = day;
        parties = length parties;
        parcels = n;
        files = length files;
      }) same;
      upgrade = k.upgrade;
      parties = k.parties;
      parcels = ap (map (given_to parcel owner)) k.parcels ∙ sym e;
      interests = k.interests;
      files = k.files;
      papers = k.papers;
    }

-- an interest more
pub keeps_interest : (upgrade last day : ℕ) (parties : List Party) (parcels : List Parcel) (interests later : List Interest) (files : List KeptFile)
    (t : Tables)
    (parcel party : ℕ) →
    later ≡ interests ++ (record { parcel = parcel; party = party }) ∷ [] →
    Keeps upgrade last parties parcels interests files t → Keeps upgrade day parties parcels later files (changed t (NewInterest parcel party) day)
keeps_interest upgrade last day parties parcels interests later files t parcel party e k = record {
  desk = ap (λ (d : Desk). record d { last = day }) k.desk;
  upgrade = k.upgrade;
  parties = k.parties;
  parcels = k.parcels;
  interests = λ a b.
      let p : Interest → Bool = λ i. (i.parcel == a) && (i.party == b) in
      let new : List Interest = record { parcel = parcel; party = party } ∷ [] in
      list_any-append p t.interests new ∙ ap (λ x. x || list_any p new) (k.interests a b) ∙ sym (list_any-append p interests new) ∙ ap (list_any p) (sym e);
  files = k.files;
  papers = k.papers;
}

-- a file more, with no papers
pub keeps_file : (upgrade last day : ℕ) (parties : List Party) (parcels : List Parcel) (interests : List Interest) (files later : List KeptFile) (t : Tables)
    (state : State) (valuation : ℕ) (description : Bor (List ℕ)) →
    later ≡ files ++ (record { row = record { id = length files + 1; state = state; valuation = valuation; description = description.now }; papers = [] })
    ∷ [] →
    Keeps upgrade last parties parcels interests files t →
    Keeps upgrade day parties parcels interests later (changed t (NewFile state valuation description) day)
keeps_file upgrade last day parties parcels interests files later t state valuation description e k =
    let new : ℕ → FileRow = λ n. record { id = n + 1; state = state; valuation = valuation; description = description.now } in
    let kept : KeptFile = record { row = new (length files); papers = [] } in
    let more : length files + 1 ≡ length later = sym (length-append files (kept ∷ [])) ∙ ap length (sym e) in
    record {
      desk = ap (λ (d : Desk). record d { last = day; files = d.files + 1 }) k.desk
          ∙ ap (λ n. record { edition = Second; last = day; parties = length parties; parcels = length parcels; files = n }) more;
      upgrade = k.upgrade;
      parties = k.parties;
      parcels = k.parcels;
      interests = k.interests;
      files = ap (λ fs. fs ++ new t.desk.files ∷ []) k.files ∙ ap (λ (d : Desk). map (λ k. k.row) files ++ new d.files ∷ []) k.desk
          ∙ sym (map-append (λ (k : KeptFile). k.row) files (kept ∷ [])) ∙ ap (map (λ k. k.row)) (sym e);
      papers = λ f. k.papers f ∙ sym (papers_pushed f (new (length files)) files) ∙ ap (papers_at f) (sym e);
    }

-- a file's new row
pub keeps_row : (upgrade last day : ℕ) (parties : List Party) (parcels : List Parcel) (interests : List Interest) (files later : List KeptFile)
    (t : Tables) (file : ℕ)
    (state : State) (effect : RowEffect) →
    map (λ k. k.row) later ≡ map (with_state file state) (map (λ k. k.row) files) →
    ((f : ℕ) → papers_at f later ≡ (if file == f then papers_after file state.papers day effect (papers_at file files) else papers_at f files)) →
    length later ≡ length files →
    Keeps upgrade last parties parcels interests files t → Keeps upgrade day parties parcels interests later (changed t (NewRow file state effect) day)
keeps_row upgrade last day parties parcels interests files later t file state effect rows papers count k = record {
  desk = ap (λ (d : Desk). record d { last = day }) k.desk
      ∙ ap (λ n. record { edition = Second; last = day; parties = length parties; parcels = length parcels; files = n })
      (sym count);
  upgrade = k.upgrade;
  parties = k.parties;
  parcels = k.parcels;
  interests = k.interests;
  files = ap (map (with_state file state)) k.files ∙ sym rows;
  papers = λ f. papers_filtered file f state.papers day effect t.papers
      ∙ ap (λ ps. if file == f then papers_after file state.papers day effect ps else filter (λ p. p.file == f) t.papers) (k.papers file)
      ∙ ap (λ ps. if file == f then papers_after file state.papers day effect (papers_at file files) else ps) (k.papers f)
      ∙ sym (papers f);
}

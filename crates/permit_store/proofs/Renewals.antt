-- A renewal leaves all that is read off a history, but for the digest of one party.
use Rattle.std.proofs.Common.{◌≡◌, ℕ, ◌==◌, Bool, true, false, cond, List, [], ◌∷◌, ◌++◌, map, length, refl, ap, ap₂, ◌∙◌}
use Rattle.std.specs.Prelude.{Option, None, Some, option_map, unwrap_or, find, is_some}
use Rattle.std.specs.List.{cons_option, filter_map}
use Rattle.std.specs.Option.{option_or}
use Rattle.std.proofs.lemmas.List.{length-map}
use Rattle.permit_base.specs.declared.words.Role.{Role}
use Rattle.permit_base.specs.declared.words.Role.TheVariants.{Official}
use Rattle.permit_base.specs.declared.request.Request.TheVariants.{AddParty, OnFile}
use Rattle.permit_base.specs.Digests.{digest_of}
use Rattle.permit_model.specs.Search.{latest, add_last, in_order}
use Rattle.permit_model.specs.Codes.{is_role}
use Rattle.permit_model.specs.History.{Deed, Founding, Upgrade, Accepted, Entry, History, edition_after, edition, last_day}
use Rattle.permit_model.specs.Caller.{Party, party_by, party_made, parties, party_numbered, is_party, has_role}
use Rattle.permit_model.specs.Parcels.{Parcel, parcel_by, parcel_added, receiver_by, parcel_now, parcels, interest_by, interests}
use Rattle.permit_model.specs.Files.{Filing, filing_by, command_by, act_of, act_on, acts_on, case_file, filings, case_files, case_numbered}
use Rattle.permit_model.specs.Work.{open_notices}
use Rattle.permit_model.specs.Tables.{file_row, paper_by, paper_of_deed, papers_made, files_at, files_at_upgrade, desk_of, tables}
use Rattle.permit_model.specs.Renewal.{with_token, renewed_deed, renewed_entry, renewed, with_digest, with_renewed}
use Rattle.permit_model.proofs.Lists.{find_mapped}

-- ---- lists of which each item gives the same

in_order_alike : {A B : Type 0} (tell : A → Option B) (f : A → A) → ((x : A) → tell (f x) ≡ tell x) → (xs : List A) →
    in_order tell (map f xs) ≡ in_order tell xs
in_order_alike tell f same [] = refl
in_order_alike tell f same (x ∷ xs) = ap₂ add_last (in_order_alike tell f same xs) (same x)

latest_alike : {A B : Type 0} (tell : A → Option B) (f : A → A) → ((x : A) → tell (f x) ≡ tell x) → (xs : List A) →
    latest tell (map f xs) ≡ latest tell xs
latest_alike tell f same [] = refl
latest_alike tell f same (x ∷ xs) = ap₂ option_or (same x) (latest_alike tell f same xs)

filter_map_alike : {A B : Type 0} (tell : A → Option B) (f : A → A) → ((x : A) → tell (f x) ≡ tell x) → (xs : List A) →
    filter_map tell (map f xs) ≡ filter_map tell xs
filter_map_alike tell f same [] = refl
filter_map_alike tell f same (x ∷ xs) = ap₂ cons_option (same x) (filter_map_alike tell f same xs)

map_alike : {A B : Type 0} (f g : A → B) → ((x : A) → f x ≡ g x) → (xs : List A) → map f xs ≡ map g xs
map_alike f g same [] = refl
map_alike f g same (x ∷ xs) = ap₂ ◌∷◌ (same x) (map_alike f g same xs)

option_map_alike : {A B : Type 0} (f g : A → B) → ((x : A) → f x ≡ g x) → (o : Option A) → option_map f o ≡ option_map g o
option_map_alike f g same None = refl
option_map_alike f g same (Some x) = ap Some (same x)

last_mapped : {A B : Type 0} (g : A → B) (xs : List A) (o : Option A) → add_last (map g xs) (option_map g o) ≡ map g (add_last xs o)
last_mapped g xs None = refl
last_mapped {A} g xs (Some x) = more xs
  where
    more : (ys : List A) → map g ys ++ g x ∷ [] ≡ map g (ys ++ x ∷ [])
    more [] = refl
    more (y ∷ ys) = ap (λ l. g y ∷ l) (more ys)

in_order_mapped : {A B : Type 0} (tell : A → Option B) (f : A → A) (g : B → B) → ((x : A) → tell (f x) ≡ option_map g (tell x)) → (xs : List A) →
    in_order tell (map f xs) ≡ map g (in_order tell xs)
in_order_mapped tell f g same [] = refl
in_order_mapped tell f g same (x ∷ xs) = ap₂ add_last (in_order_mapped tell f g same xs) (same x) ∙ last_mapped g (in_order tell xs) (tell x)

pub some_mapped : {A B : Type 0} (f : A → B) (o : Option A) → is_some (option_map f o) ≡ is_some o
some_mapped f None = refl
some_mapped f (Some x) = refl

-- ---- parties of which one has another digest

module _ (party : ℕ) (digest : List ℕ) where
  number_by : (p : Party) (b : Bool) → (cond b (record p { digest = digest }) p).id ≡ p.id
  number_by p true = refl
  number_by p false = refl

  pub number_alike : (p : Party) → (with_digest party digest p).id ≡ p.id
  number_alike p = number_by p (p.id == party)

  role_by : (p : Party) (b : Bool) → (cond b (record p { digest = digest }) p).role ≡ p.role
  role_by p true = refl
  role_by p false = refl

  pub role_alike : (role : Role) (o : Option Party) → has_role role (option_map (with_digest party digest) o) ≡ has_role role o
  role_alike role None = refl
  role_alike role (Some p) = ap (is_role role) (role_by p (p.id == party))

  pub found_alike : (ps : List Party) (id : ℕ) →
      find (λ (p : Party). p.id == id) (map (with_digest party digest) ps) ≡ option_map (with_digest party digest) (find (λ (p : Party). p.id == id) ps)
  found_alike ps id = find_mapped (with_digest party digest) (λ (p : Party). p.id == id) (λ (p : Party). p.id == id) (λ p. ap (λ n. n == id) (number_alike p)) ps

module _ (party : ℕ) (token : List ℕ) where
  -- ---- what a deed says whatever its token is

  pub told_by : {A : Type 0} (F : Deed → A) (deed : Deed) (b : Bool) → F (with_token token deed) ≡ F deed → F (cond b (with_token token deed) deed) ≡ F deed
  told_by F deed true same = same
  told_by F deed false same = refl

  abbrev Tells : {A : Type 0} → (Deed → A) → Type 0
  Tells F = ((name a b : List ℕ) → F (Founding name a) ≡ F (Founding name b))
      × ((name : List ℕ) (role : Role) (a b : List ℕ) → F (Accepted (AddParty name role a)) ≡ F (Accepted (AddParty name role b)))

  with_other : {A : Type 0} (F : Deed → A) → Tells F → (deed : Deed) → F (with_token token deed) ≡ F deed
  with_other F tells (Founding name digest) = tells.0 name (digest_of token) digest
  with_other F tells (Accepted (AddParty name role before)) = tells.1 name role token before
  with_other F tells Upgrade = refl
  with_other F tells (Accepted request) = refl

  pub told : {A : Type 0} (F : Deed → A) → Tells F → (deed : Deed) (number : Option ℕ) → F (renewed_deed party token deed number) ≡ F deed
  told F tells deed None = refl
  told F tells deed (Some id) = told_by F deed (id == party) (with_other F tells deed)

  -- ---- the parcels, the files and the papers

  pub edition_alike : (h : History) → edition (renewed party token h) ≡ edition h
  edition_alike [] = refl
  edition_alike (e ∷ h) =
      told (λ d. edition_after d (edition (renewed party token h))) (λ name a b. refl, λ name role a b. refl) e.deed e.number
      ∙ ap (edition_after e.deed) (edition_alike h)

  pub last_day_alike : (h : History) → last_day (renewed party token h) ≡ last_day h
  last_day_alike [] = refl
  last_day_alike (e ∷ h) = refl

  pub filings_alike : (h : History) → filings (renewed party token h) ≡ filings h
  filings_alike [] = refl
  filings_alike (e ∷ h) =
      ap₂ add_last (filings_alike h)
      (told (λ d. filing_by (edition (renewed party token h)) d e.number e.caller e.day) (λ name a b. refl, λ name role a b. refl) e.deed e.number
      ∙ ap (λ now. filing_by now e.deed e.number e.caller e.day) (edition_alike h))

  pub acts_alike : (id : ℕ) (h : History) → acts_on id (renewed party token h) ≡ acts_on id h
  acts_alike id h =
      filter_map_alike (act_on id) (renewed_entry party token)
      (λ e. told (λ d. option_map (act_of e) (command_by id d)) (λ name a b. refl, λ name role a b. refl) e.deed e.number) h

  pub case_file_alike : (h : History) (f : Filing) → case_file (renewed party token h) f ≡ case_file h f
  case_file_alike h f = ap (λ acts. record { filing = f; acts = acts }) (acts_alike f.id h)

  pub case_files_alike : (h : History) → case_files (renewed party token h) ≡ case_files h
  case_files_alike h =
      ap (map (case_file (renewed party token h))) (filings_alike h)
      ∙ map_alike (case_file (renewed party token h)) (case_file h) (case_file_alike h) (filings h)

  pub case_numbered_alike : (h : History) (id : ℕ) → case_numbered (renewed party token h) id ≡ case_numbered h id
  case_numbered_alike h id =
      ap (λ fs. option_map (case_file (renewed party token h)) (find (λ (f : Filing). f.id == id) fs)) (filings_alike h)
      ∙ option_map_alike (case_file (renewed party token h)) (case_file h) (case_file_alike h) (find (λ (f : Filing). f.id == id) (filings h))

  parcel_alike : (h : History) (p : Parcel) → parcel_now (renewed party token h) p ≡ parcel_now h p
  parcel_alike h p =
      ap (λ to. record p { owner = unwrap_or to p.owner })
      (latest_alike (λ (e : Entry). receiver_by p.id e.deed) (renewed_entry party token)
      (λ e. told (receiver_by p.id) (λ name a b. refl, λ name role a b. refl) e.deed e.number) h)

  pub parcels_alike : (h : History) → parcels (renewed party token h) ≡ parcels h
  parcels_alike h =
      ap (map (parcel_now (renewed party token h))) (in_order_alike parcel_added (renewed_entry party token)
      (λ e. told (λ d. parcel_by d e.number) (λ name a b. refl, λ name role a b. refl) e.deed e.number) h)
      ∙ map_alike (parcel_now (renewed party token h)) (parcel_now h) (parcel_alike h) (in_order parcel_added h)

  pub interests_alike : (h : History) → interests (renewed party token h) ≡ interests h
  interests_alike h =
      in_order_alike (λ (e : Entry). interest_by e.deed e.caller) (renewed_entry party token)
      (λ e. told (λ d. interest_by d e.caller) (λ name a b. refl, λ name role a b. refl) e.deed e.number) h

  pub upgrade_alike : (h : History) → files_at_upgrade (renewed party token h) ≡ files_at_upgrade h
  upgrade_alike [] = refl
  upgrade_alike (e ∷ h) =
      told (λ d. files_at d (length (filings (renewed party token h))) (files_at_upgrade (renewed party token h)))
      (λ name a b. refl, λ name role a b. refl) e.deed e.number
      ∙ ap₂ (files_at e.deed) (ap length (filings_alike h)) (upgrade_alike h)

  -- the paper of a deed, by another entry of the same caller, day and number
  paper_still : (now h : History) (caller day : ℕ) (other deed : Deed) (number : Option ℕ) →
      paper_of_deed (renewed party token now) (record { caller = caller; day = day; deed = other; number = number }) deed (renewed party token h)
      ≡ paper_of_deed now (record { caller = caller; day = day; deed = deed; number = number }) deed h
  paper_still now h caller day other (Accepted (OnFile file command)) number =
      ap₂ (λ mine before. paper_by file (open_notices mine) (record { caller = caller; day = day; command = command; number = number }) before)
      (acts_alike file now) (acts_alike file h)
  paper_still now h caller day other (Founding name digest) number = refl
  paper_still now h caller day other Upgrade number = refl
  paper_still now h caller day other (Accepted request) number = refl

  pub papers_alike : (now h : History) → papers_made (renewed party token now) (renewed party token h) ≡ papers_made now h
  papers_alike now [] = refl
  papers_alike now (e ∷ h) =
      ap₂ add_last (papers_alike now h)
      (told (λ d. paper_of_deed (renewed party token now) (renewed_entry party token e) d (renewed party token h))
      (λ name a b. refl, λ name role a b. refl) e.deed e.number
      ∙ paper_still now h e.caller e.day (renewed_deed party token e.deed e.number) e.deed e.number)

  -- ---- the parties

  abbrev digest : List ℕ
  digest = digest_of token

  founder_by : (name before : List ℕ) (id : ℕ) (b : Bool) → (id == party) ≡ b →
      party_by (cond b (Founding name digest) (Founding name before)) (Some id)
      ≡ Some (cond b (record { id = id; name = name; role = Official; digest = digest }) (record { id = id; name = name; role = Official; digest = before }))
  founder_by name before id true e = refl
  founder_by name before id false e = refl

  added_by : (name before : List ℕ) (role : Role) (id : ℕ) (b : Bool) → (id == party) ≡ b →
      party_by (cond b (Accepted (AddParty name role token)) (Accepted (AddParty name role before))) (Some id)
      ≡ Some (cond b (record { id = id; name = name; role = role; digest = digest }) (record { id = id; name = name; role = role; digest = digest_of before }))
  added_by name before role id true e = refl
  added_by name before role id false e = refl

  party_renewed : (deed : Deed) (number : Option ℕ) →
      party_by (renewed_deed party token deed number) number ≡ option_map (with_digest party digest) (party_by deed number)
  party_renewed (Founding name before) None = refl
  party_renewed (Founding name before) (Some id) = founder_by name before id (id == party) refl
  party_renewed Upgrade None = refl
  party_renewed Upgrade (Some id) = told_by (λ d. party_by d (Some id)) Upgrade (id == party) refl
  party_renewed (Accepted (AddParty name role before)) None = refl
  party_renewed (Accepted (AddParty name role before)) (Some id) = added_by name before role id (id == party) refl
  party_renewed (Accepted request) None = refl
  party_renewed (Accepted request) (Some id) = told_by (λ d. party_by d (Some id)) (Accepted request) (id == party) refl

  -- the parties are the same, but for the digest of the one with the number
  pub parties_renewed : (h : History) → parties (renewed party token h) ≡ map (with_digest party digest) (parties h)
  parties_renewed h = in_order_mapped party_made (renewed_entry party token) (with_digest party digest) (λ e. party_renewed e.deed e.number) h

  pub length_alike : (h : History) → length (parties (renewed party token h)) ≡ length (parties h)
  length_alike h = ap length (parties_renewed h) ∙ length-map (parties h) (with_digest party digest)

  numbered_alike : (h : History) (id : ℕ) → party_numbered (renewed party token h) id ≡ option_map (with_digest party digest) (party_numbered h id)
  numbered_alike h id =
      ap (find (λ (p : Party). p.id == id)) (parties_renewed h) ∙ found_alike party digest (parties h) id

  pub is_party_alike : (h : History) (id : ℕ) → is_party (renewed party token h) id ≡ is_party h id
  is_party_alike h id = ap is_some (numbered_alike h id) ∙ some_mapped (with_digest party digest) (party_numbered h id)

  pub has_role_alike : (h : History) (role : Role) (id : ℕ) →
      has_role role (party_numbered (renewed party token h) id) ≡ has_role role (party_numbered h id)
  has_role_alike h role id = ap (has_role role) (numbered_alike h id) ∙ role_alike party digest role (party_numbered h id)

  -- ---- the tables

  pub desk_alike : (h : History) → desk_of (renewed party token h) ≡ desk_of h
  desk_alike h =
      ap₂ (λ now last. record {
        edition = now;
        last = last;
        parties = length (parties (renewed party token h));
        parcels = length (parcels (renewed party token h));
        files = length (case_files (renewed party token h));
      }) (edition_alike h) (last_day_alike h)
      ∙ ap₂ (λ many lots. record {
        edition = edition h;
        last = last_day h;
        parties = many;
        parcels = length lots;
        files = length (case_files (renewed party token h));
      }) (length_alike h) (parcels_alike h)
      ∙ ap (λ files. record { edition = edition h; last = last_day h; parties = length (parties h); parcels = length (parcels h); files = length files })
      (case_files_alike h)

  pub tables_renewed : (h : History) → tables (renewed party token h) ≡ with_renewed party digest (tables h)
  tables_renewed h =
      let r = renewed party token h in
      ap₂ (λ desk upgrade. record (tables r) { desk = desk; upgrade = upgrade }) (desk_alike h) (upgrade_alike h)
      ∙ ap₂ (λ people lots. record (tables r) { desk = desk_of h; upgrade = files_at_upgrade h; parties = people; parcels = lots })
      (parties_renewed h) (parcels_alike h)
      ∙ ap₂ (λ declared files. record (with_renewed party digest (tables h)) { interests = declared; files = map file_row files; papers = papers_made r r })
      (interests_alike h) (case_files_alike h)
      ∙ ap (λ papers. record (with_renewed party digest (tables h)) { papers = papers }) (papers_alike h h)

-- Parties, parcels, files and the papers of a file are numbered by their places, and nothing is said of one that isn't there.
use Rattle.std.proofs.Common.{◌≡◌, ◌<◌, ◌+◌, ℕ, ◌==◌, Bool, false, cond, List, [], ◌∷◌, ◌++◌, length, refl, sym, ◌∙◌, ap, subst, arith, length-append}
use Rattle.std.specs.Prelude.{Option, None, Some, is_some, find, option_map, slice_get, IsTrue, if◌then◌else◌}
use Rattle.std.proofs.lemmas.Bool.{eqb-true}
use Rattle.std.proofs.lemmas.List.{length-map}
use Rattle.permit_base.specs.declared.request.Request.TheVariants.{AddParcel, Transfer}
use Rattle.permit_model.specs.Search.{in_order, add_last, latest, when}
use Rattle.permit_model.specs.History.{Deed, Founding, Upgrade, Accepted, Entry, History}
use Rattle.permit_model.specs.Parcels.{Parcel, parcel_added, parcel_now, parcels, parcel_numbered, receiver_by}
use Rattle.permit_model.specs.Files.{Filing, filings}
use Rattle.permit_model.specs.Machine.{MayFollow, IsFounding, IsHistory}
use Rattle.permit_model.proofs.Lists.{find_mapped, numbered_last, numbered_mapped, found_at, all_at, slice_get_mapped}
use Rattle.permit_model.specs.Numbering.{IsNumbered}
use Rattle.permit_model.specs.Caller.{Party, parties, party_numbered}
use Rattle.permit_model.specs.Files.{Act, CaseFile, case_file, case_files, case_numbered}
use Rattle.permit_model.specs.Work.{open_notices, paper_sort, paper_count}
use Rattle.permit_model.specs.Tables.{Paper, paper_by, papers_of}
use Rattle.permit_model.proofs.Papers.{papers_from, papers_of-case}
use Rattle.permit_model.proofs.Appending.{AreNumbered}
use Rattle.permit_model.proofs.Projection.{done_to}
use Rattle.permit_model.proofs.Fronts.{are_numbered}
use Rattle.permit_base.specs.declared.words.PaperSort.{PaperSort}
use Rattle.std.specs.List.{All}
use Rattle.std.specs.Option.{option_or}

find_none_by : {A : Type 0} (x : A) (rest more : Option A) (b : Bool) → cond b (Some x) rest ≡ None → (rest ≡ None → more ≡ None) → cond b (Some x) more ≡ None
find_none_by x rest more b none ih = grind arith

pub find_none_last : {A : Type 0} (p : A → Bool) (xs : List A) (y : A) → find p xs ≡ None → p y ≡ false → find p (xs ++ y ∷ []) ≡ None
find_none_last p [] y none e = rw e refl
find_none_last p (x ∷ xs) y none e = find_none_by x (find p xs) (find p (xs ++ y ∷ [])) (p x) none (λ n. find_none_last p xs y n e)

pub find_none_front : {A : Type 0} (p : A → Bool) (xs ys : List A) → find p (xs ++ ys) ≡ None → find p xs ≡ None
find_none_front p [] ys none = refl
find_none_front p (x ∷ xs) ys none = find_none_by x (find p (xs ++ ys)) (find p xs) (p x) none (find_none_front p xs ys)

other_number : (n id : ℕ) → n < id → (n == id) ≡ false
other_number n id below = grind arith

pub number_is : (n m : ℕ) → Some n ≡ Some m → n ≡ m
number_is n m e = cc

-- ---- parcels

below_parcel : (h : History) (id : ℕ) (number : Option ℕ) (new : ℕ → Parcel) → ((n : ℕ) → (new n).id ≡ n) → number ≡ Some (length (parcels h) + 1) →
    length (add_last (in_order parcel_added h) (option_map new number)) < id →
    ((k : ℕ) → length (in_order parcel_added h) < k → find (λ (p : Parcel). p.id == k) (in_order parcel_added h) ≡ None) →
    find (λ (p : Parcel). p.id == id) (add_last (in_order parcel_added h) (option_map new number)) ≡ None
below_parcel h id number new named numbered above ih = grind (arith, length-append, number_is, length-map, find_none_last, other_number)

below_deed : (h : History) (id caller day : ℕ) (deed : Deed) (number : Option ℕ) →
    MayFollow h (record { caller = caller; day = day; deed = deed; number = number }) deed →
    length (in_order parcel_added (record { caller = caller; day = day; deed = deed; number = number } ∷ h)) < id →
    ((k : ℕ) → length (in_order parcel_added h) < k → find (λ (p : Parcel). p.id == k) (in_order parcel_added h) ≡ None) →
    find (λ (p : Parcel). p.id == id) (in_order parcel_added (record { caller = caller; day = day; deed = deed; number = number } ∷ h)) ≡ None
below_deed h id caller day (Founding name digest) number may above ih = absurd may
below_deed h id caller day Upgrade number may above ih = ih id above
below_deed h id caller day (Accepted (AddParcel lot address owner)) None may above ih = ih id above
below_deed h id caller day (Accepted (AddParcel lot address owner)) (Some n) may above ih =
    below_parcel h id (Some n) (λ k. record { id = k; lot = lot; address = address; owner = owner }) (λ k. refl) may.numbered above ih
below_deed h id caller day (Accepted request) number may above ih = ih id above

below_first : (id caller day : ℕ) (deed : Deed) (number : Option ℕ) → IsFounding (record { caller = caller; day = day; deed = deed; number = number }) deed →
    find (λ (p : Parcel). p.id == id) (in_order parcel_added (record { caller = caller; day = day; deed = deed; number = number } ∷ [])) ≡ None
below_first id caller day deed number is = grind arith

-- no parcel has a number above their count
pub parcels_below : (h : History) → IsHistory h → (id : ℕ) → length (in_order parcel_added h) < id →
    find (λ (p : Parcel). p.id == id) (in_order parcel_added h) ≡ None
parcels_below [] is id above = refl
parcels_below (entry ∷ []) is id above = below_first id entry.caller entry.day entry.deed entry.number is
parcels_below (entry ∷ last ∷ before) is id above = below_deed (last ∷ before) id entry.caller entry.day entry.deed entry.number is.0 above
    (parcels_below (last ∷ before) is.1)

-- a parcel that isn't there now wasn't added
not_there : (h : History) (id : ℕ) → find (λ (p : Parcel). p.id == id) (in_order parcel_added h) ≡ None → parcel_numbered h id ≡ None
not_there h id none = find_mapped (parcel_now h) (λ (p : Parcel). p.id == id) (λ (p : Parcel). p.id == id) (λ p. refl) (in_order parcel_added h)
    ∙ ap (option_map (parcel_now h)) none

transfer_none : (h : History) (id parcel to : ℕ) (b : Bool) → (parcel == id) ≡ b → find (λ (p : Parcel). p.id == id) (in_order parcel_added h) ≡ None →
    IsTrue (is_some (parcel_numbered h parcel)) →
    latest (λ (e : Entry). receiver_by id e.deed) h ≡ None → option_or (if b then Some to else None) (latest (λ (e : Entry). receiver_by id e.deed) h) ≡ None
transfer_none h id parcel to b e none there ih = grind (arith, eqb-true, not_there)

none_added : (h : History) (id : ℕ) (number : Option ℕ) (new : ℕ → Parcel) →
    find (λ (p : Parcel). p.id == id) (add_last (in_order parcel_added h) (option_map new number)) ≡ None →
    find (λ (p : Parcel). p.id == id) (in_order parcel_added h) ≡ None
none_added h id number new none = grind (arith, find_none_front)

transfers_deed : (h : History) (id caller day : ℕ) (deed : Deed) (number : Option ℕ) →
    MayFollow h (record { caller = caller; day = day; deed = deed; number = number }) deed →
    find (λ (p : Parcel). p.id == id) (in_order parcel_added (record { caller = caller; day = day; deed = deed; number = number } ∷ h)) ≡ None →
    (find (λ (p : Parcel). p.id == id) (in_order parcel_added h) ≡ None → latest (λ (e : Entry). receiver_by id e.deed) h ≡ None) →
    latest (λ (e : Entry). receiver_by id e.deed) (record { caller = caller; day = day; deed = deed; number = number } ∷ h) ≡ None
transfers_deed h id caller day (Founding name digest) number may none ih = absurd may
transfers_deed h id caller day Upgrade number may none ih = ih none
transfers_deed h id caller day (Accepted (Transfer parcel to)) number may none ih =
    transfer_none h id parcel to (parcel == id) refl none may.record_there (ih none)
transfers_deed h id caller day (Accepted (AddParcel lot address owner)) None may none ih = ih none
transfers_deed h id caller day (Accepted (AddParcel lot address owner)) (Some n) may none ih =
    ih (none_added h id (Some n) (λ k. record { id = k; lot = lot; address = address; owner = owner }) none)
transfers_deed h id caller day (Accepted request) number may none ih = ih none

transfers_first : (id caller day : ℕ) (deed : Deed) (number : Option ℕ) →
    IsFounding (record { caller = caller; day = day; deed = deed; number = number }) deed →
    latest (λ (e : Entry). receiver_by id e.deed) (record { caller = caller; day = day; deed = deed; number = number } ∷ []) ≡ None
transfers_first id caller day deed number is = grind arith

-- a parcel that isn't there wasn't transferred
pub no_transfers : (h : History) → IsHistory h → (id : ℕ) → find (λ (p : Parcel). p.id == id) (in_order parcel_added h) ≡ None →
    latest (λ (e : Entry). receiver_by id e.deed) h ≡ None
no_transfers [] is id none = refl
no_transfers (entry ∷ []) is id none = transfers_first id entry.caller entry.day entry.deed entry.number is
no_transfers (entry ∷ last ∷ before) is id none = transfers_deed (last ∷ before) id entry.caller entry.day entry.deed entry.number is.0 none
    (no_transfers (last ∷ before) is.1 id)

-- ---- files

below_filing : (h : History) (id : ℕ) (n : ℕ) (new : Filing) → new.id ≡ n → Some n ≡ Some (length (filings h) + 1) →
    length (filings h ++ new ∷ []) < id →
    ((k : ℕ) → length (filings h) < k → find (λ (f : Filing). f.id == k) (filings h) ≡ None) →
    find (λ (f : Filing). f.id == id) (filings h ++ new ∷ []) ≡ None
below_filing h id n new named numbered above ih = grind (arith, length-append, number_is, find_none_last, other_number)

below_file : (h : History) (id caller day : ℕ) (deed : Deed) (number : Option ℕ) →
    MayFollow h (record { caller = caller; day = day; deed = deed; number = number }) deed →
    length (filings (record { caller = caller; day = day; deed = deed; number = number } ∷ h)) < id →
    ((k : ℕ) → length (filings h) < k → find (λ (f : Filing). f.id == k) (filings h) ≡ None) →
    find (λ (f : Filing). f.id == id) (filings (record { caller = caller; day = day; deed = deed; number = number } ∷ h)) ≡ None
below_file h id caller day deed number may above ih = grind (arith, below_filing)

file_first : (id caller day : ℕ) (deed : Deed) (number : Option ℕ) → IsFounding (record { caller = caller; day = day; deed = deed; number = number }) deed →
    find (λ (f : Filing). f.id == id) (filings (record { caller = caller; day = day; deed = deed; number = number } ∷ [])) ≡ None
file_first id caller day deed number is = grind arith

-- no file has a number above their count
pub files_below : (h : History) → IsHistory h → (id : ℕ) → length (filings h) < id → find (λ (f : Filing). f.id == id) (filings h) ≡ None
files_below [] is id above = refl
files_below (entry ∷ []) is id above = file_first id entry.caller entry.day entry.deed entry.number is
files_below (entry ∷ last ∷ before) is id above = below_file (last ∷ before) id entry.caller entry.day entry.deed entry.number is.0 above
    (files_below (last ∷ before) is.1)

-- ---- numbered by place

numbered_parcel : (h : History) (number : Option ℕ) (new : ℕ → Parcel) → ((n : ℕ) → (new n).id ≡ n) → number ≡ Some (length (parcels h) + 1) →
    IsNumbered (λ (p : Parcel). p.id) (in_order parcel_added h) → IsNumbered (λ (p : Parcel). p.id) (add_last (in_order parcel_added h) (option_map new number))
numbered_parcel h number new named next ih = grind (arith, numbered_last, number_is, length-map)

parcels_deed : (h : History) (caller day : ℕ) (deed : Deed) (number : Option ℕ) →
    MayFollow h (record { caller = caller; day = day; deed = deed; number = number }) deed →
    IsNumbered (λ (p : Parcel). p.id) (in_order parcel_added h) → IsNumbered (λ (p : Parcel). p.id)
    (in_order parcel_added (record { caller = caller; day = day; deed = deed; number = number } ∷ h))
parcels_deed h caller day (Founding name digest) number may ih = absurd may
parcels_deed h caller day Upgrade number may ih = ih
parcels_deed h caller day (Accepted (AddParcel lot address owner)) None may ih = ih
parcels_deed h caller day (Accepted (AddParcel lot address owner)) (Some n) may ih =
    numbered_parcel h (Some n) (λ k. record { id = k; lot = lot; address = address; owner = owner }) (λ k. refl) may.numbered ih
parcels_deed h caller day (Accepted request) number may ih = ih

parcels_first : (caller day : ℕ) (deed : Deed) (number : Option ℕ) → IsFounding (record { caller = caller; day = day; deed = deed; number = number }) deed →
    IsNumbered (λ (p : Parcel). p.id) (in_order parcel_added (record { caller = caller; day = day; deed = deed; number = number } ∷ []))
parcels_first caller day deed number is = grind arith

added_numbered : (h : History) → IsHistory h → IsNumbered (λ (p : Parcel). p.id) (in_order parcel_added h)
added_numbered [] is = tt
added_numbered (entry ∷ []) is = parcels_first entry.caller entry.day entry.deed entry.number is
added_numbered (entry ∷ last ∷ before) is = parcels_deed (last ∷ before) entry.caller entry.day entry.deed entry.number is.0
    (added_numbered (last ∷ before) is.1)

-- the parcels are numbered from 1
pub parcels_numbered : (h : History) → IsHistory h → IsNumbered (λ (p : Parcel). p.id) (parcels h)
parcels_numbered h is = grind (arith, numbered_mapped, added_numbered)

filings_deed : (h : History) (caller day : ℕ) (deed : Deed) (number : Option ℕ) →
    MayFollow h (record { caller = caller; day = day; deed = deed; number = number }) deed →
    IsNumbered (λ (f : Filing). f.id) (filings h) → IsNumbered (λ (f : Filing). f.id)
    (filings (record { caller = caller; day = day; deed = deed; number = number } ∷ h))
filings_deed h caller day deed number may ih = grind (arith, numbered_last, number_is)

filings_first : (caller day : ℕ) (deed : Deed) (number : Option ℕ) → IsFounding (record { caller = caller; day = day; deed = deed; number = number }) deed →
    IsNumbered (λ (f : Filing). f.id) (filings (record { caller = caller; day = day; deed = deed; number = number } ∷ []))
filings_first caller day deed number is = grind arith

-- the filings are numbered from 1
pub filings_numbered : (h : History) → IsHistory h → IsNumbered (λ (f : Filing). f.id) (filings h)
filings_numbered [] is = tt
filings_numbered (entry ∷ []) is = filings_first entry.caller entry.day entry.deed entry.number is
filings_numbered (entry ∷ last ∷ before) is = filings_deed (last ∷ before) entry.caller entry.day entry.deed entry.number is.0
    (filings_numbered (last ∷ before) is.1)

-- the files are numbered from 1
pub case_files_numbered : (h : History) → IsHistory h → IsNumbered (λ (f : CaseFile). f.filing.id) (case_files h)
case_files_numbered h is = grind (arith, numbered_mapped, filings_numbered)

parties_deed : (h : History) (caller day : ℕ) (deed : Deed) (number : Option ℕ) →
    MayFollow h (record { caller = caller; day = day; deed = deed; number = number }) deed →
    IsNumbered (λ (p : Party). p.id) (parties h) → IsNumbered (λ (p : Party). p.id)
    (parties (record { caller = caller; day = day; deed = deed; number = number } ∷ h))
parties_deed h caller day deed number may ih = grind (arith, numbered_last, number_is)

parties_first : (caller day : ℕ) (deed : Deed) (number : Option ℕ) → IsFounding (record { caller = caller; day = day; deed = deed; number = number }) deed →
    IsNumbered (λ (p : Party). p.id) (parties (record { caller = caller; day = day; deed = deed; number = number } ∷ []))
parties_first caller day deed number is = grind arith

-- the parties are numbered from 1
pub parties_numbered : (h : History) → IsHistory h → IsNumbered (λ (p : Party). p.id) (parties h)
parties_numbered [] is = tt
parties_numbered (entry ∷ []) is = parties_first entry.caller entry.day entry.deed entry.number is
parties_numbered (entry ∷ last ∷ before) is = parties_deed (last ∷ before) entry.caller entry.day entry.deed entry.number is.0
    (parties_numbered (last ∷ before) is.1)

-- ---- papers

-- so many papers, numbered from 1
abbrev pub HasPapers : ℕ → List Paper → Type 0
HasPapers count papers = IsNumbered (λ (p : Paper). p.number) papers × (length papers ≡ count)

papers_more : (file : ℕ) (open_now : List ℕ) (act : Act) (before : List Act) (s : Option PaperSort) → paper_sort act.command ≡ s →
    act.number ≡ when (is_some s) (paper_count before + 1) →
    HasPapers (paper_count before) (papers_from file open_now before) →
    HasPapers (paper_count (act ∷ before)) (add_last (papers_from file open_now before) (paper_by file open_now act before))
papers_more file open_now act before s e numbered ih = grind (arith, length-append, papers_from, numbered_last)

has_papers : (file : ℕ) (open_now : List ℕ) (acts : List Act) → AreNumbered acts → HasPapers (paper_count acts) (papers_from file open_now acts)
has_papers file open_now [] numbered = (tt, refl)
has_papers file open_now (act ∷ before) numbered = papers_more file open_now act before (paper_sort act.command) refl numbered.0
    (has_papers file open_now before numbered.1)

-- the papers of a file are numbered from 1, up to their count
pub papers_numbered : (h : History) (id : ℕ) (file : CaseFile) → IsHistory h → case_numbered h id ≡ Some file →
    HasPapers (paper_count file.acts) (papers_of h file.filing.id)
papers_numbered h id file is there =
    subst (HasPapers (paper_count file.acts)) (sym (papers_of-case h id file there))
    (has_papers file.filing.id (open_notices file.acts) file.acts (are_numbered file.filing file.acts (done_to h id file is there).admitted))

-- ---- places

-- a party is found by its number at its place
pub party_at : (h : History) (place : ℕ) → IsHistory h → party_numbered h (1 + place) ≡ slice_get (parties h) place
party_at h place is = found_at (λ (p : Party). p.id) 1 (parties h) place (parties_numbered h is)

pub parcel_at : (h : History) (place : ℕ) → IsHistory h → parcel_numbered h (1 + place) ≡ slice_get (parcels h) place
parcel_at h place is = found_at (λ (p : Parcel). p.id) 1 (parcels h) place (parcels_numbered h is)

-- a file is found by its number at its place
pub file_at : (h : History) (place : ℕ) → IsHistory h → case_numbered h (1 + place) ≡ slice_get (case_files h) place
file_at h place is =
    ap (option_map (case_file h)) (found_at (λ (f : Filing). f.id) 1 (filings h) place (filings_numbered h is))
    ∙ slice_get_mapped (case_file h) (filings h) place

-- what holds of each file that is found by its number holds of all files
pub all_files : (P : CaseFile → Type 0) (h : History) → IsHistory h → ((id : ℕ) (file : CaseFile) → case_numbered h id ≡ Some file → P file) →
    All P (case_files h)
all_files P h is each = all_at P (case_files h) (λ place file there. each (1 + place) file (file_at h place is ∙ there))

-- The edition of a file is the one in force when it was filed, and its number gives it.
use Rattle.std.proofs.Common.{◌≡◌, ◌≤◌, ◌+◌, ℕ, ◌==◌, Bool, List, [], ◌∷◌, ◌++◌, length, refl, sym, ◌∙◌, ap, arith, length-append}
use Rattle.std.specs.Prelude.{Option, None, Some, option_map, nat_le, if◌then◌else◌}
use Rattle.std.proofs.lemmas.List.{length-map}
use Rattle.std.proofs.lemmas.Bool.{eqb-true, le-leb, leb-false}
use Rattle.permit_base.specs.declared.words.Edition.TheVariants.{First, Second}
use Rattle.permit_base.specs.declared.request.Request.TheVariants.{File}
use Rattle.permit_model.specs.Search.{add_last}
use Rattle.permit_model.specs.History.{Deed, Founding, Upgrade, Accepted, History, edition, upgraded}
use Rattle.permit_model.specs.Files.{Filing, CaseFile, filings, case_file, case_files}
use Rattle.permit_model.specs.Tables.{edition_by, files_at_upgrade, edition_numbered, desk_of, tables, with_upgrade}
use Rattle.permit_model.specs.Machine.{MayFollow, IsFounding, IsHistory}
use Rattle.permit_model.specs.Laws.{OfEachFile}
use Rattle.permit_model.proofs.Projection.{filing_numbered, find_last, found_has_id}
use Rattle.permit_model.proofs.Numbers.{files_below, number_is}

-- ---- the count of files at the upgrade

-- no more files than there are now
abbrev pub IsWithin : Option ℕ → ℕ → Type 0
IsWithin None files = Unit {0}
IsWithin (Some count) files = count ≤ files

pub record Counted (h : History) : Type 0 where
  pub within : IsWithin (files_at_upgrade h) (length (filings h))
  pub now : edition h ≡ edition_by (files_at_upgrade h)

within_more : (at : Option ℕ) (made : List Filing) (new : Option Filing) → IsWithin at (length made) → IsWithin at (length (add_last made new))
within_more at made new w = grind (arith, length-append)

counted_deed : (h : History) (caller day : ℕ) (deed : Deed) (number : Option ℕ) → Counted h →
    Counted (record { caller = caller; day = day; deed = deed; number = number } ∷ h)
counted_deed h caller day deed number c = grind (arith, within_more)

-- of every list of entries: the second edition is in force where there was an upgrade, and there were no more files then
pub counted : (h : History) → Counted h
counted [] = record { within = tt; now = refl }
counted (entry ∷ before) = counted_deed before entry.caller entry.day entry.deed entry.number (counted before)

-- ---- the edition of a file

none_at : (at : Option ℕ) → edition_by at ≡ First → at ≡ None
none_at at e = grind arith

-- the next file has the edition in force
pub edition_next : (at : Option ℕ) (files : ℕ) → IsWithin at files → edition_by at ≡ edition_numbered at (files + 1)
edition_next at files w = grind arith

pub first_upto : (count id : ℕ) → id ≤ count → edition_numbered (Some count) id ≡ First
first_upto count id small = rw (le-leb id count small) refl

absent : {A : Type 0} (o : Option A) (x : A) → o ≡ None → o ≡ Some x → ⊥
absent o x none e = grind arith

-- at the upgrade each file is numbered up to their count
kept_first : (h : History) (id : ℕ) (filing : Filing) (b : Bool) → nat_le id (length (filings h)) ≡ b → IsHistory h →
    filing_numbered (filings h) id ≡ Some filing → edition_numbered (Some (length (filings h))) id ≡ First
kept_first h id filing b e is found = grind (arith, absent, filing_numbered, files_below, leb-false)

newest : (h : History) (id n : ℕ) (new filing : Filing) (b : Bool) → (new.id == id) ≡ b → new.id ≡ n → new.edition ≡ edition h →
    Some n ≡ Some (length (filings h) + 1) →
    (if b then Some new else None) ≡ Some filing → filing.edition ≡ edition_numbered (files_at_upgrade h) id
newest h id n new filing b e named is_now next found = grind (arith, eqb-true, number_is, counted, edition_next)

numbered_new : (h : History) (id n : ℕ) (new filing : Filing) (old : Option Filing) → new.id ≡ n → new.edition ≡ edition h →
    Some n ≡ Some (length (filings h) + 1) →
    filing_numbered (filings h) id ≡ old → filing_numbered (filings h ++ new ∷ []) id ≡ Some filing →
    (filing_numbered (filings h) id ≡ Some filing → filing.edition ≡ edition_numbered (files_at_upgrade h) id) →
    filing.edition ≡ edition_numbered (files_at_upgrade h) id
numbered_new h id n new filing old named is_now next e found ih = grind (arith, find_last, newest)

edition_deed : (h : History) (id caller day : ℕ) (deed : Deed) (number : Option ℕ) (filing : Filing) → IsHistory h →
    MayFollow h (record { caller = caller; day = day; deed = deed; number = number }) deed →
    filing_numbered (filings (record { caller = caller; day = day; deed = deed; number = number } ∷ h)) id ≡ Some filing →
    (filing_numbered (filings h) id ≡ Some filing → filing.edition ≡ edition_numbered (files_at_upgrade h) id) →
    filing.edition ≡ edition_numbered (files_at_upgrade (record { caller = caller; day = day; deed = deed; number = number } ∷ h)) id
edition_deed h id caller day (Founding name digest) number filing is may found ih = absurd may
edition_deed h id caller day Upgrade number filing is may found ih =
    let none : files_at_upgrade h ≡ None = none_at (files_at_upgrade h) (sym (counted h).now ∙ may.once) in
    ih found ∙ ap (λ at. edition_numbered at id) none ∙ sym (kept_first h id filing (nat_le id (length (filings h))) refl is found)
edition_deed h id caller day (Accepted (File parcel kind valuation description)) None filing is may found ih = ih found
edition_deed h id caller day (Accepted (File parcel kind valuation description)) (Some n) filing is may found ih =
    numbered_new h id n (record {
      id = n;
      parcel = parcel;
      applicant = caller;
      kind = kind;
      edition = edition h;
      valuation = valuation;
      description = description;
      filed = day;
    }) filing (filing_numbered (filings h) id) refl refl may.numbered refl found ih
edition_deed h id caller day (Accepted request) number filing is may found ih = ih found

edition_first : (id caller day : ℕ) (deed : Deed) (number : Option ℕ) (filing : Filing) →
    IsFounding (record { caller = caller; day = day; deed = deed; number = number }) deed →
    filing_numbered (filings (record { caller = caller; day = day; deed = deed; number = number } ∷ [])) id ≡ Some filing →
    filing.edition ≡ edition_numbered (files_at_upgrade (record { caller = caller; day = day; deed = deed; number = number } ∷ [])) id
edition_first id caller day deed number filing is found = grind arith

-- a filing has the edition that its number gives
pub edition_of_filing : (h : History) (id : ℕ) (filing : Filing) → IsHistory h → filing_numbered (filings h) id ≡ Some filing →
    filing.edition ≡ edition_numbered (files_at_upgrade h) id
edition_of_filing [] id filing is found = absurd is
edition_of_filing (entry ∷ []) id filing is found = edition_first id entry.caller entry.day entry.deed entry.number filing is found
edition_of_filing (entry ∷ last ∷ before) id filing is found =
    edition_deed (last ∷ before) id entry.caller entry.day entry.deed entry.number filing is.1 is.0 found (edition_of_filing (last ∷ before) id filing is.1)

edition_of_by : (h : History) (id : ℕ) (file : CaseFile) (o : Option Filing) → IsHistory h → filing_numbered (filings h) id ≡ o →
    option_map (case_file h) o ≡ Some file →
    file.filing.edition ≡ edition_numbered (files_at_upgrade h) file.filing.id
edition_of_by h id file o is e there = grind (arith, found_has_id, edition_of_filing)

pub edition_by_number : OfEachFile (λ h file. file.filing.edition ≡ edition_numbered (files_at_upgrade h) file.filing.id)
edition_by_number h id file is there = edition_of_by h id file (filing_numbered (filings h) id) is refl there

-- ---- the upgrade

-- the next file has the edition in force
pub edition_of_next : (h : History) → edition h ≡ edition_numbered (files_at_upgrade h) (length (case_files h) + 1)
edition_of_next h = grind (arith, counted, edition_next, length-map)

pub upgrade_follows : (h : History) → IsHistory h → edition h ≡ First → IsHistory (upgraded h)
upgrade_follows h is first = grind arith

pub upgrade_once : (h : History) → IsHistory (upgraded h) → edition h ≡ First
upgrade_once h is = grind arith

pub upgrade_made : (h : History) → tables (upgraded h) ≡ with_upgrade (tables h)
upgrade_made h = ap (λ n. record (tables h) { desk = record (desk_of h) { edition = Second }; upgrade = Some n }) (sym (length-map (filings h) (case_file h)))

-- The tables after an entry more are the tables with the change.
use Rattle.std.proofs.Common.{◌≡◌, ◌<◌, ◌+◌, ℕ, ◌==◌, Bool, true, false, List, [], ◌∷◌, ◌++◌, length, refl, sym, ◌∙◌, ap, map, arith, length-append}
use Rattle.std.specs.Prelude.{Option, None, Some, unwrap_or, if◌then◌else◌}
use Rattle.std.proofs.lemmas.List.{length-map, map-append}
use Rattle.permit_base.specs.declared.words.Role.{Role}
use Rattle.permit_base.specs.declared.words.Kind.{Kind}
use Rattle.permit_base.specs.declared.request.Request.TheVariants.{AddParty, AddParcel, File, OnFile, Declare, Transfer}
use Rattle.permit_base.specs.Digests.{digest_of}
use Rattle.permit_model.specs.Search.{in_order, add_last, latest}
use Rattle.std.specs.Option.{option_or}
use Rattle.permit_store.specs.Changes.{given_to}
use Rattle.std.proofs.lemmas.Bool.Decides.{nat_tests}
use Rattle.permit_model.specs.History.{Deed, Accepted, Entry, History, edition}
use Rattle.permit_model.specs.Caller.{Party, parties}
use Rattle.permit_model.specs.Parcels.{Parcel, parcel_added, parcel_now, parcels, receiver_by, interests}
use Rattle.permit_model.specs.Files.{Filing, act_of, acts_on, filings, CaseFile, case_file, case_files}
use Rattle.permit_model.specs.Work.{open_notices}
use Rattle.permit_model.specs.Tables.{tables, file_row, paper_by, papers_made, state_of}
use Rattle.permit_model.specs.Machine.{IsHistory, entry_of}
use Rattle.permit_model.proofs.Numbers.{parcels_below, no_transfers, files_below}
use Rattle.permit_model.proofs.Projection.{no_acts}

papers_deed : (now later : History) (entry : Entry) (deed : Deed) (before : History) → ((id : ℕ) → acts_on id later ≡ acts_on id now) →
    papers_made later before ≡ papers_made now before →
    papers_made later (record entry { deed = deed } ∷ before) ≡ papers_made now (record entry { deed = deed } ∷ before)
papers_deed now later entry (Accepted (OnFile file command)) before same ih =
    ap (λ ps. add_last ps (paper_by file (open_notices (acts_on file later)) (act_of (record entry { deed = Accepted (OnFile file command) }) command)
    (acts_on file before))) ih
    ∙ ap (λ acts. add_last (papers_made now before) (paper_by file (open_notices acts) (act_of (record entry { deed = Accepted (OnFile file command) }) command)
    (acts_on file before))) (same file)
papers_deed now later entry _ before same ih = ih

-- the papers stay where nothing was done to a file
pub papers_same : (now later : History) → ((id : ℕ) → acts_on id later ≡ acts_on id now) → (h : History) → papers_made later h ≡ papers_made now h
papers_same now later same [] = refl
papers_same now later same (entry ∷ before) = papers_deed now later entry entry.deed before same (papers_same now later same before)

-- ---- a party more

party_added : (h : History) (day caller : ℕ) (name : List ℕ) (role : Role) (token : List ℕ) →
    record (tables h) {
      desk = record (tables h).desk { last = day; parties = length (parties h) + 1 };
      parties = parties h ++ (record { id = length (parties h) + 1; name = name; role = role; digest = digest_of token }) ∷ [];
    } ≡ tables (entry_of h day caller (AddParty name role token) ∷ h)
party_added h day caller name role token =
    let entry : Entry = entry_of h day caller (AddParty name role token) in
    let new : Party = record { id = length (parties h) + 1; name = name; role = role; digest = digest_of token } in
    let long : length (parties h) + 1 ≡ length (parties h ++ new ∷ []) = sym (length-append (parties h) (new ∷ [])) in
    ap (λ n. record (tables h) { desk = record (tables h).desk { last = day; parties = n }; parties = parties h ++ new ∷ [] }) long
    ∙ ap (λ ps. record (tables h) {
      desk = record (tables h).desk { last = day; parties = length (parties h ++ new ∷ []) };
      parties = parties h ++ new ∷ [];
      papers = ps;
    }) (sym (papers_same h (entry ∷ h) (λ id. refl) h))

pub party_more : (h : History) (day caller : ℕ) (name : List ℕ) (role : Role) (token digest : List ℕ) → digest ≡ digest_of token →
    record (tables h) {
      desk = record (tables h).desk { last = day; parties = length (parties h) + 1 };
      parties = parties h ++ (record { id = length (parties h) + 1; name = name; role = role; digest = digest }) ∷ [];
    } ≡ tables (entry_of h day caller (AddParty name role token) ∷ h)
party_more h day caller name role token digest d =
    ap (λ x. record (tables h) {
      desk = record (tables h).desk { last = day; parties = length (parties h) + 1 };
      parties = parties h ++ (record { id = length (parties h) + 1; name = name; role = role; digest = x }) ∷ [];
    }) d
    ∙ party_added h day caller name role token

-- ---- a parcel more

parcels_more : (h : History) (day caller : ℕ) (lot address : List ℕ) (owner : ℕ) → IsHistory h →
    parcels h ++ (record { id = length (parcels h) + 1; lot = lot; address = address; owner = owner })
    ∷ [] ≡ parcels (entry_of h day caller (AddParcel lot address owner) ∷ h)
parcels_more h day caller lot address owner is =
    let made = in_order parcel_added h in
    let id : ℕ = length (parcels h) + 1 in
    let new : Parcel = record { id = id; lot = lot; address = address; owner = owner } in
    let count : length (parcels h) ≡ length made = length-map made (parcel_now h) in
    let none : latest (λ (e : Entry). receiver_by id e.deed) h ≡ None = no_transfers h is id (parcels_below h is id (omega arith)) in
    let same : new ≡ parcel_now h new = ap (λ o. record new { owner = unwrap_or o owner }) (sym none) in
    ap (λ p. parcels h ++ p ∷ []) same ∙ sym (map-append (parcel_now h) made (new ∷ []))

pub parcel_more : (h : History) (day caller : ℕ) (lot address : List ℕ) (owner : ℕ) → IsHistory h →
    record (tables h) {
      desk = record (tables h).desk { last = day; parcels = length (parcels h) + 1 };
      parcels = parcels h ++ (record { id = length (parcels h) + 1; lot = lot; address = address; owner = owner }) ∷ [];
    } ≡ tables (entry_of h day caller (AddParcel lot address owner) ∷ h)
parcel_more h day caller lot address owner is =
    let entry : Entry = entry_of h day caller (AddParcel lot address owner) in
    let new : Parcel = record { id = length (parcels h) + 1; lot = lot; address = address; owner = owner } in
    let long : length (parcels h) + 1 ≡ length (parcels h ++ new ∷ []) = sym (length-append (parcels h) (new ∷ [])) in
    ap (λ n. record (tables h) { desk = record (tables h).desk { last = day; parcels = n }; parcels = parcels h ++ new ∷ [] }) long
    ∙ ap (λ ps. record (tables h) { desk = record (tables h).desk { last = day; parcels = length ps }; parcels = ps })
    (parcels_more h day caller lot address owner is)
    ∙ ap (λ pp. record (tables h) {
      desk = record (tables h).desk { last = day; parcels = length (parcels (entry ∷ h)) };
      parcels = parcels (entry ∷ h);
      papers = pp;
    }) (sym (papers_same h (entry ∷ h) (λ id. refl) h))

-- ---- a file more

files_more : (h : History) (day caller parcel : ℕ) (kind : Kind) (valuation : ℕ) (description : List ℕ) → IsHistory h → (filing : Filing) →
    filing ≡ record {
      id = length (filings h) + 1;
      parcel = parcel;
      applicant = caller;
      kind = kind;
      edition = edition h;
      valuation = valuation;
      description = description;
      filed = day;
    } →
    case_files h ++ (record { filing = filing; acts = [] }) ∷ [] ≡ map (case_file h) (filings h ++ filing ∷ [])
files_more h day caller parcel kind valuation description is filing e =
    let above : length (filings h) < filing.id = ap-below e in
    let none : acts_on filing.id h ≡ [] = no_acts h filing.id is (files_below h is filing.id above) in
    ap (λ acts. case_files h ++ (record { filing = filing; acts = acts }) ∷ []) (sym none) ∙ sym (map-append (case_file h) (filings h) (filing ∷ []))
  where
    ap-below : filing ≡ record {
      id = length (filings h) + 1;
      parcel = parcel;
      applicant = caller;
      kind = kind;
      edition = edition h;
      valuation = valuation;
      description = description;
      filed = day;
    } → length (filings h) < filing.id
    ap-below f = let k : filing.id ≡ length (filings h) + 1 = ap (λ (x : Filing). x.id) f in omega arith

pub file_more : (h : History) (day caller parcel : ℕ) (kind : Kind) (valuation : ℕ) (description : List ℕ) → IsHistory h →
    record (tables h) {
      desk = record (tables h).desk { last = day; files = length (case_files h) + 1 };
      files = map file_row (case_files h) ++ (record {
        id = length (case_files h) + 1;
        state = state_of (record {
          filing = record {
            id = length (filings h) + 1;
            parcel = parcel;
            applicant = caller;
            kind = kind;
            edition = edition h;
            valuation = valuation;
            description = description;
            filed = day;
          };
          acts = [];
        });
        valuation = valuation;
        description = description;
      }) ∷ [];
    } ≡ tables (entry_of h day caller (File parcel kind valuation description) ∷ h)
file_more h day caller parcel kind valuation description is =
    let entry : Entry = entry_of h day caller (File parcel kind valuation description) in
    let filing : Filing = record {
      id = length (filings h) + 1;
      parcel = parcel;
      applicant = caller;
      kind = kind;
      edition = edition h;
      valuation = valuation;
      description = description;
      filed = day;
    } in
    let file : CaseFile = record { filing = filing; acts = [] } in
    let count : length (case_files h) ≡ length (filings h) = length-map (filings h) (case_file h) in
    let long : length (case_files h) + 1 ≡ length (case_files h ++ file ∷ []) = sym (length-append (case_files h) (file ∷ [])) in
    ap (λ n. record (tables h) {
      desk = record (tables h).desk { last = day; files = length (case_files h) + 1 };
      files = map file_row (case_files h) ++ (record { id = n + 1; state = state_of file; valuation = valuation; description = description }) ∷ [];
    }) count
    ∙ ap (λ n. record (tables h) { desk = record (tables h).desk { last = day; files = n }; files = map file_row (case_files h) ++ file_row file ∷ [] }) long
    ∙ ap (λ fs. record (tables h) { desk = record (tables h).desk { last = day; files = length (case_files h ++ file ∷ []) }; files = fs })
    (sym (map-append file_row (case_files h) (file ∷ [])))
    ∙ ap (λ (cs : List CaseFile). record (tables h) { desk = record (tables h).desk { last = day; files = length cs }; files = map file_row cs })
    (files_more h day caller parcel kind valuation description is filing refl)
    ∙ ap (λ pp. record (tables h) {
      desk = record (tables h).desk { last = day; files = length (case_files (entry ∷ h)) };
      files = map file_row (case_files (entry ∷ h));
      papers = pp;
    }) (sym (papers_same h (entry ∷ h) (λ id. refl) h))

-- ---- an interest more

pub interest_more : (h : History) (day caller parcel : ℕ) →
    record (tables h) {
      desk = record (tables h).desk { last = day };
      interests = interests h ++ (record { parcel = parcel; party = caller }) ∷ [];
    } ≡ tables (entry_of h day caller (Declare parcel) ∷ h)
interest_more h day caller parcel =
    let entry : Entry = entry_of h day caller (Declare parcel) in
    ap (λ ps. record (tables h) {
      desk = record (tables h).desk { last = day };
      interests = interests h ++ (record { parcel = parcel; party = caller }) ∷ [];
      papers = ps;
    }) (sym (papers_same h (entry ∷ h) (λ id. refl) h))

-- ---- another owner

same_way : (a b : ℕ) → (a == b) ≡ (b == a)
same_way a b = grind (arith, nat_tests)

given_by : (p : Parcel) (parcel to owner : ℕ) (before : Option ℕ) (a b : Bool) → a ≡ b →
    (if a then record p { owner = to } else record p { owner = unwrap_or before owner })
    ≡ record p { owner = unwrap_or (option_or (if b then Some to else None) before) owner }
given_by p parcel to owner before true true e = refl
given_by p parcel to owner before false false e = refl
given_by p parcel to owner before true false e = cc
given_by p parcel to owner before false true e = cc

mapped_twice : {A B : Type 0} (f : A → B) (g : B → B) (k : A → B) → ((x : A) → g (f x) ≡ k x) → (xs : List A) → map g (map f xs) ≡ map k xs
mapped_twice f g k same [] = refl
mapped_twice f g k same (x ∷ xs) = ap (λ y. y ∷ map g (map f xs)) (same x) ∙ ap (λ ys. k x ∷ ys) (mapped_twice f g k same xs)

parcels_given : (h : History) (day caller parcel to : ℕ) → map (given_to parcel to) (parcels h) ≡ parcels (entry_of h day caller (Transfer parcel to) ∷ h)
parcels_given h day caller parcel to =
    mapped_twice (parcel_now h) (given_to parcel to) (parcel_now (entry_of h day caller (Transfer parcel to) ∷ h))
    (λ p. given_by p parcel to p.owner (latest (λ (e : Entry). receiver_by p.id e.deed) h) (p.id == parcel) (parcel == p.id) (same_way p.id parcel))
    (in_order parcel_added h)

pub transfer_more : (h : History) (day caller parcel to : ℕ) →
    record (tables h) {
      desk = record (tables h).desk { last = day };
      parcels = map (given_to parcel to) (parcels h);
    } ≡ tables (entry_of h day caller (Transfer parcel to) ∷ h)
transfer_more h day caller parcel to =
    let entry : Entry = entry_of h day caller (Transfer parcel to) in
    let long : length (parcels h) ≡ length (map (given_to parcel to) (parcels h)) = sym (length-map (parcels h) (given_to parcel to)) in
    ap (λ n. record (tables h) { desk = record (tables h).desk { last = day; parcels = n }; parcels = map (given_to parcel to) (parcels h) }) long
    ∙ ap (λ ps. record (tables h) { desk = record (tables h).desk { last = day; parcels = length ps }; parcels = ps }) (parcels_given h day caller parcel to)
    ∙ ap (λ pp. record (tables h) {
      desk = record (tables h).desk { last = day; parcels = length (parcels (entry ∷ h)) };
      parcels = parcels (entry ∷ h);
      papers = pp;
    }) (sym (papers_same h (entry ∷ h) (λ id. refl) h))

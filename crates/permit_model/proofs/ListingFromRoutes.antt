-- A listing is what its selections find and the found rows' own facts allow, sorted by number, each once.
use Rattle.std.proofs.Common.{arith, ◌≡◌, ℕ, Bool, true, List, map, refl, ◌∙◌, ap, subst}
use Rattle.std.specs.Prelude.{filter, IsPermutation}
use Rattle.std.specs.List.{flat_map, Contains}
use Rattle.std.proofs.lemmas.List.Sorted.{IsPermutation-sym, Contains-permutation}
use Rattle.permit_base.specs.declared.words.Action.TheVariants as action
use Rattle.permit_base.specs.declared.request.Filter.{Filter}
use Rattle.permit_base.specs.declared.route.Route.{Route}
use Rattle.permit_model.specs.History.{History}
use Rattle.permit_model.specs.Caller.{Party}
use Rattle.permit_model.specs.Files.{CaseFile, case_files}
use Rattle.permit_model.specs.Facts.{stage_on, timing_of, file_facts}
use Rattle.permit_model.specs.Policy.{Policy, allows}
use Rattle.permit_model.specs.Tables.{file_row, FileView, file_view, Tables, tables}
use Rattle.permit_model.specs.Listing.{meets, is_listed, listing}
use Rattle.permit_model.specs.Opened.{allowed_by}
use Rattle.permit_model.specs.Routes.{Found, found_row, routes_of, is_found, found_by}
use Rattle.permit_model.specs.Machine.{IsHistory}
use Rattle.permit_model.proofs.Members.{IsMember, member_from, contains_from, Covers, IsGiven, given_by, gives, IsMadeOf, made_of, member_made}
use Rattle.permit_model.proofs.Members.{passed, kept, OnePasses, one_passes, any_of_member}
use Rattle.permit_model.proofs.Rising.{IsRising, same_covered}
use Rattle.permit_model.proofs.Rising.{mapped_rising, filtered_rising, files_rising}
use Rattle.permit_model.proofs.FoundFiles.{found_facts, found_view, found_file, right_of}
use Rattle.permit_model.proofs.NoneMissed.{is_selected, found_meets, none_missed}

-- whether the facts of a found row allow the caller to list it
abbrev pub allows_found : Policy → ℕ → Party → Found → Bool
allows_found policy day caller found = allows policy (found_facts caller.role day caller.id found)

-- what a selection finds and its own facts allow, as it is shown on the day
abbrev pub allowed_views : Policy → ℕ → Party → Tables → Route → List FileView
allowed_views policy day caller t r = map (found_view day) (filter (allows_found policy day caller) (found_by r caller.id day t))

-- what all selections of a listing find, one after the other
abbrev pub all_views : Policy → History → ℕ → Party → Filter → List FileView
all_views policy h day caller wanted = flat_map (allowed_views policy day caller (tables h)) (routes_of (allowed_by policy caller.role action.List) wanted)

-- a file of the history whose row is found so
abbrev pub IsRowOf : History → ℕ → Found → Type 0
IsRowOf h caller found = (file : CaseFile) × IsMember file (case_files h) × (found_file h caller file ≡ found)

row_of : (h : History) (caller : ℕ) (found : Found) → IsMember found (map (found_row (tables h) caller) (map file_row (case_files h))) → IsRowOf h caller found
row_of h caller found m = grind (arith, IsMadeOf, made_of)

listed_by : (policy : Policy) (h : History) (day : ℕ) (caller : Party) (wanted : Filter) (file : CaseFile) →
    is_selected policy h day caller wanted file ≡ true → allows_found policy day caller (found_file h caller.id file) ≡ true →
    is_listed policy h day caller wanted file ≡ true
listed_by policy h day caller wanted file found allow = grind (arith, found_meets)

-- what is found and allowed is listed
all_listed : (policy : Policy) (h : History) (day : ℕ) (caller : Party) (wanted : Filter) →
    Covers (all_views policy h day caller wanted) (listing policy h day caller wanted)
all_listed policy h day caller wanted = λ v m.
    let routes = routes_of (allowed_by policy caller.role action.List) wanted in
    let by : IsGiven (allowed_views policy day caller (tables h)) v routes = given_by (allowed_views policy day caller (tables h)) v routes m in
    let made = made_of (found_view day) v (filter (allows_found policy day caller) (found_by by.0 caller.id day (tables h))) by.2 in
    let allow = passed (allows_found policy day caller) made.0 (found_by by.0 caller.id day (tables h)) made.1 in
    let hit = passed (is_found by.0 caller.id day) made.0 (map (found_row (tables h) caller.id) (map file_row (case_files h))) allow.0 in
    let row : IsRowOf h caller.id made.0 = row_of h caller.id made.0 hit.0 in
    let found : is_selected policy h day caller wanted row.0 ≡ true =
    any_of_member (λ r. is_found r caller.id day (found_file h caller.id row.0)) by.0 routes by.1 (ap (is_found by.0 caller.id day) row.2 ∙ hit.1) in
    let listed : is_listed policy h day caller wanted row.0 ≡ true = listed_by policy h day caller wanted row.0 found
    (ap (allows_found policy day caller) row.2 ∙ allow.1) in
    let shown : file_view day row.0 ≡ v = ap (found_view day) row.2 ∙ made.2 in
    subst (λ w. IsMember w (listing policy h day caller wanted)) shown
    (member_made (file_view day) row.0 (filter (is_listed policy h day caller wanted) (case_files h))
    (kept (is_listed policy h day caller wanted) row.0 (case_files h) row.1 listed))

-- what is listed is found and allowed
listed_all : (policy : Policy) (h : History) (day : ℕ) (caller : Party) (wanted : Filter) →
    Covers (listing policy h day caller wanted) (all_views policy h day caller wanted)
listed_all policy h day caller wanted = λ v m.
    let routes = routes_of (allowed_by policy caller.role action.List) wanted in
    let made = made_of (file_view day) v (filter (is_listed policy h day caller wanted) (case_files h)) m in
    let file = made.0 in
    let there = passed (is_listed policy h day caller wanted) file (case_files h) made.1 in
    let by : OnePasses (λ r. is_found r caller.id day (found_file h caller.id file)) routes =
    one_passes (λ r. is_found r caller.id day (found_file h caller.id file)) routes (none_missed policy h day caller wanted file there.1) in
    let allow : allows_found policy day caller (found_file h caller.id file) ≡ true =
    right_of (meets wanted (stage_on day file) (timing_of day file)) (allows policy (file_facts h day caller file action.List)) there.1 in
    let row = member_made (found_row (tables h) caller.id) (file_row file) (map file_row (case_files h)) (member_made file_row file (case_files h) there.0) in
    let hit = kept (is_found by.0 caller.id day) (found_file h caller.id file) (map (found_row (tables h) caller.id) (map file_row (case_files h))) row by.2 in
    let view = member_made (found_view day) (found_file h caller.id file) (filter (allows_found policy day caller) (found_by by.0 caller.id day (tables h)))
    (kept (allows_found policy day caller) (found_file h caller.id file) (found_by by.0 caller.id day (tables h)) hit allow) in
    gives (allowed_views policy day caller (tables h)) v by.0 routes by.1
    (subst (λ w. IsMember w (allowed_views policy day caller (tables h) by.0)) made.2 view)

-- a listing rises by the files' numbers
pub listing_rising : (policy : Policy) (h : History) (day : ℕ) (caller : Party) (wanted : Filter) → IsHistory h →
    IsRising (λ (v : FileView). v.row.id) (listing policy h day caller wanted)
listing_rising policy h day caller wanted is =
    mapped_rising (file_view day) (λ (f : CaseFile). f.filing.id) (λ (v : FileView). v.row.id) (λ f. refl)
    (filter (is_listed policy h day caller wanted) (case_files h))
    (filtered_rising (λ (f : CaseFile). f.filing.id) (is_listed policy h day caller wanted) (case_files h) (files_rising h is))

-- What rises by number and has the views that the selections find and the rows' own facts allow is the listing.
pub listing_from_views : (policy : Policy) (h : History) (day : ℕ) (caller : Party) (wanted : Filter) → IsHistory h → (views : List FileView) →
    IsRising (λ (v : FileView). v.row.id) views →
    Covers views (all_views policy h day caller wanted) → Covers (all_views policy h day caller wanted) views → views ≡ listing policy h day caller wanted
listing_from_views policy h day caller wanted is views rising there back =
    same_covered (λ (v : FileView). v.row.id) views (listing policy h day caller wanted) rising (listing_rising policy h day caller wanted is)
    (λ v m. all_listed policy h day caller wanted v (there v m)) (λ v m. back v (listed_all policy h day caller wanted v m))

-- The same of views that were collected in another order, and then sorted and thinned.
pub listing_from_routes : (policy : Policy) (h : History) (day : ℕ) (caller : Party) (wanted : Filter) → IsHistory h → (all views : List FileView) →
    IsPermutation (all_views policy h day caller wanted) all → IsRising (λ (v : FileView). v.row.id) views →
    ((v : FileView) → Contains views v → Contains all v) → ((v : FileView) → Contains all v → Contains views v) → views ≡ listing policy h day caller wanted
listing_from_routes policy h day caller wanted is all views moved rising there back =
    let whole = all_views policy h day caller wanted in
    listing_from_views policy h day caller wanted is views rising
    (λ v m. member_from v whole (Contains-permutation all whole v (IsPermutation-sym whole all moved) (there v (contains_from v views m))))
    (λ v m. member_from v views (back v (Contains-permutation whole all v moved (contains_from v whole m))))

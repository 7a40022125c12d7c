-- Which place is named first of typed tables: the tables in their order, the rows of a table in theirs, and the rules of a row
-- in theirs. The papers come last, with what they say of their files.
use Rattle.std.specs.Prelude.{◌≡◌, ◌⊎◌, ℕ, Bool, IsTrue, IsSome, IsPermutation, if◌then◌else◌, ◌-◌, List, [], ◌∷◌, ◌++◌, map, slice_get, slice_set, Option, None, Some, option_map}
use Rattle.std.specs.List.{flat_map}
use Rattle.sqlite_value.specs.Order.{Row}
use Rattle.permit_base.specs.declared.words.Role.{Role}
use Rattle.permit_base.specs.declared.words.Role.TheVariants.{Official}
use Rattle.permit_model.specs.Caller.{Party}
use Rattle.permit_model.specs.Parcels.{Parcel, Interest}
use Rattle.permit_model.specs.Tables.{Tables, FileRow, Paper}
use Rattle.permit_model.specs.Sound.{papers_in}
use Rattle.permit_sql_rows.specs.Rows.{shown_paper}
use Rattle.permit_sql_rows.specs.Typed.{IsPaper}
use Rattle.permit_sql.specs.Tested.{has_role_at, fits_parcel, first_tally, is_next, tally_after}
use Rattle.permit_sql.specs.Named.{fits_desk_rule, fits_interest_rule, fits_file_rule, fits_paper_rule, fault_at, unended_from}
use Rattle.permit_sql.specs.declared.tally.Tally.{Tally}
use Rattle.permit_sql.specs.declared.fault.Fault.{Fault}
use Rattle.permit_sql.specs.declared.fault.Fault.TheVariants as fault
use Rattle.permit_sql.specs.declared.fault.DeskRule.{DeskRule}
use Rattle.permit_sql.specs.declared.fault.DeskRule.TheVariants as desk
use Rattle.permit_sql.specs.declared.fault.PartyRule.TheVariants as party
use Rattle.permit_sql.specs.declared.fault.ParcelRule.TheVariants as parcel
use Rattle.permit_sql.specs.declared.fault.InterestRule.{InterestRule}
use Rattle.permit_sql.specs.declared.fault.InterestRule.TheVariants as interest
use Rattle.permit_sql.specs.declared.fault.FileRule.{FileRule}
use Rattle.permit_sql.specs.declared.fault.FileRule.TheVariants as file
use Rattle.permit_sql.specs.declared.fault.PaperRule.{PaperRule}
use Rattle.permit_sql.specs.declared.fault.PaperRule.TheVariants as paper

-- ---- the rules that typed rows can break, in their order

abbrev pub desk_rules : List DeskRule
desk_rules = desk.Last ∷ desk.Records ∷ []

abbrev pub interest_rules : List InterestRule
interest_rules = interest.Parcel ∷ interest.Party ∷ []

-- on the parcel and the people of a file
abbrev pub names_rules : List FileRule
names_rules = file.Parcel ∷ file.Applicant ∷ file.Contractor ∷ file.Reviewer ∷ file.Inspector ∷ []

-- on its days
abbrev pub days_rules : List FileRule
days_rules = file.Filed ∷ file.EarlyDeadline ∷ file.LateDeadline ∷ file.Requested ∷ file.Temporary ∷ []

-- on the work
abbrev pub work_rules : List FileRule
work_rules = file.Done ∷ file.RequestStage ∷ file.Stopped ∷ file.Ask ∷ file.TemporaryStage ∷ file.NoticesStage ∷ []

abbrev pub file_rules : List FileRule
file_rules = names_rules ++ days_rules ++ work_rules ++ file.Papers ∷ []

abbrev pub paper_rules : List PaperRule
paper_rules = paper.Author ∷ paper.LateDay ∷ paper.Days ∷ paper.Text ∷ paper.Terms ∷ paper.Open ∷ []

-- ---- the first of a list

-- the first rule that doesn't hold
abbrev pub first_broken : {R : Type 0} → (R → Bool) → List R → Option R
first_broken holds [] = None
first_broken holds (rule ∷ rules) = if holds rule then first_broken holds rules else Some rule

-- this fault, or else the other
abbrev pub or_else : Option Fault → Option Fault → Option Fault
or_else None other = other
or_else (Some it) other = Some it

-- the fault of the first that has one
abbrev pub first_in : {A : Type 0} → (A → Option Fault) → List A → Option Fault
first_in fault_of [] = None
first_in fault_of (x ∷ xs) = or_else (fault_of x) (first_in fault_of xs)

-- ---- the tables

abbrev pub first_of_desk : Tables → Option Fault
first_of_desk t = option_map fault.Desk (first_broken (fits_desk_rule t.desk) desk_rules)

abbrev pub roles_in : Tables → List Role
roles_in t = map (λ (p : Party). p.role) t.parties

abbrev pub first_of_parties : Tables → Option Fault
first_of_parties t = if has_role_at (roles_in t) Official 1 then None else Some (fault.Party (Some 1) party.Official)

-- of a parcel, by the count of parties
abbrev pub of_parcel : ℕ → Parcel → Option Fault
of_parcel parties p = if fits_parcel parties p then None else Some (fault.Parcel (Some p.id) parcel.Owner)

-- of an interest, by the counts of parcels and parties
abbrev pub of_interest : (parcels parties : ℕ) → Interest → Option Fault
of_interest parcels parties i =
    option_map (fault.Interest (Some i.parcel) (Some i.party)) (first_broken (λ rule. fits_interest_rule parcels parties rule i) interest_rules)

-- of a file, by the roles of the parties, the count of parcels and the last day
abbrev pub of_file : List Role → (parcels last : ℕ) → FileRow → Option Fault
of_file roles parcels last f = option_map (fault.File (Some f.id)) (first_broken (λ rule. fits_file_rule roles parcels last rule f.state) file_rules)

-- of a paper alone, by the count of parties and the last day
abbrev pub of_paper : (parties last : ℕ) → Paper → Option Fault
of_paper parties last p =
    option_map (fault.Paper (Some p.file) (Some p.number)) (first_broken (λ rule. fits_paper_rule parties last rule p) paper_rules)

-- of a paper after the tally of its file, if there is one
abbrev pub of_turn : Paper → Option Tally → Option Fault
of_turn p None = Some (fault.Paper (Some p.file) (Some p.number) paper.File)
of_turn p (Some u) = if is_next u p then None else Some (fault_at u p)

-- the tallies of the files once the paper is read
abbrev pub told_after : List Tally → Paper → Option Tally → List Tally
told_after told p None = told
told_after told p (Some u) = slice_set told (p.file - 1) (tally_after u p)

-- of papers that are read, each after the tally of its file; and then of the files that they don't end
abbrev pub of_papers : (parties last : ℕ) → List Tally → List Paper → Option Fault
of_papers parties last told [] = unended_from 1 told
of_papers parties last told (p ∷ ps) =
    let here = slice_get told (p.file - 1) in
    or_else (of_paper parties last p) (or_else (of_turn p here) (of_papers parties last (told_after told p here) ps))

-- the papers of each file, the files in their order
abbrev pub papers_in_order : Tables → List Paper
papers_in_order t = flat_map (λ (f : FileRow). papers_in t f.id) t.files

abbrev pub first_of_papers : Tables → Option Fault
first_of_papers t = of_papers t.desk.parties t.desk.last (map (λ (f : FileRow). first_tally f.state) t.files) (papers_in_order t)

abbrev pub first_of_parcels : Tables → Option Fault
first_of_parcels t = first_in (of_parcel t.desk.parties) t.parcels

abbrev pub first_of_interests : Tables → Option Fault
first_of_interests t = first_in (of_interest t.desk.parcels t.desk.parties) t.interests

abbrev pub first_of_files : Tables → Option Fault
first_of_files t = first_in (of_file (roles_in t) t.desk.parcels t.desk.last) t.files

-- of all but the desk
abbrev pub first_of_rows : Tables → Option Fault
first_of_rows t =
    or_else (first_of_parties t)
    (or_else (or_else (first_of_parcels t) (first_of_interests t)) (or_else (first_of_files t) (first_of_papers t)))

abbrev pub first_of : Tables → Option Fault
first_of t = or_else (first_of_desk t) (first_of_rows t)

-- it is the first of the interests, which are in an order that the database leaves open
abbrev pub IsFirstInterest : (parcels parties : ℕ) → List Interest → Option Fault → Type 0
IsFirstInterest parcels parties interests found =
    (given : List Interest) × IsPermutation interests given × (found ≡ first_in (of_interest parcels parties) given)

-- it is what is first of the tables, with their interests in some order
abbrev pub IsFirstWith : Tables → (Tables → Option Fault) → Option Fault → Type 0
IsFirstWith t first found = (given : List Interest) × IsPermutation t.interests given × (found ≡ first (record t { interests = given }))

abbrev pub IsFirst : Tables → Option Fault → Type 0
IsFirst t = IsFirstWith t first_of

-- ---- what a taker reports of a row

-- a row that is passed breaks nothing
abbrev pub Passes : {X : Type 0} → (X → Type 0) → (X → Row) → (X → Option Fault) → Row → Type 0
Passes {X} IsGood shown fault_of row = (x : X) → IsGood x → row ≡ shown x → fault_of x ≡ None

-- the fault that is reported is that of the row
abbrev pub Names : {X : Type 0} → (X → Type 0) → (X → Row) → (X → Option Fault) → Row → Option Fault → Type 0
Names {X} IsGood shown fault_of row found = (x : X) → IsGood x → row ≡ shown x → (found ≡ fault_of x) × IsSome found

-- of a paper, with the tallies of the files before it and after it
abbrev pub ReadsPaper : (parties last : ℕ) → List Tally → Row → List Tally → Type 0
ReadsPaper parties last before row after =
    (p : Paper) → IsPaper p → row ≡ shown_paper p → (or_else (of_paper parties last p) (of_turn p (slice_get before (p.file - 1))) ≡ None)
    × (after ≡ told_after before p (slice_get before (p.file - 1)))

abbrev pub NamesPaper : (parties last : ℕ) → List Tally → Row → Option Fault → Bool → Type 0
NamesPaper parties last before row found lacks_memory =
    (p : Paper) → IsPaper p → row ≡ shown_paper p
    → ((found ≡ or_else (of_paper parties last p) (of_turn p (slice_get before (p.file - 1)))) × IsSome found) ⊎ IsTrue lacks_memory

-- The rows of the tables as they are stored: none is 0 for a party and for an ask, and -1 elsewhere.
use Rattle.std.specs.Prelude.{ℕ, pos, negsuc, [], ◌∷◌, ◌++◌, Option, Some, None, option_map, Bool, true, false}
use Rattle.sqlite.specs.declared.types.Value.{Value}
use Rattle.sqlite.specs.declared.types.Value.TheVariants.{Null, Int, Text}
use Rattle.sqlite_value.specs.Order.{Row}
use Rattle.permit_base.specs.declared.words.Step.{Step}
use Rattle.permit_model.specs.Codes.{role_code, kind_code, step_code, stage_code, sort_code}
use Rattle.permit_model.specs.Caller.{Party}
use Rattle.permit_model.specs.Parcels.{Parcel, Interest}
use Rattle.permit_model.specs.Tables.{Desk, FileRow, Paper, State as FileState, version_of}
use Rattle.permit_model.specs.Routes.{Found}

-- ---- values

-- a number as it is stored
abbrev pub int : ℕ → Value
int n = Int (pos n)

-- a party or the days of an ask; 0 means none
abbrev pub or_zero : Option ℕ → Value
or_zero None = int 0
or_zero (Some n) = int n

-- a day; -1 means none
abbrev pub or_minus_one : Option ℕ → Value
or_minus_one None = Int (negsuc 0)
or_minus_one (Some n) = int n

-- a party that another table may not name; Null means none
abbrev pub or_null : Option ℕ → Value
or_null None = Null
or_null (Some n) = int n

-- a step by its code; -1 means none
abbrev pub step_value : Option Step → Value
step_value step = or_minus_one (option_map step_code step)

-- 1 or 0
abbrev pub flag : Bool → Value
flag true = int 1
flag false = int 0

-- ---- what a query shows of a row, with its number first

-- of a party
abbrev pub shown_party : Party → Row
shown_party p = int p.id ∷ Text p.name ∷ int (role_code p.role) ∷ Text p.digest ∷ []

-- of a parcel
abbrev pub shown_parcel : Parcel → Row
shown_parcel p = int p.id ∷ Text p.lot ∷ Text p.address ∷ int p.owner ∷ []

-- of a file
abbrev pub shown_file : FileRow → Row
shown_file f =
    int f.id ∷ int f.state.parcel ∷ int f.state.applicant ∷ or_zero f.state.contractor ∷ or_zero f.state.reviewer ∷ or_zero f.state.inspector
    ∷ int (kind_code f.state.kind)
    ∷ int f.valuation ∷ Text f.description ∷ int f.state.filed ∷ int (stage_code f.state.stage) ∷ or_minus_one f.state.deadline ∷ int f.state.done
    ∷ step_value f.state.request
    ∷ or_minus_one f.state.requested ∷ or_zero f.state.ask ∷ flag f.state.stopped ∷ int f.state.notices ∷ int f.state.papers ∷ or_minus_one f.state.temporary
    ∷ []

-- of a file as a selection finds it
abbrev pub shown_found : Found → Row
shown_found f = shown_file f.row ++ or_null f.owner ∷ flag f.conflict ∷ []

-- of a paper
abbrev pub shown_paper : Paper → Row
shown_paper p = int p.file ∷ int p.number ∷ int p.day ∷ int p.author ∷ int (sort_code p.sort) ∷ int p.days ∷ Text p.text ∷ Text p.terms ∷ flag p.is_open ∷ []

-- of an interest
abbrev pub shown_interest : Interest → Row
shown_interest i = int i.parcel ∷ int i.party ∷ []

-- of the desk, which keeps the version
abbrev pub shown_desk : Desk → Row
shown_desk d = int 1 ∷ int (version_of d.edition) ∷ int d.last ∷ int d.parties ∷ int d.parcels ∷ int d.files ∷ []

-- of the upgrade, by the count of files then
abbrev pub shown_upgrade : ℕ → Row
shown_upgrade files = int 1 ∷ int files ∷ []

-- what sets a file's row: its number, and what may change in it
abbrev pub row_params : ℕ → FileState → Row
row_params id s =
    int id ∷ or_zero s.contractor ∷ or_zero s.reviewer ∷ or_zero s.inspector ∷ int (kind_code s.kind) ∷ int s.filed ∷ int (stage_code s.stage)
    ∷ or_minus_one s.deadline ∷ int s.done ∷ step_value s.request
    ∷ or_minus_one s.requested ∷ or_zero s.ask ∷ flag s.stopped ∷ int s.notices ∷ int s.papers ∷ or_minus_one s.temporary ∷ []

-- ---- the rows in the trees: a number that is the rowid comes before the columns, and Null is in its column

-- the desk's one row
abbrev pub desk_row : Desk → Row
desk_row d = int 1 ∷ Null ∷ int (version_of d.edition) ∷ int d.last ∷ int d.parties ∷ int d.parcels ∷ int d.files ∷ []

-- the one row of the upgrade
abbrev pub upgrade_row : ℕ → Row
upgrade_row files = int 1 ∷ Null ∷ int files ∷ []

-- the row of a party
abbrev pub party_row : Party → Row
party_row p = int p.id ∷ Null ∷ Text p.name ∷ int (role_code p.role) ∷ Text p.digest ∷ []

-- the row of a parcel
abbrev pub parcel_row : Parcel → Row
parcel_row p = int p.id ∷ Null ∷ Text p.lot ∷ Text p.address ∷ int p.owner ∷ []

-- the row of a file
abbrev pub file_row : FileRow → Row
file_row f =
    int f.id ∷ Null ∷ int f.state.parcel ∷ int f.state.applicant ∷ or_zero f.state.contractor ∷ or_zero f.state.reviewer ∷ or_zero f.state.inspector
    ∷ int (kind_code f.state.kind)
    ∷ int f.valuation ∷ Text f.description ∷ int f.state.filed ∷ int (stage_code f.state.stage) ∷ or_minus_one f.state.deadline ∷ int f.state.done
    ∷ step_value f.state.request
    ∷ or_minus_one f.state.requested ∷ or_zero f.state.ask ∷ flag f.state.stopped ∷ int f.state.notices ∷ int f.state.papers ∷ or_minus_one f.state.temporary
    ∷ []

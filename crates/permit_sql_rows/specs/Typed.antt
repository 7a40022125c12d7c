-- Rows within the limits of the program's types.
use Rattle.std.specs.Prelude.{◌≡◌, ℕ, zero, suc, ◌<◌, ◌≤◌, ◌^◌, IsTrue, IfSome, IsUtf8, [], ◌∷◌}
use Rattle.std.specs.Prelude.{List, Bool}
use Rattle.sqlite.specs.declared.types.Value.{Value}
use Rattle.sqlite.specs.declared.types.Value.TheVariants.{Text}
use Rattle.sqlite_value.specs.Order.{Row, column}
use Rattle.permit_base.specs.Limits.{latest_day, most_cents, most_records, most_papers, most_days}
use Rattle.permit_base.specs.Texts.{is_printable, is_lot, is_digest}
use Rattle.permit_model.specs.Codes.{kind_code, stage_code}
use Rattle.permit_model.specs.Caller.{Party}
use Rattle.permit_model.specs.Parcels.{Parcel, Interest}
use Rattle.permit_model.specs.SoundState.{IsSoundState}
use Rattle.permit_model.specs.Tables.{Desk, FileRow, State, Paper}
use Rattle.permit_sql_rows.specs.Rows.{int, or_zero, or_minus_one, step_value, flag}

-- so many values of a row, from a place on
abbrev pub firsts : ℕ → ℕ → Row → Row
firsts zero at row = []
firsts (suc n) at row = column row at ∷ firsts n (suc at) row

-- the number of a party, a parcel or a file
abbrev pub IsObject : ℕ → Type 0
IsObject n = (0 < n) × (n ≤ most_records)

-- a count of 32 bits
abbrev pub IsCount : ℕ → Type 0
IsCount n = n < 2 ^ 32

-- a string in UTF-8
abbrev pub IsString : Value → Type 0
IsString v = (t : List ℕ) × (v ≡ Text t) × IsUtf8 t

-- a string in UTF-8 that passes the test
abbrev pub IsStringOf : (List ℕ → Bool) → Value → Type 0
IsStringOf passes v = (t : List ℕ) × (v ≡ Text t) × IsUtf8 t × IsTrue (passes t)

pub record IsDesk (d : Desk) : Type 0 where
  pub last : d.last ≤ latest_day
  pub parties : IsCount d.parties
  pub parcels : IsCount d.parcels
  pub files : IsCount d.files

pub record IsParty (p : Party) : Type 0 where
  pub id : IsObject p.id
  pub name : IsTrue (is_printable p.name)
  pub utf8 : IsUtf8 p.name
  pub digest : IsTrue (is_digest p.digest)

pub record IsParcel (p : Parcel) : Type 0 where
  pub id : IsObject p.id
  pub lot : IsTrue (is_lot p.lot)
  pub address : IsTrue (is_printable p.address)
  pub utf8 : IsUtf8 p.address
  pub owner : IsObject p.owner

pub record IsInterest (i : Interest) : Type 0 where
  pub parcel : IsObject i.parcel
  pub party : IsObject i.party

-- the numbers of a state, beside the facts that hold of it as a whole
pub record IsState (s : State) : Type 0 where
  pub parcel : IsObject s.parcel
  pub applicant : IsObject s.applicant
  pub contractor : IfSome s.contractor IsObject
  pub reviewer : IfSome s.reviewer IsObject
  pub inspector : IfSome s.inspector IsObject
  pub filed : s.filed ≤ latest_day
  pub deadline : IfSome s.deadline IsCount
  pub done : s.done < 2 ^ 8
  pub requested : IfSome s.requested (λ day. day ≤ latest_day)
  pub ask : IfSome s.ask (λ days. (0 < days) × (days ≤ most_days))
  pub notices : s.notices < 2 ^ 16
  pub papers : s.papers < 2 ^ 16
  pub temporary : IfSome s.temporary IsCount

pub record IsFile (f : FileRow) : Type 0 where
  pub id : IsObject f.id
  pub state : IsState f.state
  pub sound : IsSoundState f.state
  pub valuation : f.valuation ≤ most_cents
  pub description : IsTrue (is_printable f.description)
  pub utf8 : IsUtf8 f.description

pub record IsPaper (p : Paper) : Type 0 where
  pub file : IsObject p.file
  pub number : (0 < p.number) × (p.number ≤ most_papers)
  pub day : p.day ≤ latest_day
  pub author : IsObject p.author
  pub days : IsCount p.days
  pub text : IsUtf8 p.text
  pub terms : IsUtf8 p.terms

-- the state's values in a row that a query of files shows
pub record ShowsState (row : Row) (s : State) : Type 0 where
  pub parcel : column row 1 ≡ int s.parcel
  pub applicant : column row 2 ≡ int s.applicant
  pub contractor : column row 3 ≡ or_zero s.contractor
  pub reviewer : column row 4 ≡ or_zero s.reviewer
  pub inspector : column row 5 ≡ or_zero s.inspector
  pub kind : column row 6 ≡ int (kind_code s.kind)
  pub filed : column row 9 ≡ int s.filed
  pub stage : column row 10 ≡ int (stage_code s.stage)
  pub deadline : column row 11 ≡ or_minus_one s.deadline
  pub done : column row 12 ≡ int s.done
  pub request : column row 13 ≡ step_value s.request
  pub requested : column row 14 ≡ or_minus_one s.requested
  pub ask : column row 15 ≡ or_zero s.ask
  pub stopped : column row 16 ≡ flag s.stopped
  pub notices : column row 17 ≡ int s.notices
  pub papers : column row 18 ≡ int s.papers
  pub temporary : column row 19 ≡ or_minus_one s.temporary

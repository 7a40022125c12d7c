-- What a step makes of sound tables, whether or not they are a history's.
use Rattle.std.specs.Prelude.{◌≡◌, ◌≤◌, ℕ, Bool, false, Option, None, Some, option_map, find, ◌==◌, ◌&&◌, Result, Ok, Err, IsTrue, ⊤}
use Rattle.std.specs.List.{list_any}
use Rattle.permit_base.specs.declared.words.Role.{Role}
use Rattle.permit_base.specs.Limits.{latest_day}
use Rattle.permit_model.specs.Caller.{Party}
use Rattle.permit_model.specs.Tables.{State, FileRow, Paper, Tables}
use Rattle.permit_model.specs.Sound.{IsSoundTables, has_party}
use Rattle.permit_store.specs.declared.change.Change.{Change}
use Rattle.permit_store.specs.declared.store.StoreError.{StoreError}
use Rattle.permit_store.specs.Changes.{changed, Fits}
use Rattle.permit_store.specs.Frames.{StoreView, OverTables}
use Rattle.permit_office.specs.declared.reply.Reply.{Reply as Given}
use Rattle.permit_office.specs.declared.reply.Reply.TheVariants as given

-- ---- what a step leaves

-- Where the store is without doubt afterwards and held sound tables, it holds sound ones.
abbrev pub KeepsSound : StoreView → StoreView → Type 0
KeepsSound old new = OverTables old new (λ t. IsSoundTables t → (u : Tables) × new.holds u × IsSoundTables u)

-- the tables with one change, which fits them on the day, are held, and are sound
pub record IsSoundChange (holds : Tables → Type 0) (day : ℕ) (t : Tables) : Type 0 where
  pub change : Change
  pub fits : Fits t change day
  pub held : holds (changed t change day)
  pub sound : IsSoundTables (changed t change day)

-- said of a command that is done
abbrev pub OnDone : Given → Type 0 → Type 0
OnDone (given.Done number) said = said
OnDone reply said = ⊤

-- the same of an attempt, in which a call of the store may have failed
abbrev pub OnMade : Result Given StoreError → Type 0 → Type 0
OnMade (Ok reply) said = OnDone reply said
OnMade (Err e) said = ⊤

-- a command that is done makes one change of sound tables, and leaves them sound
abbrev pub MakesOne : StoreView → StoreView → ℕ → Given → Type 0
MakesOne old new day reply = OverTables old new (λ t. IsSoundTables t → OnDone reply (IsSoundChange new.holds day t))

-- ---- what is known of the tables on the way

-- the caller is there, and the day isn't below the last one, nor later than the office takes
pub record MayAct (t : Tables) (caller day : ℕ) : Type 0 where
  pub there : IsTrue (has_party t caller)
  pub in_time : t.desk.last ≤ day
  pub early : day ≤ latest_day

-- what an attempt of the caller makes of sound tables
abbrev pub MakesBy : StoreView → StoreView → ℕ → ℕ → Result Given StoreError → Type 0
MakesBy old new caller day result = OverTables old new (λ t. IsSoundTables t → MayAct t caller day → OnMade result (IsSoundChange new.holds day t))

-- the file of the number has the state
abbrev pub HasState : Tables → ℕ → State → Type 0
HasState t file state = option_map (λ (f : FileRow). f.state) (find (λ (f : FileRow). f.id == file) t.files) ≡ Some state

-- the role of the party, if one is named and there
abbrev pub role_named : Tables → Option ℕ → Option Role
role_named t None = None
role_named t (Some party) = option_map (λ (p : Party). p.role) (find (λ (p : Party). p.id == party) t.parties)

-- whether the paper, if one is named, is an open one of the file
abbrev pub is_open_in : Tables → ℕ → Option ℕ → Bool
is_open_in t file None = false
is_open_in t file (Some number) = list_any (λ (p : Paper). (p.file == file) && (p.is_open && (p.number == number))) t.papers

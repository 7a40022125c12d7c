-- The place of a store in a text.
use Rattle.std.specs.Prelude.{◌≡◌, ◌≤◌, ◌<◌, ℕ, List, length, take, Option, None, Some}
use Rattle.permit_base.specs.declared.words.Edition.TheVariants.{Second}
use Rattle.permit_model.specs.History.{edition}
use Rattle.permit_model.specs.Sound.{IsSoundTables}
use Rattle.permit_model.specs.Tables.{Tables, tables}
use Rattle.permit_replay.specs.Alike.{AreAlike}
use Rattle.permit_store.specs.Frames.{OverTables, StoreView}
use Rattle.permit_history.specs.declared.entry.Entry.{Entry}
use Rattle.permit_history.specs.LineData.{text_of}
use Rattle.permit_replay.specs.Histories.{Unsaid, Completes, history_by}
use Rattle.permit_replay.specs.declared.opening.placing.Place.{Place}
use Rattle.permit_replay.specs.Opening.{TellTables}
use Rattle.permit_replay.specs.Prefixes.{IsTextOf}

-- the tables of the history that the entries give are others, if it has the upgrade
abbrev pub TellNone : (Unsaid → Type 0) → List Entry → Tables → Type 0
TellNone begins entries t =
    (unsaid : Unsaid) → Completes begins unsaid entries → edition (history_by unsaid entries) ≡ Second
    → AreAlike (tables (history_by unsaid entries)) t → ⊥

-- so are those of each prefix of the entries
abbrev pub AreElsewhere : (Unsaid → Type 0) → List Entry → Tables → Type 0
AreElsewhere begins entries t = (count : ℕ) → count ≤ length entries → TellNone begins (take count entries) t

-- by any tokens the entries give a history with the upgrade
abbrev pub AreUpgraded : (Unsaid → Type 0) → List Entry → Type 0
AreUpgraded begins entries = (unsaid : Unsaid) → Completes begins unsaid entries → edition (history_by unsaid entries) ≡ Second

-- A prefix of so many entries gives the tables, and has the upgrade. No longer prefix gives them.
pub record StandsLast (begins : Unsaid → Type 0) (count : ℕ) (entries : List Entry) (t : Tables) : Type 0 where
  pub few : count ≤ length entries
  pub tells : TellTables begins (take count entries) t
  pub upgraded : AreUpgraded begins (take count entries)
  pub last : (more : ℕ) → count < more → more ≤ length entries → TellNone begins (take more entries) t

-- how long the longest prefix is that gives the tables, or that none does
abbrev pub IsWhere : (Unsaid → Type 0) → Option ℕ → List Entry → Tables → Type 0
IsWhere begins None entries t = AreElsewhere begins entries t
IsWhere begins (Some count) entries t = StandsLast begins count entries t

-- The text has so many whole lines, of so many bytes. Where the tables of a store that was only read are among those that its
-- prefixes give, this is the longest such prefix.
pub record IsPlaceIn (begins : Unsaid → Type 0) (bytes : List ℕ) (old new : StoreView) (place : Place) : Type 0 where
  pub entries : List Entry
  pub left : List ℕ
  pub text : IsTextOf begins bytes entries left
  pub lines : place.lines ≡ length entries
  pub size : place.length ≡ length (text_of entries)
  pub stood : OverTables old new (λ t. IsSoundTables t → IsWhere begins place.stood entries t)

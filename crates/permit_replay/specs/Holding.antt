-- What was replayed, against the history that the text gives.
use Rattle.std.specs.Prelude.{◌≡◌, ◌≤◌, ℕ, [], ◌∷◌, Option, None, Some, Result, Ok, Err, ⊤}
use Rattle.permit_base.specs.declared.words.Edition.TheVariants.{Second}
use Rattle.permit_base.specs.Limits.{latest_day}
use Rattle.permit_model.specs.History.{Founding, History, edition, last_day}
use Rattle.permit_model.specs.Machine.{IsHistory}
use Rattle.permit_model.specs.Tables.{Tables, tables}
use Rattle.permit_model.specs.Within.{AreWithinLimits}
use Rattle.permit_store.specs.declared.plain.PlainStore.{PlainStore}
use Rattle.permit_store.specs.Counts.{next_count}
use Rattle.permit_store.specs.Frames.{StoreView}
use Rattle.permit_history.specs.declared.entry.Deed.{Deed}
use Rattle.permit_replay.specs.declared.beginning.Beginning.{Beginning}
use Rattle.permit_replay.specs.declared.beginning.Beginning.TheVariants as beginning
use Rattle.permit_replay.specs.declared.beginning.CopiedTables.{CopiedTables}
use Rattle.permit_replay.specs.declared.fault.Why.{Why}
use Rattle.permit_replay.specs.declared.fault.Why.TheVariants as why
use Rattle.permit_replay.specs.declared.replayed.Replayed.{Replayed}
use Rattle.permit_replay.specs.declared.replayed.Replayed.TheVariants as replayed
use Rattle.permit_replay.specs.Histories.{Begun, Unsaid, history_with}
use Rattle.permit_replay.specs.Against.{against, against_later}

-- a history with the upgrade, whose tables are held
pub record HoldsHistory (holds : Tables → Type 0) (h : History) : Type 0 where
  pub history : IsHistory h
  pub upgraded : edition h ≡ Second
  pub held : holds (tables h)

-- The copy holds the tables of the history that was there, which is within the limits, and their digest is its own.
pub record IsCopyOf (view : PlainStore → StoreView) (copy : CopiedTables) (begun : Begun) : Type 0 where
  pub held : HoldsHistory (view copy.store).holds begun.history
  pub within : AreWithinLimits begun.history
  pub timely : last_day begun.history ≤ latest_day
  pub tables : begun.tables ≡ copy.tables

-- what isn't said agrees with what a text may begin with: nothing was there, or the history whose tables were copied
abbrev pub IsBeginning : (PlainStore → StoreView) → Beginning → Unsaid → Type 0
IsBeginning view beginning.Founding unsaid = unsaid.begun ≡ None
IsBeginning view (beginning.Copy copy) unsaid = (begun : Begun) × (unsaid.begun ≡ Some begun) × IsCopyOf view copy begun

-- nothing, the founding alone, or a history whose tables are held
abbrev pub Holds : (PlainStore → StoreView) → Unsaid → Replayed → History → Type 0
Holds view unsaid (replayed.Nothing first) h = (h ≡ []) × IsBeginning view first unsaid
Holds view unsaid (replayed.Founded founder) h =
    h ≡ record { caller = 1; day = founder.day; deed = Founding founder.name founder.digest; number = Some 1 } ∷ []
Holds view unsaid (replayed.Open store) h = HoldsHistory (view store).holds h

-- this is the reason against it; that memory was refused says nothing
abbrev pub FailsAs : Why → Option Why → Type 0
FailsAs why.Memory said = ⊤
FailsAs why.NoFounding said = said ≡ Some why.NoFounding
FailsAs why.NoCopy said = said ≡ Some why.NoCopy
FailsAs why.OtherCopy said = said ≡ Some why.OtherCopy
FailsAs why.CopyDay said = said ≡ Some why.CopyDay
FailsAs why.SecondBeginning said = said ≡ Some why.SecondBeginning
FailsAs why.SecondFounding said = said ≡ Some why.SecondFounding
FailsAs why.FirstEdition said = said ≡ Some why.FirstEdition
FailsAs why.UpgradeDay said = said ≡ Some why.UpgradeDay
FailsAs why.SecondUpgrade said = said ≡ Some why.SecondUpgrade
FailsAs (why.Refused refusal) said = said ≡ Some (why.Refused refusal)
FailsAs why.Number said = said ≡ Some why.Number

-- there is no reason against it, or this one
abbrev pub IsAgainst : {A : Type 0} → Result A Why → Option Why → Type 0
IsAgainst (Ok done) said = said ≡ None
IsAgainst (Err why) said = said ≡ Some why

-- the deed is taken after the history where there is no reason against it, and then it is held with those before it
abbrev pub Takes : (PlainStore → StoreView) → Unsaid → History → ℕ → Deed → Result Replayed Why → Type 0
Takes view unsaid h day done (Ok next) = (against unsaid h day done ≡ None) × Holds view unsaid next (history_with unsaid h day done)
Takes view unsaid h day done (Err why) = FailsAs why (against unsaid h day done)

-- likewise of a deed after the founding and the upgrade
abbrev pub Follows : (Tables → Type 0) → Unsaid → History → ℕ → Deed → Result Unit Why → Type 0
Follows holds unsaid h day done (Ok taken) = (against_later unsaid h day done ≡ None) × HoldsHistory holds (history_with unsaid h day done)
Follows holds unsaid h day done (Err why) = FailsAs why (against_later unsaid h day done)

-- the count of a store's failed calls after an entry was followed: that memory was refused is said where a call failed, and nowhere else
abbrev pub failed_count : Result Unit Why → ℕ → ℕ
failed_count (Err why.Memory) n = next_count n
failed_count result n = n

-- after an error, unless a command was done whose number is another than the entry says
abbrev pub UnlessNumbered : Result Unit Why → Type 0 → Type 0
UnlessNumbered (Ok taken) said = ⊤
UnlessNumbered (Err why.Number) said = ⊤
UnlessNumbered (Err why.Memory) said = said
UnlessNumbered (Err why.NoFounding) said = said
UnlessNumbered (Err why.NoCopy) said = said
UnlessNumbered (Err why.OtherCopy) said = said
UnlessNumbered (Err why.CopyDay) said = said
UnlessNumbered (Err why.SecondBeginning) said = said
UnlessNumbered (Err why.SecondFounding) said = said
UnlessNumbered (Err why.FirstEdition) said = said
UnlessNumbered (Err why.UpgradeDay) said = said
UnlessNumbered (Err why.SecondUpgrade) said = said
UnlessNumbered (Err (why.Refused refusal)) said = said

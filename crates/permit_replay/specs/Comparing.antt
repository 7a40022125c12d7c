-- What comparing two stores says.
use Rattle.std.specs.Prelude.{◌≡◌, ◌≤◌, ◌⊎◌, ℕ, Option, None, Some}
use Rattle.permit_base.specs.declared.words.Edition.TheVariants.{First}
use Rattle.permit_model.specs.Tables.{State, Tables}
use Rattle.permit_store.specs.Counts.{next_count}
use Rattle.permit_store.specs.Frames.{StoreView}
use Rattle.permit_replay.specs.declared.alike.compare.Table.{Table}
use Rattle.permit_replay.specs.declared.alike.compare.Table.TheVariants as table
use Rattle.permit_replay.specs.declared.alike.differing.Difference.{Difference}
use Rattle.permit_replay.specs.Differing.{HaveSameBehind, HaveSameFile, HaveSameParcel, HaveSameParty, IsFirstDifference}

-- calls that read: what is held stays, no doubt goes, and no commit was called
pub record Looks (old new : StoreView) : Type 0 where
  pub kept : (t : Tables) → old.holds t → new.holds t
  pub doubt : old.doubt ≤ new.doubt
  pub commits : new.commits ≡ old.commits

-- said of all tables that the two stores held before, where both are without doubt afterwards
abbrev pub OverBoth : (old new old_other new_other : StoreView) → (Tables → Tables → Type 0) → Type 0
OverBoth old new old_other new_other said =
    new.doubt ≡ 0 → new_other.doubt ≡ 0 → (t u : Tables) → old.holds t → old_other.holds u → said t u

-- ---- calls that failed

-- no call of the store failed
abbrev pub NoneFailed : (old new : StoreView) → Type 0
NoneFailed old new = new.failed ≡ old.failed

-- exactly one call of the store failed
abbrev pub OneFailed : (old new : StoreView) → Type 0
OneFailed old new = new.failed ≡ next_count old.failed

-- no call of either store failed
abbrev pub NeitherFailed : (old new old_other new_other : StoreView) → Type 0
NeitherFailed old new old_other new_other = NoneFailed old new × NoneFailed old_other new_other

-- exactly one call failed: one of the first store, or one of the second
abbrev pub EitherFailed : (old new old_other new_other : StoreView) → Type 0
EitherFailed old new old_other new_other =
    (OneFailed old new × NoneFailed old_other new_other) ⊎ (NoneFailed old new × OneFailed old_other new_other)

-- exactly one call failed, or else none, and the tables of the first store are of the first edition
abbrev pub FailedForCause : (old new old_other new_other : StoreView) → Tables → Type 0
FailedForCause old new old_other new_other t =
    EitherFailed old new old_other new_other ⊎ ((t.desk.edition ≡ First) × NeitherFailed old new old_other new_other)

-- ---- places

-- the two have the same row of a table under this number
abbrev pub HaveSameRow : Table → Tables → Tables → ℕ → Type 0
HaveSameRow table.Parties t u number = HaveSameParty t u number
HaveSameRow table.Parcels t u number = HaveSameParcel t u number
HaveSameRow table.Files t u number = HaveSameFile t u number

-- the first place at which the two differ, or none, where they have the same after their desks
abbrev pub Finds : Tables → Tables → Option Difference → Type 0
Finds t u None = HaveSameBehind t u
Finds t u (Some place) = IsFirstDifference t u place

-- ---- parts of a file's row

-- the two were filed alike
abbrev pub HaveSameFiling : State → State → Type 0
HaveSameFiling a b =
    (a.parcel ≡ b.parcel) × (a.applicant ≡ b.applicant) × (a.kind ≡ b.kind) × (a.edition ≡ b.edition) × (a.filed ≡ b.filed)

abbrev pub HaveSamePeople : State → State → Type 0
HaveSamePeople a b = (a.contractor ≡ b.contractor) × (a.reviewer ≡ b.reviewer) × (a.inspector ≡ b.inspector)

-- the two have the same stage and the same ends
abbrev pub HaveSameCourse : State → State → Type 0
HaveSameCourse a b = (a.stage ≡ b.stage) × (a.deadline ≡ b.deadline) × (a.ask ≡ b.ask) × (a.temporary ≡ b.temporary)

abbrev pub HaveSameWork : State → State → Type 0
HaveSameWork a b =
    (a.done ≡ b.done) × (a.request ≡ b.request) × (a.requested ≡ b.requested) × (a.stopped ≡ b.stopped) × (a.notices ≡ b.notices)
    × (a.papers ≡ b.papers)

-- A change with the memory that it needs.
use Rattle.std.specs.Prelude.{◌≡◌, ◌<◌, ◌≤◌, ℕ, ◌+◌, ◌^◌, List, [], ◌∷◌, length, vec_capacity, ⊤}
use Rattle.std.specs.HashMap.{spare}
use Rattle.std.specs.HashSet as set
use Rattle.permit_base.specs.Limits.{most_records}
use Rattle.permit_model.specs.Tables.{Paper}
use Rattle.permit_store.specs.Changes.{paper_of}
use Rattle.permit_store.specs.Plain.{KeptFile, papers_at}
use Rattle.permit_store.specs.declared.change.Change.{Change}
use Rattle.permit_store.specs.declared.change.Change.TheVariants.{NewParty, NewParcel, NewOwner, NewInterest, NewFile, NewRow}
use Rattle.permit_store.specs.declared.change.RowEffect.{RowEffect}
use Rattle.permit_store.specs.declared.change.RowEffect.TheVariants as effect
use Rattle.permit_store.specs.declared.plain.interests.Interests.{Interests}
use Rattle.permit_store.specs.declared.plain.parcels.Parcels.{Parcels}
use Rattle.permit_store.specs.declared.plain.parties.Parties.{Parties}
use Rattle.permit_store.specs.declared.plain.ready.Ready.{Ready}
use Rattle.permit_store.specs.declared.plain.ready.Ready.TheVariants as is

-- there may be one more row, and there is room for it
abbrev pub CanTake : ℕ → ℕ → Type 0
CanTake rows room = (rows < most_records) × (rows < room)

-- the paper alone, which a list of so many papers can take in: a list holds fewer than 2 ^ 63
abbrev pub IsReadyPaper : Paper → ℕ → Ready → Type 0
IsReadyPaper paper count ready = (ready ≡ is.Paper (paper ∷ [])) × (count + 1 < 2 ^ 63)

abbrev pub IsReadyEffect : ℕ → ℕ → ℕ → RowEffect → List Paper → Ready → Type 0
IsReadyEffect file count day effect.None papers ready = ⊤
IsReadyEffect file count day (effect.NoticeClosed number) papers ready = ⊤
IsReadyEffect file count day (effect.Paper new) papers ready = IsReadyPaper (paper_of file count day new) (length papers) ready

-- there may be one more party, and there is room for it and for its mark
pub record TakesParty (parties : Parties) : Type 0 where
  pub rows : CanTake (length parties.rows.items) (vec_capacity parties.rows)
  pub marks : 0 < spare parties.tokens

-- there may be one more parcel, and there is room for it and for its mark
pub record TakesParcel (parcels : Parcels) : Type 0 where
  pub rows : CanTake (length parcels.rows.items) (vec_capacity parcels.rows)
  pub marks : 0 < spare parcels.lots

-- there is room for one more interest
pub record TakesInterest (interests : Interests) : Type 0 where
  pub rows : length interests.rows.items < vec_capacity interests.rows
  pub pairs : 0 < set.spare interests.pairs

-- the row that the change adds, with room for it among these rows, of whose files so many have room
abbrev pub IsReady : Parties → Parcels → Interests → List KeptFile → ℕ → Ready → Change → ℕ → Type 0
IsReady ps ls ns fs fm ready (NewParty name role digest) day =
    (ready ≡ is.Party (record { id = length ps.rows.items + 1; name = name.now; role = role; digest = digest })) × TakesParty ps
IsReady ps ls ns fs fm ready (NewParcel lot address owner) day =
    (ready ≡ is.Parcel (record { id = length ls.rows.items + 1; lot = lot.now; address = address.now; owner = owner })) × TakesParcel ls
IsReady ps ls ns fs fm ready (NewOwner parcel owner) day = ⊤
IsReady ps ls ns fs fm ready (NewInterest parcel party) day = TakesInterest ns
IsReady ps ls ns fs fm ready (NewFile state valuation description) day =
    (ready ≡ is.File (record { id = length fs + 1; state = state; valuation = valuation; description = description.now })) × CanTake (length fs) fm
IsReady ps ls ns fs fm ready (NewRow file state effect) day =
    (file ≤ length fs) × IsReadyEffect file state.papers day effect (papers_at file fs) ready

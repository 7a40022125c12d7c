-- What contracts see of a store with its tables in memory beside it.
use Rattle.std.specs.Prelude.{◌≡◌, ◌⊎◌, ℕ, ◌+◌, ◌%◌, ◌^◌}
use Rattle.permit_model.specs.Tables.{Tables}
use Rattle.permit_store.specs.Frames.{StoreView, HasOneDesk}

-- It is without doubt, and can be read.
abbrev pub CanBeRead : StoreView → Type 0
CanBeRead s = (s.doubt ≡ 0) × HasOneDesk s

-- The tables are those of the store that keeps them. While that store can be read, memory holds them too; where it can't, memory
-- says nothing of them. The doubt is that of the store that keeps them. The file rows handed out are those of both.
abbrev pub both : StoreView → StoreView → (failed commits : ℕ) → StoreView
both kept memory failed commits = record {
  holds = λ t. kept.holds t × (CanBeRead kept → memory.holds t);
  doubt = kept.doubt;
  handed = (kept.handed + memory.handed) % 2 ^ 64;
  failed = failed;
  commits = commits;
}

-- what a call may leave where a crash is inside it: of one store and then the other, where the one keeps these tables
abbrev pub Crash : Type 0 → Type 1
Crash S = S → S → Tables → ((Tables → Type 0) → Type 0) → Type 0

-- It was asked for its desk, or wasn't asked.
abbrev pub WasAsked : {S : Type 0} → Crash S → S → S → Tables → Type 0
WasAsked crash old new t = (new ≡ old) ⊎ crash old new t (λ _. ⊥)

-- The store that keeps the tables was asked for its desk, or wasn't asked. Then a crash leaves of it what the call on it says,
-- where there was one.
abbrev pub LeftBy : {S : Type 0} → Crash S → S → S → Tables → ((Tables → Type 0) → Type 0) → Type 0
LeftBy {S} crash old new t made = (between : S) × WasAsked crash old between t × ((new ≡ between) ⊎ crash between new t made)

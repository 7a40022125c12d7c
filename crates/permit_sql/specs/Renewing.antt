-- What a renewal of a token makes of a database.
use Rattle.std.specs.Prelude.{◌≡◌, ℕ, List, None, IsTrue}
use Rattle.sqlite_trees.specs.Tree.{Trees}
use Rattle.sqlite_trees.specs.declared.store.Store.{Ghosts}
use Rattle.sqlite.specs.Effect.{Database}
use Rattle.sqlite.specs.State.{State, HasCleanDisk}
use Rattle.sqlite.specs.Held.{Held, state}
use Rattle.permit_base.specs.Digests.{digest_of}
use Rattle.permit_base.specs.declared.words.Edition.TheVariants.{Second}
use Rattle.permit_model.specs.History.{History}
use Rattle.permit_model.specs.Machine.{IsHistory}
use Rattle.permit_model.specs.Renewal.{renewed, with_renewed, against_renewal}
use Rattle.permit_model.specs.Tables.{Tables, tables}
use Rattle.permit_sql_rows.specs.Kept.{Keeps}
use Rattle.permit_sql.specs.Found.{KeepsSound}
use Rattle.permit_sql.specs.Opening.{HasOtherVersion}

-- Said of all tables that the database kept before, where the disk is clean afterwards.
abbrev pub OverKept : {S : Type 0} → Ghosts S → Held S → Held S → (Tables → Type 0) → Type 0
OverKept g old new said = HasCleanDisk (state g new) → (t : Tables) → Keeps t (state g old).now → said t

-- There was no reason against renewing the tables that the database kept, and these are the trees of one that keeps them renewed.
abbrev pub IsRenewed : ℕ → List ℕ → Database → Trees → Type 0
IsRenewed party digest old trees =
    (t : Tables) → Keeps t old → (against_renewal t.parties party digest ≡ None)
    × ((db : Database) × Keeps (with_renewed party digest t) db × (trees ≡ db.trees))

-- The party has the token, in tables that were sound and are so.
pub record RenewsToken (party : ℕ) (token : List ℕ) (old new : State) : Type 0 where
  pub made : HasCleanDisk new → (t : Tables) → Keeps t old.now → Keeps (with_renewed party (digest_of token) t) new.now
  pub history : HasCleanDisk new → (h : History) → IsHistory h → Keeps (tables h) old.now
      → IsHistory (renewed party token h) × Keeps (tables (renewed party token h)) new.now
  pub admitted : HasCleanDisk new → (t : Tables) → Keeps t old.now → against_renewal t.parties party (digest_of token) ≡ None
  pub tested : HasCleanDisk new → KeepsSound old.now
  pub sound : HasCleanDisk new → KeepsSound new.now
  pub opened : HasCleanDisk new → IsTrue new.is_open
  pub first : HasCleanDisk new → ¬ HasOtherVersion Second old.now

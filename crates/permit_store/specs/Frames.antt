-- What contracts see of a store, and what its calls leave as it was.
use Rattle.std.specs.Prelude.{◌≡◌, ◌≤◌, ℕ, Option, Result, OnOk, OnErr, ⊤}
use Rattle.permit_model.specs.History.{History}
use Rattle.permit_model.specs.Tables.{Tables, tables}
use Rattle.permit_model.specs.Machine.{IsHistory}
use Rattle.permit_store.specs.Counts.{next_count, failed_after, handed_after}

pub record StoreView : Type 1 where
  -- it holds these tables
  pub holds : Tables → Type 0
  -- 0 while what keeps the tables has given back what was written
  pub doubt : ℕ
  -- how many file rows were handed out, how many calls failed, and how many commits were called; these counts have 64
  -- bits and wrap
  pub handed : ℕ
  pub failed : ℕ
  pub commits : ℕ

-- It can be read, and so doesn't hold any tables whatever: all that it holds have one desk.
abbrev pub HasOneDesk : StoreView → Type 0
HasOneDesk s = (t u : Tables) → s.holds t → s.holds u → t.desk ≡ u.desk

-- Said of all tables that the store held before, where it is without doubt afterwards.
abbrev pub OverTables : StoreView → StoreView → (Tables → Type 0) → Type 0
OverTables old new said = new.doubt ≡ 0 → (t : Tables) → old.holds t → said t

-- Said of every history whose tables the store held before, where it is without doubt afterwards.
abbrev pub OverHistory : StoreView → StoreView → (History → Type 0) → Type 0
OverHistory old new said = new.doubt ≡ 0 → (h : History) → IsHistory h → old.holds (tables h) → said h

-- What is read stays, and no doubt goes. After a success a store that is without doubt can be read, where that was sure.
-- A failure counts, no commit was called, and this is the count of file rows handed out.
pub record Reads {A E : Type 0} (sure : Type 0) (count : ℕ) (old new : StoreView) (result : Result A E) : Type 0 where
  pub kept : (t : Tables) → old.holds t → new.holds t
  pub one : new.doubt ≡ 0 → sure → OnOk result (HasOneDesk new)
  pub doubt : old.doubt ≤ new.doubt
  pub failed : new.failed ≡ failed_after result old.failed
  pub commits : new.commits ≡ old.commits
  pub handed : new.handed ≡ count

-- a call that reads
abbrev pub IsRead : {A E : Type 0} → StoreView → StoreView → Result A E → Type 0
IsRead old new result = Reads ⊤ old.handed old new result

-- a call that looks a file's row up, and hands it out
abbrev pub IsLookUp : {A E : Type 0} → StoreView → StoreView → Result (Option A) E → Type 0
IsLookUp old new result = Reads ⊤ (handed_after result old.handed) old new result

-- A commit that fails leaves the tables, and no doubt goes. After a success a store that is without doubt can be read. A
-- failure counts, and so does the commit.
pub record IsCommit {A E : Type 0} (old new : StoreView) (result : Result A E) : Type 0 where
  pub kept : (t : Tables) → old.holds t → OnErr result (new.holds t)
  pub one : new.doubt ≡ 0 → OnOk result (HasOneDesk new)
  pub doubt : old.doubt ≤ new.doubt
  pub failed : new.failed ≡ failed_after result old.failed
  pub commits : new.commits ≡ next_count old.commits
  pub handed : new.handed ≡ old.handed

-- What giving a party another digest leaves.
use Rattle.std.specs.Prelude.{◌≡◌, ℕ, List, None, Some, Result, Ok, Err}
use Rattle.permit_base.specs.declared.refusal.Refusal.{Refusal}
use Rattle.permit_model.specs.Tables.{Tables}
use Rattle.permit_model.specs.Renewal.{with_renewed, against_renewal}
use Rattle.permit_store.specs.declared.store.StoreError.{StoreError}

-- the party has the digest where there is no reason against it; otherwise the tables are as before
abbrev pub Renews : (Tables → Type 0) → ℕ → List ℕ → Tables → Result (Result Unit Refusal) StoreError → Type 0
Renews holds party digest t (Ok (Ok renewed)) = (against_renewal t.parties party digest ≡ None) × holds (with_renewed party digest t)
Renews holds party digest t (Ok (Err why)) = (against_renewal t.parties party digest ≡ Some why) × holds t
Renews holds party digest t (Err e) = holds t

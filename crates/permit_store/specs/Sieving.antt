-- What a sieve does with one row.
use Rattle.std.specs.Prelude.{◌≡◌, Bool, true, false}
use Rattle.permit_model.specs.Routes.{Found}
use Rattle.permit_store.specs.declared.sieve.Sieve.{Sieve}
use Rattle.permit_store.specs.Counts.{next_count}
use Rattle.permit_store.specs.Handing.{is_found_by_any}

-- A row that is found is passed on and counted, and the answer is its taker's. Any other is kept back.
abbrev pub Sifted : {T : Type 0} → (T → Found → T → Bool → Type 0) → Bool → Found → Sieve T → Sieve T → Bool → Type 0
Sifted took true found before after more = (after.passed ≡ next_count before.passed) × took before.taker.now found after.taker.now more
Sifted took false found before after more = (after.passed ≡ before.passed) × (after.taker.now ≡ before.taker.now) × (more ≡ true)

-- One row was taken, and passed on to the same taker where any of the selections finds it.
pub record Sieves {T : Type 0} (took : T → Found → T → Bool → Type 0) (before : Sieve T) (found : Found) (after : Sieve T) (more : Bool) : Type 0 where
  pub routes : after.routes ≡ before.routes
  pub caller : after.caller ≡ before.caller
  pub day : after.day ≡ before.day
  pub same : after.taker.ghost_name ≡ before.taker.ghost_name
  pub sifted : Sifted took (is_found_by_any before.routes.now before.caller before.day found) found before after more

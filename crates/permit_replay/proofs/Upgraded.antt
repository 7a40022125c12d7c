-- The upgrade after the founding.
use Rattle.std.proofs.Common.{◌≡◌, refl, ap, ℕ, Bool, List, [], ◌∷◌, None, Some}
use Rattle.std.specs.Prelude.{if◌then◌else◌}
use Rattle.std.proofs.lemmas.Bool.{eq-eqb}
use Rattle.permit_model.specs.History.{Founding, History}
use Rattle.permit_model.specs.Tables.{Tables, tables}
use Rattle.permit_model.specs.Machine.{IsHistory}
use Rattle.permit_store.specs.Founding.{founding}
use Rattle.permit_history.specs.declared.entry.Deed.TheVariants as deed
use Rattle.permit_replay.specs.declared.fault.Why.TheVariants as why
use Rattle.permit_replay.specs.Against.{against}
use Rattle.permit_replay.specs.Histories.{Unsaid, history_with}
use Rattle.permit_replay.specs.Holding.{HoldsHistory}

abbrev pub founded : ℕ → List ℕ → List ℕ → History
founded day name digest = record { caller = 1; day = day; deed = Founding name digest; number = Some 1 } ∷ []

pub upgrade_taken : (holds : Tables → Type 0) (unsaid : Unsaid) (h : History) (first day : ℕ) (name digest : List ℕ)
    → h ≡ founded first name digest → day ≡ first → IsHistory (founding name digest first) → holds (tables (founding name digest first))
    → (against unsaid h day deed.Upgrade ≡ None) × HoldsHistory holds (history_with unsaid h day deed.Upgrade)
upgrade_taken holds unsaid h first day name digest e same is held =
    rw (e, same) (ap (λ (b : Bool). if b then None else Some why.UpgradeDay) (eq-eqb first first refl), record { history = is; upgraded = refl; held = held })

-- Tables that are found at no place of a text.
use Rattle.std.proofs.Common.{◌≡◌, ◌≤◌, ℕ, List, length, Option, Some, None, Result, Ok, Err, sym, subst}
use Rattle.std.specs.Prelude.{IfErr, IfOk, IsSomeAnd}
use Rattle.permit_history.specs.declared.entry.Entry.{Entry}
use Rattle.permit_model.specs.Tables.{Tables}
use Rattle.permit_replay.specs.Histories.{Unsaid}
use Rattle.permit_replay.specs.Placing.{AreElsewhere, IsWhere}
use Rattle.permit_replay.specs.declared.opening.placing.Place.{Place}
use Rattle.permit_subcommands.specs.declared.failure.Failure.{Failure}
use Rattle.permit_subcommands.specs.declared.failure.Failure.TheVariants as failure
use Rattle.permit_subcommands.specs.declared.failure.HistoryFailure.TheVariants as history
use Rattle.permit_database.specs.Doing.{IsPlaced}

-- they are those of no prefix of the text
pub nowhere : (begins : Unsaid → Type 0) (stood : Option ℕ) (lines : ℕ) (entries : List Entry) (t : Tables)
    → (IsSomeAnd stood (λ count. count ≤ lines) → ⊥) → lines ≡ length entries → IsWhere begins stood entries t → AreElsewhere begins entries t
nowhere begins None lines entries t unplaced counted elsewhere = elsewhere
nowhere begins (Some count) lines entries t unplaced counted stands = absurd (unplaced (subst (λ (n : ℕ). count ≤ n) (sym counted) stands.few))

-- what is so of the place is so of the answer, where that is the place
pub placed_so : (result : Result Place Failure) (place : Place) (P : Place → Type 0) → IfOk result (λ it. (it ≡ place) × IsPlaced it) → P place → IfOk result P
placed_so (Ok it) place P told there = subst P (sym told.0) there
placed_so (Err why) place P told there = tt

pub are_placed : (result : Result Place Failure) (place : Place) → IfOk result (λ it. (it ≡ place) × IsPlaced it) → IfOk result IsPlaced
are_placed (Ok it) place told = told.1
are_placed (Err why) place told = tt

pub unplaced : (result : Result Place Failure) (place : Place) → IfErr result (λ why. (why ≡ failure.History history.Differs) × (IsPlaced place → ⊥))
    → result ≡ Err (failure.History history.Differs) → IsPlaced place → ⊥
unplaced (Ok it) place told is = absurd cc
unplaced (Err why) place told is = told.1

-- What is said of the history that an office keeps.
use Rattle.std.specs.Prelude.{Bool, false, true, Option, None, Some}
use Rattle.permit_args.specs.declared.plan.Keeping.{Keeping}
use Rattle.permit_args.specs.declared.plan.Keeping.TheVariants.{Unsaid, Without, With}

-- the history that is named
abbrev pub named_history : {H : Type 0} → Keeping H → Option H
named_history Unsaid = None
named_history Without = None
named_history (With history) = Some history

-- whether none is to be kept
abbrev pub is_without : {H : Type 0} → Keeping H → Bool
is_without Unsaid = false
is_without Without = true
is_without (With history) = false

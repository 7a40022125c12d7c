use Rattle.std.proofs.Common.{◌≡◌, drop}
use Rattle.toml.specs.View.{view}
use Rattle.permit_reasons.specs.Lists.{first_list_fault}
use Rattle.permit_reasons.specs.Shapes.{list_keys}
use Rattle.permit_reasons.proofs.lists.first_list_fault.Given as goal

-- the keys that are left have the first list in which anything is wrong
abbrev pub invariant-loop-key : goal.invariant-loop-key
invariant-loop-key l = first_list_fault (view l.table) (drop l.key-index list_keys) ≡ first_list_fault (view l.table) list_keys

-- What a policy allows in each cell to each set of relations, as one number a cell.
use Rattle.std.specs.Prelude.{ℕ, ◌+◌, ◌*◌, ◌==◌, Bool, if◌then◌else◌, List, slice_index}
use Rattle.std.specs.Int.{bit_at}
use Rattle.permit_base.specs.declared.words.Relations.{Relations}
use Rattle.permit_model.specs.Codes.{stage_code, timing_code}
use Rattle.permit_model.specs.Opened.{Cell, Allowed}

-- a number where something holds, else 0
abbrev pub only_where : Bool → ℕ → ℕ
only_where held n = if held then n else 0

-- the number of a set of relations, 0 to 63, whose bit k says whether the relation of code k is in it
abbrev pub set_number : Relations → ℕ
set_number set =
    only_where set.applicant 1 + only_where set.contractor 2 + only_where set.owner 4
    + only_where set.assigned_reviewer 8 + only_where set.assigned_inspector 16 + only_where set.conflict 32

-- the number of a cell, 0 to 111, by the codes of stage, stopped and timing
abbrev pub cell_number : Cell → ℕ
cell_number cell = 8 * stage_code cell.stage + only_where cell.stopped 4 + timing_code cell.timing

-- whether a bit of a mask is set
abbrev pub has_bit : ℕ → ℕ → Bool
has_bit mask k = bit_at mask k == 1

-- whether a mask holds a set of relations
abbrev pub has_set : ℕ → Relations → Bool
has_set mask set = has_bit mask (set_number set)

-- whether the masks of all cells allow the set in the cell
abbrev pub may : List ℕ → Allowed
may masks cell set = has_set (slice_index masks (cell_number cell)) set

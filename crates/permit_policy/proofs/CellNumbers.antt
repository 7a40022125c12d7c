-- A cell is found by its number.
use Rattle.std.proofs.Common.{◌≡◌, refl, ap, ◌∙◌, arith, Bool, ◌==◌, ℕ, ◌+◌, ◌*◌, ◌/◌, ◌%◌, ◌<◌, get_or}
use Rattle.permit_base.specs.declared.words.Stage.{Stage}
use Rattle.permit_base.specs.declared.words.Stage.TheVariants as stage
use Rattle.permit_base.specs.declared.words.Timing.{Timing}
use Rattle.permit_base.specs.declared.words.Timing.TheVariants as timing
use Rattle.permit_base.specs.Words.{all_stages, all_timings}
use Rattle.permit_model.specs.Codes.{stage_code, timing_code}
use Rattle.permit_model.specs.Opened.{Cell}
use Rattle.permit_policy.specs.Masks.{only_where, cell_number}

stage_back : (s : Stage) → get_or all_stages (stage_code s) stage.Filed ≡ s
stage_back s = grind arith

timing_back : (t : Timing) → get_or all_timings (timing_code t) timing.Untimed ≡ t
timing_back t = grind arith

timing_below : (t : Timing) → timing_code t < 4
timing_below t = grind arith

stage_below : (s : Stage) → stage_code s < 14
stage_below s = grind arith

within : (s t : ℕ) (b : Bool) → s < 14 → t < 4 → 8 * s + only_where b 4 + t < 112
within s t b h k = grind arith

pub cell_below : (cell : Cell) → cell_number cell < 112
cell_below cell = within (stage_code cell.stage) (timing_code cell.timing) cell.stopped (stage_below cell.stage) (timing_below cell.timing)

-- the three codes that a number is made of
record Split (n s t : ℕ) (b : Bool) : Type 0 where
  eighths : n / 8 ≡ s
  half : ((n / 4 % 2) == 1) ≡ b
  rest : n % 4 ≡ t

split : (n s t : ℕ) (b : Bool) → t < 4 → 8 * s + only_where b 4 + t ≡ n → Split n s t b
split n s t b h e = grind arith

-- the cell whose codes a number is made of
abbrev pub cell_of : ℕ → Cell
cell_of n = record { stage = get_or all_stages (n / 8) stage.Filed; stopped = (n / 4 % 2) == 1; timing = get_or all_timings (n % 4) timing.Untimed }

pub cell_back : (cell : Cell) (n : ℕ) → cell_number cell ≡ n → cell_of n ≡ cell
cell_back cell n e =
    let parts : Split n (stage_code cell.stage) (timing_code cell.timing) cell.stopped =
    split n (stage_code cell.stage) (timing_code cell.timing) cell.stopped (timing_below cell.timing) e in
    let at_stage : get_or all_stages (n / 8) stage.Filed ≡ cell.stage = ap (λ k. get_or all_stages k stage.Filed) parts.eighths ∙ stage_back cell.stage in
    let at_timing : get_or all_timings (n % 4) timing.Untimed ≡ cell.timing = ap (λ k. get_or all_timings k timing.Untimed) parts.rest
    ∙ timing_back cell.timing in
    rw (at_stage, parts.half, at_timing) refl

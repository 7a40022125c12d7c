-- Boxes of the facts of one role and one action.
use Rattle.std.specs.Prelude.{ℕ, ◌*◌, ◌^◌, ◌==◌, Bool, ◌&&◌, ◌||◌, ◌+◌, bit_or, count_by}
use Rattle.std.specs.List.{range_with_len}
use Rattle.permit_base.specs.Words.{all_stages, all_timings}
use Rattle.permit_base.specs.declared.words.Relations.{Relations}
use Rattle.permit_model.specs.Codes.{stage_code, timing_code}
use Rattle.permit_model.specs.Opened.{Cell}
use Rattle.permit_policy.specs.Masks.{only_where, has_bit, has_set}
use Rattle.permit_policy.specs.declared.region.Region.{Region}

-- whether the region has the set of relations in the cell
abbrev pub is_within : Region → Cell → Relations → Bool
is_within region cell set =
    has_set region.relations set
    && has_bit region.stages (stage_code cell.stage)
    && has_bit region.stopped (only_where cell.stopped 1)
    && has_bit region.timings (timing_code cell.timing)

-- how many sets of relations, of their 64 numbers, a mask has
abbrev pub sets_in : ℕ → ℕ
sets_in mask = count_by (has_bit mask) (range_with_len 0 64)

-- how many stages
abbrev pub stages_in : ℕ → ℕ
stages_in mask = count_by (λ stage. has_bit mask (stage_code stage)) all_stages

-- how many truth values
abbrev pub truths_in : ℕ → ℕ
truths_in mask = only_where (has_bit mask 0) 1 + only_where (has_bit mask 1) 1

-- how many timings
abbrev pub timings_in : ℕ → ℕ
timings_in mask = count_by (λ timing. has_bit mask (timing_code timing)) all_timings

-- how many combinations of facts the region has
abbrev pub size_of : Region → ℕ
size_of region = sets_in region.relations * stages_in region.stages * (truths_in region.stopped * timings_in region.timings)

-- of four, one at most doesn't hold
abbrev pub all_but_one : Bool → Bool → Bool → Bool → Bool
all_but_one a b c d = (a && b && (c || d)) || (c && d && (a || b))

-- whether two regions differ in one of the four sets alone, or in none
abbrev pub joins : Region → Region → Bool
joins a b = all_but_one (a.relations == b.relations) (a.stages == b.stages) (a.stopped == b.stopped) (a.timings == b.timings)

-- each set with what the other region has
abbrev pub joined : Region → Region → Region
joined a b = record {
  relations = bit_or a.relations b.relations;
  stages = bit_or a.stages b.stages;
  stopped = bit_or a.stopped b.stopped;
  timings = bit_or a.timings b.timings;
}

-- these sets of relations in one cell
abbrev pub region_of : ℕ → Cell → Region
region_of sets cell = record {
  relations = sets;
  stages = 2 ^ stage_code cell.stage;
  stopped = 2 ^ only_where cell.stopped 1;
  timings = 2 ^ timing_code cell.timing;
}

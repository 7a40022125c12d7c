-- The cells in which a file's row can be kept.
use Rattle.std.specs.Prelude.{Bool, ◌&&◌}
use Rattle.std.specs.List.{list_any}
use Rattle.permit_model.specs.Codes.{is_timing}
use Rattle.permit_model.specs.SoundState.{is_stored}
use Rattle.permit_model.specs.Opened.{Cell}
use Rattle.permit_model.specs.Routes.{timings_of}

-- a stage that is kept, with one of its timings
abbrev pub is_kept : Cell → Bool
is_kept cell = is_stored cell.stage && list_any (is_timing cell.timing) (timings_of cell.stage)

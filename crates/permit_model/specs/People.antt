-- The people of a file: each is the one last named in what was done to it. Each list of acts is newest first.
use Rattle.std.specs.Prelude.{ℕ, List, Option}
use Rattle.permit_model.specs.Search.{latest}
use Rattle.permit_model.specs.Effects.{effects}
use Rattle.permit_model.specs.Files.{Act}

-- the contractor last named
abbrev pub contractor : List Act → Option ℕ
contractor acts = latest (λ act. (effects act.command).contractor) acts

-- the reviewer last assigned
abbrev pub reviewer : List Act → Option ℕ
reviewer acts = latest (λ act. (effects act.command).reviewer) acts

-- the inspector last assigned
abbrev pub inspector : List Act → Option ℕ
inspector acts = latest (λ act. (effects act.command).inspector) acts

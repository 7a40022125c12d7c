-- The routes that are kept once they are made.
use Rattle.std.proofs.Common.{◌≡◌, Option}
use Rattle.std.specs.Prelude.{Some, None, option_map}

pub kept_rows : {A : Type 0} (rows : A) (kept : Option A) (router : A) → kept ≡ option_map (λ _. rows) kept → kept ≡ Some router → router ≡ rows
kept_rows rows (Some made) router own is = cc
kept_rows rows None router own is = cc

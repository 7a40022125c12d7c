-- When a hall doesn't open.
use Rattle.std.specs.Prelude.{◌≡◌, ℕ, Bool, true, false, ◌&&◌, nat_le}
use Rattle.permit_hall.specs.declared.error.HallError.{HallError}
use Rattle.permit_hall.specs.declared.error.HallError.TheVariants.{Count, Memory, NoWorker}

-- a hall has 1 to 8 sessions
abbrev pub may_open : ℕ → Bool
may_open sessions = nat_le 1 sessions && nat_le sessions 8

-- another count is refused as that, before anything else
abbrev pub FitsCount : HallError → Bool → Type 0
FitsCount Count allowed = allowed ≡ false
FitsCount Memory allowed = allowed ≡ true
FitsCount NoWorker allowed = allowed ≡ true

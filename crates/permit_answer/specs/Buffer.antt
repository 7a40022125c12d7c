-- The most bytes that an answer in place takes.
use Rattle.std.specs.Prelude.{ℕ}

unfoldable pub room : ℕ
room = 512

-- What a file that stops shows.
use Rattle.std.specs.Prelude.{ℕ}
use Rattle.permit_history_tests.specs.declared.recorded.stopping.Stopping.{Stopping}

-- the file to which it passes calls on
abbrev pub inner_of : {H : Type 0} → Stopping H → H
inner_of file = file.inner

abbrev pub calls_left : {H : Type 0} → Stopping H → ℕ
calls_left file = file.calls_left

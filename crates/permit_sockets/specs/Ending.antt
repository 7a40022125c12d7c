-- How serving over TCP ended.
use Rattle.std.specs.Prelude.{◌≡◌, ℕ, Bool, List, Option, Some, None, is_some, true, false}
use Rattle.std.specs.List.{list_any}
use Rattle.permit_base.specs.declared.request.Asked.{Asked}
use Rattle.permit_wire.specs.declared.service.Dated.{Dated}
use Rattle.permit_hall.specs.Doors.{AreDoorsServed}
use Rattle.permit_hall.specs.Runs.{Entry}
use Rattle.permit_hall.specs.declared.doors.DoorEnd.{DoorEnd}
use Rattle.permit_sockets.specs.Listening.{AreOpen}
use Rattle.permit_sockets.specs.declared.connections.Connections.{Connections}

-- Doors were open on the address whose line was written. Each was served and is spent, or no worker was started for it and
-- nothing of it was served. For one at least there was a worker.
pub record HaveEnded {In Out C W : Type 0} (remaining : In → Option (List ℕ)) (contents : Out → Option (List ℕ))
    (gave : Connections C W → Option (In × Out) → Connections C W → Type 0) (spent : Connections C W → Type 0) (workers : ℕ) (connections : Option ℕ)
    (before after : Option (List ℕ)) (ends : List (Option (DoorEnd (Connections C W)))) (served : List (Entry Asked Dated)) : Type 0 where
  pub doors : List (Connections C W)
  pub listened : AreOpen workers connections before after doors
  pub done : AreDoorsServed remaining contents gave spent doors ends served
  pub some : list_any is_some ends ≡ true

-- the door of a worker ended because the flag was found set
abbrev pub is_stopped : {C W : Type 0} → Option (DoorEnd (Connections C W)) → Bool
is_stopped None = false
is_stopped (Some end) = is_some end.door.stop

-- Where connections are taken, and the line that says so.
use Rattle.std.specs.Prelude.{◌≡◌, ℕ, List, ◌++◌, codes, length, All, Option}
use Rattle.std.specs.Io.KnownBytes.{Appends}
use Rattle.std.specs.Net.Text.{socket_text}
use Rattle.std.specs.declared.net.socket_addr.SocketAddr.{SocketAddr}
use Rattle.permit_sockets.specs.Taking.{IsNew}
use Rattle.permit_sockets.specs.declared.connections.Connections.{Connections}

-- the line that says on which address connections are taken
abbrev pub listening_line : SocketAddr → List ℕ
listening_line address = codes "listening " ++ socket_text address ++ codes "\n"

-- known bytes grew by the line of some address
abbrev pub SaysListening : Option (List ℕ) → Option (List ℕ) → Type 0
SaysListening before after = (address : SocketAddr) × Appends before after (listening_line address)

-- so many doors, each for so many connections, on the address whose line was written
pub record AreOpen {C W : Type 0} (workers : ℕ) (connections : Option ℕ) (before after : Option (List ℕ)) (doors : List (Connections C W)) : Type 0 where
  pub address : SocketAddr
  pub fresh : All (λ d. IsNew connections address d) doors
  pub told : Appends before after (listening_line address)
  pub count : length doors ≡ workers

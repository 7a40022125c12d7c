-- The connections that a worker's door gives.
use Rattle.std.specs.Prelude.{◌≡◌, ◌≢◌, ◌⊎◌, ◌-◌, ℕ, Option, Some, None, MatchOption, is_some, option_map, true}
use Rattle.std.specs.declared.net.socket_addr.SocketAddr.{SocketAddr}
use Rattle.permit_sockets.specs.declared.connections.Connections.{Connections}

-- a door from which so many connections at the address are to come, and that has not found the flag set
abbrev pub IsNew : {C W : Type 0} → Option ℕ → SocketAddr → Connections C W → Type 0
IsNew connections address d = (d.left ≡ connections) × (d.address ≡ address) × (d.stop ≡ None)

-- a door is spent where none of its connections is left, or where the flag was found set
abbrev pub IsSpent : {C W : Type 0} → Connections C W → Type 0
IsSpent d = (d.left ≡ Some 0) ⊎ (is_some d.stop ≡ true)

-- None is given where none is left, or where the flag was found set. One that is given counts as one of those that are left.
-- Where connections are taken stays the same.
abbrev pub HasGiven : {C W G : Type 0} → Connections C W → Option G → Connections C W → Type 0
HasGiven d given e = (e.address ≡ d.address) × MatchOption given
    ((e.left ≡ d.left) × ((d.left ≡ Some 0) ⊎ (is_some e.stop ≡ true)))
    (λ _. (d.left ≢ Some 0) × (e.left ≡ option_map (λ n. n - 1) d.left) × (e.stop ≡ d.stop))

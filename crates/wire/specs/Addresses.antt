-- Where a datagram goes, and from where one comes.
use Rattle.std.specs.Prelude.{◌≡◌, ◌<◌, ℕ, ◌-◌, List, Option, length, take, slice_get, slice_index_or, MatchOption}
use Rattle.std.specs.List.{All}
use Rattle.std.specs.Net.Addr.{ipv4_octets, MatchIp}
use Rattle.std.specs.Net.Socket.{socket_ip, socket_port}
use Rattle.std.specs.declared.net.socket_addr.SocketAddr.{SocketAddr}
use Rattle.wire.specs.declared.address.Address.{Address}

-- the socket address has the address's IP address and port
abbrev pub IsAt : Address → SocketAddr → Type 0
IsAt address at = MatchIp (socket_ip at) (λ ip. ipv4_octets ip ≡ address.ip) (λ ip. ⊥) × (socket_port at ≡ address.port)

-- at this place stands an address of the sender, and none before it is one
pub record IsFirstAt (stations : List Address) (sender : SocketAddr) (place : ℕ) : Type 0 where
  pub within : place < length stations
  pub is : (a : Address) → IsAt (slice_index_or stations place a) sender
  pub before : All (λ a. ¬ IsAt a sender) (take place stations)

-- the address of a member, of those of all members in order from 1
abbrev pub address_of : List Address → ℕ → Option Address
address_of stations member = slice_get stations (member - 1)

-- the sender is where this member listens
abbrev pub ComesFrom : List Address → ℕ → SocketAddr → Type 0
ComesFrom stations member sender = MatchOption (address_of stations member) ⊥ (λ a. IsAt a sender)

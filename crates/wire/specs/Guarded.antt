-- What a wire behind a door lets in, and what of it waits.
use Rattle.std.specs.Prelude.{◌≡◌, ◌≤◌, ◌<◌, ℕ, List, [], MatchOption, None, Option, length}
use Rattle.std.specs.declared.net.socket_addr.SocketAddr.{SocketAddr}
use Rattle.pace.specs.declared.share.Incoming.{Incoming}
use Rattle.wire.specs.Arrival.{came_by}
use Rattle.wire.specs.Doors.{AllWait, AreOf, ComesAs, LetIn, NoneWaits, Stays}
use Rattle.wire.specs.Passing.{Passed, Passes, Trace, guarded}
use Rattle.wire.specs.Strangers.{TellsFirst, later}
use Rattle.wire.specs.declared.strangers.Strangers.{Strangers}
use Rattle.wire.specs.declared.wire.Arrival.{Arrival}
use Rattle.wire.specs.declared.guarded.GuardedWire.{GuardedWire}

-- a datagram came to its socket that brought this packet at its door
abbrev pub let_in : {C D S : Type 0} → (S → SocketAddr → List ℕ → Type 0) → (D → SocketAddr → List ℕ → Incoming → Type 0) → GuardedWire C D S → Incoming → Type 0
let_in came brings w = LetIn (came w.socket) (brings w.door)

-- all that waits in it was let in
abbrev pub IsClean : {C D S : Type 0} → (S → SocketAddr → List ℕ → Type 0) → (D → SocketAddr → List ℕ → Incoming → Type 0) → GuardedWire C D S → Type 0
IsClean came brings w = AllWait (let_in came brings w) w.waiting

-- it lets in the same, and all that waits was let in if that held
abbrev pub Keeps : {C D S : Type 0} → (S → SocketAddr → List ℕ → Type 0) → (D → SocketAddr → List ℕ → Incoming → Type 0) → GuardedWire C D S → GuardedWire C D S → Type 0
Keeps came brings old new = Stays (let_in came brings old) (let_in came brings new) old.waiting new.waiting

-- what it tells of what has passed over it: each datagram that comes is a packet that was let in
abbrev pub passed_of : {C D S : Type 0} → (S → SocketAddr → List ℕ → Type 0) → (D → SocketAddr → List ℕ → Incoming → Type 0) → GuardedWire C D S → Trace
passed_of came brings w = guarded (AreOf (let_in came brings w)) (IsClean came brings w)

-- a wire behind this door over which nothing has passed: no moment was told, nothing waits, and the room for what comes has this many bytes
pub record IsFreshBehind {C D S : Type 0} (behind : D) (w : GuardedWire C D S) : Type 0 where
  pub door : w.door ≡ behind
  pub moment : w.moment ≡ 0
  pub waits : NoneWaits w.waiting
  pub room : length w.room.items ≡ 12314

module _ {C D S : Type 0} (came : S → SocketAddr → List ℕ → Type 0) (brings : D → SocketAddr → List ℕ → Incoming → Type 0) where
  -- a call leaves a wire that lets in the same, and this has passed over it
  pub record Leaves (old new : GuardedWire C D S) (more : List Passed) : Type 0 where
    pub keeps : Keeps came brings old new
    pub passes : Passes (passed_of came brings old) (passed_of came brings new) more

  -- a receive gives a packet that was let in, whole, or none
  pub record Receives (old new : GuardedWire C D S) (a : Arrival) : Type 0 where
    pub comes : IsClean came brings old → ComesAs (let_in came brings old) a
    pub leaves : Leaves old new (came_by a)

  -- strangers are told, and nothing has passed over the wire
  pub record TellsStrangers (now : ℕ) (old new : GuardedWire C D S) (strangers : Option Strangers) : Type 0 where
    pub tells : TellsFirst now strangers old.untold.tallies new.untold.tallies
    pub rest : new ≡ record old { untold = new.untold }
    pub passes : Passes (passed_of came brings old) (passed_of came brings new) []

  -- it is told how many datagrams were lost, once a second at most, and nothing has passed over the wire
  pub record TellsLost (now : ℕ) (old new : GuardedWire C D S) (lost : Option ℕ) : Type 0 where
    pub early : now < old.lost_due → (lost ≡ None) × (new.waiting ≡ old.waiting)
    pub told : MatchOption lost (new.lost_due ≡ old.lost_due) (λ count. (count ≡ old.waiting.lost) × (new.lost_due ≡ later now))
    pub counted : old.lost_due ≤ now → new.waiting.lost ≡ 0
    pub shares : new.waiting.shares ≡ old.waiting.shares
    pub rest : new ≡ record old { waiting = new.waiting; lost_due = new.lost_due }
    pub passes : Passes (passed_of came brings old) (passed_of came brings new) []

-- Steps of a wire behind a door, one after the other, and what is told of them.
use Rattle.std.proofs.Common.{◌≡◌, ℕ, List, [], ◌∷◌, subst, sym}
use Rattle.std.specs.declared.net.socket_addr.SocketAddr.{SocketAddr}
use Rattle.pace.specs.declared.share.Incoming.{Incoming}
use Rattle.pace.specs.Room.{WaitingValue, lost_one, puts}
use Rattle.wire.specs.declared.guarded.GuardedWire.{GuardedWire}
use Rattle.wire.specs.declared.wire.Arrival.{Arrival}
use Rattle.wire.specs.Arrival.{came_by}
use Rattle.wire.specs.Doors.{BringsAlike, BringsOnly, ComesAs, IsKept, LetIn, Stays}
use Rattle.wire.specs.Guarded.{IsClean, Keeps, Leaves, let_in, passed_of}
use Rattle.wire.specs.Passing.{Passes, sent, told}
use Rattle.wire.specs.declared.door.Brought.{Brought}
use Rattle.wire.specs.declared.door.Brought.TheVariants as brought
use Rattle.wire.specs.declared.strangers.ReasonTally.{ReasonTally}
use Rattle.wire.proofs.Staying.{alike_self, put_waits, stays_self, let_in_alike, stays_alike, stays_then, stays_passes, comes_then, came_so}

module _ {C D S : Type 0} (came : S → SocketAddr → List ℕ → Type 0) (brings : D → SocketAddr → List ℕ → Incoming → Type 0) where
  pub keeps_then : (u v w : GuardedWire C D S) → Keeps came brings u v → Keeps came brings v w → Keeps came brings u w
  keeps_then u v w p q = stays_then (let_in came brings u) (let_in came brings v) (let_in came brings w) u.waiting v.waiting w.waiting p q

  -- the door changed, and then the rest
  pub door_then : (u : GuardedWire C D S) (door : D) (w : GuardedWire C D S) → BringsAlike (brings u.door) (brings door)
      → Stays (LetIn (came u.socket) (brings door)) (let_in came brings w) u.waiting w.waiting → Keeps came brings u w
  door_then u door w alike rest =
      stays_then (LetIn (came u.socket) (brings u.door)) (LetIn (came u.socket) (brings door)) (let_in came brings w) u.waiting u.waiting w.waiting
      (stays_alike (LetIn (came u.socket) (brings u.door)) (LetIn (came u.socket) (brings door)) u.waiting (let_in_alike (came u.socket) (brings u.door) (brings door) alike)) rest

  pub keeps_to : (u v w : GuardedWire C D S) → w ≡ v → Keeps came brings u v → Keeps came brings u w
  keeps_to u v w same keeps = subst (λ (x : GuardedWire C D S). Keeps came brings u x) (sym same) keeps

  -- nothing came
  pub quiet : (u v : GuardedWire C D S) → Keeps came brings u v → Passes (passed_of came brings u) (passed_of came brings v) []
  quiet u v keeps = stays_passes (let_in came brings u) (let_in came brings v) u.waiting v.waiting [] keeps (λ clean. tt)

  pub leaves_quiet : (u v : GuardedWire C D S) → Keeps came brings u v → Leaves came brings u v []
  leaves_quiet u v keeps = record { keeps = keeps; passes = quiet u v keeps }

  pub tells : (u v : GuardedWire C D S) (moment : ℕ) → Keeps came brings u v → Passes (passed_of came brings u) (passed_of came brings v) (told moment ∷ [])
  tells u v moment keeps = stays_passes (let_in came brings u) (let_in came brings v) u.waiting v.waiting (told moment ∷ []) keeps (λ clean. tt)

  pub sends_on : (u v : GuardedWire C D S) (to : ℕ) (bytes : List ℕ) → Keeps came brings u v → Passes (passed_of came brings u) (passed_of came brings v) (sent to bytes ∷ [])
  sends_on u v to bytes keeps = stays_passes (let_in came brings u) (let_in came brings v) u.waiting v.waiting (sent to bytes ∷ []) keeps (λ clean. tt)

  -- what a receive answers came
  pub receives : (u v : GuardedWire C D S) (a : Arrival) → (IsClean came brings u → ComesAs (let_in came brings u) a) → Keeps came brings u v
      → Passes (passed_of came brings u) (passed_of came brings v) (came_by a)
  receives u v a comes keeps =
      stays_passes (let_in came brings u) (let_in came brings v) u.waiting v.waiting (came_by a) keeps (λ clean. came_so (let_in came brings u) a (comes clean))

  pub comes_later : (u v : GuardedWire C D S) (a : Arrival) → Keeps came brings u v → (IsClean came brings v → ComesAs (let_in came brings v) a)
      → IsClean came brings u → ComesAs (let_in came brings u) a
  comes_later u v a keeps comes = comes_then (let_in came brings u) (let_in came brings v) u.waiting v.waiting a keeps comes

-- what waits is another list of the same
pub waits_so : (Is : Incoming → Type 0) (u v w : WaitingValue) → w ≡ v → Stays Is Is u v → Stays Is Is u w
waits_so Is u v w same stays = subst (λ (x : WaitingValue). Stays Is Is u x) (sym same) stays

-- the count of what is lost is another
pub lost_stays : (Is : Incoming → Type 0) (w : WaitingValue) (n : ℕ) → Stays Is Is w (record w { lost = n })
lost_stays Is w n = record { alike = λ d. (λ is. is, λ is. is); wait = λ all. all }

-- what is brought waits, is lost, or is counted
pub kept_stays :
    (Is : Incoming → Type 0) (b : Brought) (sender : SocketAddr) (w : WaitingValue) (tallies : List ReasonTally) (w' : WaitingValue) (tallies' : List ReasonTally)
    → BringsOnly Is b → IsKept b sender w tallies w' tallies' → Stays Is Is w w'
kept_stays Is (brought.Packet d) sender w tallies w' tallies' is kept =
    waits_so Is w (puts kept.0.0 d w) w' kept.0.1 (record { alike = alike_self Is; wait = put_waits Is kept.0.0 d w is })
kept_stays Is brought.Part sender w tallies w' tallies' is kept = waits_so Is w w w' kept.0 (stays_self Is w)
kept_stays Is brought.Lost sender w tallies w' tallies' is kept = waits_so Is w (lost_one w) w' kept.0 (lost_stays Is w (lost_one w).lost)
kept_stays Is (brought.Refused reason) sender w tallies w' tallies' is kept = waits_so Is w w w' kept.0 (stays_self Is w)

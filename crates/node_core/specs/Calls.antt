-- What a call of the core answers, and what is left of it.
use Rattle.std.specs.Prelude.{◌≡◌, ◌≤◌, ℕ, List, [], Option, Some, None, Bool, true, false, is_some}
use Rattle.protocol.specs.Ballots.{Ballot, next}
use Rattle.protocol.specs.Entries.{Entry}
use Rattle.protocol.specs.Rows.{Row}
use Rattle.protocol.specs.Packets.{Packet}
use Rattle.protocol.specs.Marks.{Mark}
use Rattle.protocol.specs.Limits.{most_members}
use Rattle.protocol.specs.Proposals.{was_released, open_proposal, open_ballot, next_due}
use Rattle.protocol.specs.Turn as said
use Rattle.protocol.specs.Turn.{begin}
use Rattle.node_core.specs.declared.event.Event.{Event}
use Rattle.node_core.specs.declared.event.Event.TheVariants as events
use Rattle.node_core.specs.declared.turn.Turn.{Turn}
use Rattle.node_core.specs.declared.turn.CoreRefusal.{CoreRefusal}
use Rattle.node_core.specs.declared.turn.CoreRefusal.TheVariants as refusals
use Rattle.protocol.specs.Seats.{Seat}
use Rattle.node_core.specs.Turns.{event_value, Stirs}
use Rattle.node_core.specs.Standing.{Core, StandsFor, Took, IsSameSeat, seat_of}

-- this member may sit in a circuit of so many: it is one of them, and they are 15 at most
pub record MaySit (me members : ℕ) : Type 0 where
  pub low : 1 ≤ members
  pub high : members ≤ most_members
  pub member : me ≤ members

-- the core is one of member m of circuit k, of c members, that took nothing in yet
pub record IsNewCore (k m c : ℕ) (v : Core) : Type 0 where
  pub circuit : v.circuit ≡ k
  pub me : v.me ≡ m
  pub members : v.members ≡ c
  pub failed : v.failed ≡ false
  pub stands : StandsFor v []

-- all that was taken in is forgotten, as at a start
pub record IsCleared (old new : Core) : Type 0 where
  pub seat : IsSameSeat old new
  pub failed : new.failed ≡ false
  pub stands : StandsFor new []

-- how many members the core's circuit has: 1 to 15
pub record TellsMembers (v : Core) (members : ℕ) : Type 0 where
  pub value : members ≡ v.members
  pub low : 1 ≤ members
  pub few : members ≤ most_members

-- whether n was released since the start; it is not told while the core is failed
pub record TellsReleased (n : ℕ) (v : Core) (is_released : Bool) : Type 0 where
  pub failed : v.failed ≡ true → is_released ≡ false
  pub value : (marks : List Mark) → StandsFor v marks → is_released ≡ was_released n marks

-- the ballot of the open proposal of n, if there is one; none while the core is failed
pub record TellsOpenBallot (n : ℕ) (v : Core) (ballot : Option Ballot) : Type 0 where
  pub failed : v.failed ≡ true → ballot ≡ None
  pub value : (marks : List Mark) → StandsFor v marks → ballot ≡ open_ballot n marks

-- the least number whose proposal is due at this moment, if there is one; none while the core is failed
pub record TellsNextDue (now : ℕ) (v : Core) (n : Option ℕ) : Type 0 where
  pub failed : v.failed ≡ true → n ≡ None
  pub value : (marks : List Mark) → StandsFor v marks → n ≡ next_due v.me now marks

-- the packet is for member me, from a member of the circuit of c members
pub record IsForMember (me c : ℕ) (p : Packet) : Type 0 where
  pub to : p.to ≡ me
  pub from : p.from ≤ c

-- an event may come to this member of the circuit: a packet has to be for it, from a member
abbrev pub MayCome : ℕ → ℕ → Event → Type 0
MayCome me c (events.Offer number entry now) = Unit {0}
MayCome me c (events.Seek number now) = Unit {0}
MayCome me c (events.Due number now) = Unit {0}
MayCome me c (events.Arrived packet now) = IsForMember me c packet
MayCome me c (events.Recall number to) = Unit {0}

-- n was not released, and no proposal of it is open
pub record IsFree (n : ℕ) (marks : List Mark) : Type 0 where
  pub unreleased : was_released n marks ≡ false
  pub closed : open_proposal n marks ≡ None

-- n was not released, and a proposal of it is open
abbrev pub IsOpen : ℕ → List Mark → Type 0
IsOpen n marks = (was_released n marks ≡ false) × (is_some (open_proposal n marks) ≡ true)

-- an offer or a search of a free number begins its next ballot, by a turn of which P holds
pub record StartIs (s : Seat) (n : ℕ) (own : Option Entry) (now : ℕ) (marks : List Mark) (row : Row) (P : said.Turn → Type 0) : Type 0 where
  pub free : IsFree n marks
  pub ballot : Ballot
  pub is_next : next row.promised s.me ≡ Some ballot
  pub holds : P (begin s n ballot own now marks row)

-- why member m is refused an offer or a search of n, where this stands for marks and nothing of it changes; want of memory may leave anything
abbrev pub RefusesToStart : CoreRefusal → Type 0 → (List Mark → Type 0) → ℕ → ℕ → Row → Type 0
RefusesToStart refusals.Failed same stands m n row = ⊥
RefusesToStart refusals.AlreadyReleased same stands m n row = same × ((marks : List Mark) → stands marks → was_released n marks ≡ true)
RefusesToStart refusals.AlreadyOpen same stands m n row = same × ((marks : List Mark) → stands marks → IsOpen n marks)
RefusesToStart refusals.RoundsSpent same stands m n row = same × ((marks : List Mark) → stands marks → IsFree n marks) × (next row.promised m ≡ None)
RefusesToStart refusals.OutOfMemory same stands m n row = Unit {0}

-- an offer or a search is of a free number
abbrev pub IsFreeFor : Event → List Mark → Type 0
IsFreeFor (events.Offer number entry now) marks = IsFree number marks
IsFreeFor (events.Seek number now) marks = IsFree number marks
IsFreeFor (events.Due number now) marks = Unit {0}
IsFreeFor (events.Arrived packet now) marks = Unit {0}
IsFreeFor (events.Recall number to) marks = Unit {0}

-- the code's turn is that of the definitions, from these marks and this row
pub record TookTurn (old : Core) (event : Event) (marks : List Mark) (row : Row) (x : Turn) (new : Core) : Type 0 where
  pub free : IsFreeFor event marks
  pub turn : said.Turn
  pub is_the_turn : said.turn (seat_of old) marks row (event_value event) ≡ Some turn
  pub took : Took row turn x new

-- the turn of the event is one of which P holds
pub record TurnIs (s : Seat) (event : Event) (marks : List Mark) (row : Row) (P : said.Turn → Type 0) : Type 0 where
  pub free : IsFreeFor event marks
  pub turn : said.Turn
  pub is_the_turn : said.turn s marks row (event_value event) ≡ Some turn
  pub holds : P turn

-- why member m is refused the event: all but an offer and a search are refused for want of memory alone
abbrev pub IsRefused : Event → CoreRefusal → Type 0 → (List Mark → Type 0) → ℕ → Row → Type 0
IsRefused (events.Offer number entry now) e same stands m row = RefusesToStart e same stands m number row
IsRefused (events.Seek number now) e same stands m row = RefusesToStart e same stands m number row
IsRefused (events.Due number now) e same stands m row = e ≡ refusals.OutOfMemory
IsRefused (events.Arrived packet now) e same stands m row = e ≡ refusals.OutOfMemory
IsRefused (events.Recall number to) e same stands m row = e ≡ refusals.OutOfMemory

-- why the core refused the event
abbrev pub RefusesEvent : Event → CoreRefusal → Core → Row → Core → Type 0
RefusesEvent event e old row new = IsRefused event e (new ≡ old) (StandsFor old) old.me row

-- why there is no turn; but for want of memory, which leaves the core failed, it stays as it was
abbrev pub Refuses : CoreRefusal → Event → Core → Row → Core → Type 0
Refuses refusals.Failed event old row new = (old.failed ≡ true) × (new ≡ old)
Refuses refusals.AlreadyReleased event old row new = RefusesEvent event refusals.AlreadyReleased old row new
Refuses refusals.AlreadyOpen event old row new = RefusesEvent event refusals.AlreadyOpen old row new
Refuses refusals.RoundsSpent event old row new = RefusesEvent event refusals.RoundsSpent old row new
Refuses refusals.OutOfMemory event old row new = new.failed ≡ true

-- the event is not refused for another cause, and its turn is not quiet
abbrev pub MayTakeMemory : Core → Event → List Mark → Row → Type 0
MayTakeMemory old event marks row = TurnIs (seat_of old) event marks row Stirs

-- where the core refused the event for want of memory, its turn may take memory
abbrev pub MayWantMemory : CoreRefusal → Core → Event → Row → Type 0
MayWantMemory e old event row = e ≡ refusals.OutOfMemory → (marks : List Mark) → StandsFor old marks → MayTakeMemory old event marks row

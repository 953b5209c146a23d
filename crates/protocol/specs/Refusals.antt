-- What a station is asked, and when it refuses: the first refusal that holds, in the order of the checks.
use Rattle.std.specs.Prelude.{ℕ, List, Option, Some, None, Result, Ok, Err, Bool, false, ◌==◌, ◌||◌, ◌&&◌, not, nat_le, nat_lt, is_some, if◌then◌else◌}
use Rattle.protocol.specs.Lists.{or_else}
use Rattle.protocol.specs.Seats.{Seat}
use Rattle.protocol.specs.Entries.{Entry}
use Rattle.protocol.specs.Packets.{Packet, Body, Prepare, Promise, Accept, Accepted, Nack}
use Rattle.protocol.specs.Marks.{Mark}
use Rattle.protocol.specs.Proposals.{was_released, open_proposal, next_due}
use Rattle.protocol.specs.Turn.{Event, Offered, Sought, Came_due, Arrived, Recalled}
use Rattle.protocol.specs.Limits.{is_number}

-- how a station is set up: where it sits,
-- which packet it reads in bytes or why it reads none, whether its version has a spelling for an entry,
-- and what its table and widths make of an entry
pub record Setup (D G F : Type 0) : Type 0 where
  pub seat : Seat
  pub reads : List ℕ → Result Packet D
  pub fits : Entry → Bool
  pub sets : Entry → Result G F

-- what a station is asked: to offer an entry for a number, to seek a number's entry, to see to what is due, to receive bytes,
-- to tell its vote for a number again to a member
pub data Call : Type 0 where
  Offering : (number : ℕ) → (entry : Entry) → (now : ℕ) → Call
  Seeking : (number : ℕ) → (now : ℕ) → Call
  Falling_due : (now : ℕ) → Call
  Receiving : (bytes : List ℕ) → (now : ℕ) → Call
  Recalling : (number : ℕ) → (to : ℕ) → Call

-- why a station refuses a call; each but the last before it asks its store
pub data Refusal (D F : Type 0) : Type 0 where
  Stopped : Refusal D F
  Bad_datagram : (fault : D) → Refusal D F
  Wrong_circuit Not_for_me Stranger : Refusal D F
  Bad_number No_such_member Already_released Already_open : Refusal D F
  Wire_too_old : Refusal D F
  Tape_faulty : (fault : F) → Refusal D F
  Rounds_spent : Refusal D F

-- the owner of a ballot in the body is above the member count
abbrev pub names_stranger : ℕ → Body → Bool
names_stranger c Prepare = false
names_stranger c (Promise None) = false
names_stranger c (Promise (Some v)) = nat_lt c v.ballot.owner
names_stranger c (Accept t) = false
names_stranger c (Accepted t) = false
names_stranger c (Nack p) = nat_lt c p.owner

-- the sender, or the owner of any ballot in the packet, is above the member count
abbrev pub is_of_stranger : ℕ → Packet → Bool
is_of_stranger c p = nat_lt c p.from || nat_lt c p.ballot.owner || names_stranger c p.body

-- why the station of this seat refuses a packet
abbrev pub packet_refusal : {D F : Type 0} → Seat → Packet → Option (Refusal D F)
packet_refusal s p =
    if not (p.circuit == s.circuit) then Some Wrong_circuit
    else if not (p.to == s.me) then Some Not_for_me
    else if is_of_stranger s.members p then Some Stranger
    else None

-- why it refuses what was read in bytes
abbrev pub reading_refusal : {D F : Type 0} → Seat → Result Packet D → Option (Refusal D F)
reading_refusal s (Err fault) = Some (Bad_datagram fault)
reading_refusal s (Ok p) = packet_refusal s p

-- why it refuses to offer or seek n
abbrev pub number_refusal : {D F : Type 0} → ℕ → List Mark → Option (Refusal D F)
number_refusal n marks =
    if not (is_number n) then Some Bad_number
    else if was_released n marks then Some Already_released
    else if is_some (open_proposal n marks) then Some Already_open
    else None

-- why a station of c members refuses to tell its vote for n again to a member
abbrev pub recall_refusal : {D F : Type 0} → ℕ → ℕ → ℕ → Option (Refusal D F)
recall_refusal c n to =
    if not (is_number n) then Some Bad_number
    else if not (nat_le 1 to && nat_le to c) then Some No_such_member
    else None

-- why it refuses to offer an entry, by whether its version has a spelling for it
abbrev pub wire_refusal : {D F : Type 0} → Bool → Option (Refusal D F)
wire_refusal fits = if fits then None else Some Wire_too_old

-- why it refuses a call, but for an entry's own fault
abbrev pub call_refusal : {D G F : Type 0} → Setup D G F → List Mark → Call → Option (Refusal D F)
call_refusal s marks (Offering n entry now) = or_else (number_refusal n marks) (wire_refusal (s.fits entry))
call_refusal s marks (Seeking n now) = number_refusal n marks
call_refusal s marks (Falling_due now) = None
call_refusal s marks (Receiving bytes now) = reading_refusal s.seat (s.reads bytes)
call_refusal s marks (Recalling n to) = recall_refusal s.seat.members n to

-- the first refusal that holds before an offered entry is set: a station that is stopped refuses each call
abbrev pub early_refusal : {D G F : Type 0} → Setup D G F → Bool → List Mark → Call → Option (Refusal D F)
early_refusal s stopped marks call = if stopped then Some Stopped else call_refusal s marks call

-- why it refuses what setting an entry gave
abbrev pub setting_refusal : {D G F : Type 0} → Result G F → Option (Refusal D F)
setting_refusal (Err fault) = Some (Tape_faulty fault)
setting_refusal (Ok slugs) = None

-- an offered entry is one that sets here
abbrev pub tape_refusal : {D G F : Type 0} → Setup D G F → Call → Option (Refusal D F)
tape_refusal s (Offering n entry now) = setting_refusal (s.sets entry)
tape_refusal s (Seeking n now) = None
tape_refusal s (Falling_due now) = None
tape_refusal s (Receiving bytes now) = None
tape_refusal s (Recalling n to) = None

-- the first refusal that holds before the store is asked
abbrev pub refusal : {D G F : Type 0} → Setup D G F → Bool → List Mark → Call → Option (Refusal D F)
refusal s stopped marks call = or_else (early_refusal s stopped marks call) (tape_refusal s call)

-- the due moment of a number, if there is one
abbrev pub due_event : Option ℕ → ℕ → Option Event
due_event None now = None
due_event (Some n) now = Some (Came_due n now)

-- the arrival of a packet, if there is one
abbrev pub arrival : {D : Type 0} → Result Packet D → ℕ → Option Event
arrival (Err fault) now = None
arrival (Ok p) now = Some (Arrived p now)

-- the event that a call brings: what is due is the least number that is, and where none is there is no event
abbrev pub event_of : {D G F : Type 0} → Setup D G F → List Mark → Call → Option Event
event_of s marks (Offering n entry now) = Some (Offered n entry now)
event_of s marks (Seeking n now) = Some (Sought n now)
event_of s marks (Falling_due now) = due_event (next_due s.seat.me now marks) now
event_of s marks (Receiving bytes now) = arrival (s.reads bytes) now
event_of s marks (Recalling n to) = Some (Recalled n to)

-- A station's refusals, as the protocol's.
use Rattle.std.specs.Prelude.{◌≡◌, ℕ, List, Option, Some, None, Result, Ok, Err}
use Rattle.protocol.specs.Lists.{or_else}
use Rattle.protocol.specs.Seats.{Seat}
use Rattle.protocol.specs.Entries.{Entry}
use Rattle.protocol.specs.Packets.{Packet}
use Rattle.protocol.specs.Versions.{Version, fits}
use Rattle.protocol.specs.Marks.{Mark}
use Rattle.protocol.specs.Refusals as refusals
use Rattle.packets.specs.declared.fault.PacketFault.{PacketFault}
use Rattle.line_check.specs.declared.fault.SetFault.{SetFault}
use Rattle.refusals.specs.declared.refusal.StepRefusal.{StepRefusal}
use Rattle.refusals.specs.declared.refusal.StepRefusal.TheVariants.{Stopped, BadDatagram, WrongCircuit, NotForMe, Stranger, BadNumber, NoSuchMember, AlreadyReleased, AlreadyOpen, WireTooOld, TapeFaulty, RoundsSpent, Store, OutOfMemory}

-- why the protocol has a station refuse
abbrev pub Refusal : Type 0
Refusal = refusals.Refusal PacketFault SetFault

-- what was answered is this refusal, of those that come before the store is asked
abbrev pub IsRefusal : Option Refusal → StepRefusal → Type 0
IsRefusal o Stopped = o ≡ Some refusals.Stopped
IsRefusal o (BadDatagram fault) = o ≡ Some (refusals.Bad_datagram fault)
IsRefusal o WrongCircuit = o ≡ Some refusals.Wrong_circuit
IsRefusal o NotForMe = o ≡ Some refusals.Not_for_me
IsRefusal o Stranger = o ≡ Some refusals.Stranger
IsRefusal o BadNumber = o ≡ Some refusals.Bad_number
IsRefusal o NoSuchMember = o ≡ Some refusals.No_such_member
IsRefusal o AlreadyReleased = o ≡ Some refusals.Already_released
IsRefusal o AlreadyOpen = o ≡ Some refusals.Already_open
IsRefusal o WireTooOld = o ≡ Some refusals.Wire_too_old
IsRefusal o (TapeFaulty fault) = o ≡ Some (refusals.Tape_faulty fault)
IsRefusal o RoundsSpent = ⊥
IsRefusal o (Store fault) = ⊥
IsRefusal o OutOfMemory = ⊥

-- there is no refusal, or it is the one that was answered
abbrev pub Checks : {A : Type 0} → Option Refusal → Result A StepRefusal → Type 0
Checks o (Ok x) = o ≡ None
Checks o (Err r) = IsRefusal o r

-- a packet, checked
abbrev pub ChecksPacket : {A : Type 0} → Seat → Packet → Result A StepRefusal → Type 0
ChecksPacket s p r = Checks (refusals.packet_refusal s p) r

-- the packet that was read in bytes is handed on where there is no refusal of it; else it is refused for the first one
abbrev pub ChecksDatagram : Seat → Result Packet PacketFault → Result Packet StepRefusal → Type 0
ChecksDatagram s read (Ok p) = (read ≡ Ok p) × (refusals.packet_refusal {D = PacketFault} {F = SetFault} s p ≡ None)
ChecksDatagram s read (Err r) = IsRefusal (refusals.reading_refusal s read) r

-- why a station that speaks this version refuses an entry for a number, before the entry is set
abbrev pub offer_refusal : Version → ℕ → Entry → List Mark → Option Refusal
offer_refusal v n entry marks = or_else (refusals.number_refusal n marks) (refusals.wire_refusal (fits v entry))

-- a number and a member to which a vote is to be told again by one of c members, checked
abbrev pub ChecksRecall : {A : Type 0} → (c n to : ℕ) → Result A StepRefusal → Type 0
ChecksRecall c n to r = Checks (refusals.recall_refusal c n to) r

-- What a line of `answer` asks of this acceptor, or why it is refused.
use Rattle.std.specs.Prelude.{ℕ, List, not, ◌==◌, Result, Ok, Err, if◌then◌else◌}
use Rattle.hex.specs.Hex.{decode_of}
use Rattle.hex.specs.declared.FromHexError.{FromHexError}
use Rattle.protocol.specs.Versions.{Version}
use Rattle.protocol.specs.Packets.{Packet as PacketValue, Body, Prepare, Promise, Accept, Accepted, Nack}
use Rattle.protocol.specs.Acceptor.{Request, Prepares, Accepts}
use Rattle.packets.specs.Reading.{packet_at}
use Rattle.packets.specs.declared.fault.PacketFault.{PacketFault}
use Rattle.refusals.specs.declared.line_refusal.Refusal.{Refusal}
use Rattle.refusals.specs.declared.line_refusal.Refusal.TheVariants.{NotHex, Packet, WrongCircuit, NotForMe, NotARequest}

-- a request, from whom it is and about which number
pub record Asked : Type 0 where
  pub from : ℕ
  pub number : ℕ
  pub request : Request

-- the request that a packet carries, with the packet's sender and number
abbrev pub asked_in : PacketValue → Request → Asked
asked_in p request = record { from = p.from; number = p.number; request = request }

-- a Prepare and an Accept are requests, the other three are not
abbrev pub asked_by : PacketValue → Body → Result Asked Refusal
asked_by p Prepare = Ok (asked_in p (Prepares p.ballot))
asked_by p (Accept entry) = Ok (asked_in p (Accepts p.ballot entry))
asked_by p (Promise report) = Err NotARequest
asked_by p (Accepted entry) = Err NotARequest
asked_by p (Nack promised) = Err NotARequest

-- a packet asks where it is of this circuit and for this member
abbrev pub asked_of_packet : ℕ → ℕ → Result PacketValue PacketFault → Result Asked Refusal
asked_of_packet circuit me (Err fault) = Err (Packet fault)
asked_of_packet circuit me (Ok p) =
    if not (p.circuit == circuit) then Err WrongCircuit else
    if not (p.to == me) then Err NotForMe else asked_by p p.body

-- what the bytes of a line ask of an acceptor of this version, if its text is hex
abbrev pub asked_of_bytes : ℕ → ℕ → Version → Result (List ℕ) FromHexError → Result Asked Refusal
asked_of_bytes circuit me v (Err e) = Err NotHex
asked_of_bytes circuit me v (Ok bytes) = asked_of_packet circuit me (packet_at v bytes)

-- what the text of a line asks
abbrev pub asked_of : ℕ → ℕ → Version → List ℕ → Result Asked Refusal
asked_of circuit me v line = asked_of_bytes circuit me v (decode_of line)

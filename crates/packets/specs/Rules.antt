-- The rules that every packet keeps, whose ballot it is and what it may report.
use Rattle.std.specs.Prelude.{ℕ, Bool, true, not, ◌&&◌, ◌==◌, Some, None}
use Rattle.protocol.specs.Ballots.{Ballot, is_below}
use Rattle.protocol.specs.Packets.{Packet, Body, Prepare, Promise, Accept, Accepted, Nack}
use Rattle.packets.specs.declared.packet.Route.{Route}
use Rattle.packets.specs.declared.body.PacketKind.{PacketKind}
use Rattle.packets.specs.declared.body.PacketKind.TheVariants as kinds

-- the kind of packet that says this
abbrev pub kind_of : Body → PacketKind
kind_of Prepare = kinds.Prepare
kind_of (Promise report) = kinds.Promise
kind_of (Accept entry) = kinds.Accept
kind_of (Accepted entry) = kinds.Accepted
kind_of (Nack promised) = kinds.Nack

-- a request is sent at a ballot of its sender's, and a Promise or a Nack answers one of its addressee's
abbrev pub may_send : PacketKind → ℕ → ℕ → ℕ → Bool
may_send kinds.Prepare owner from to = owner == from
may_send kinds.Accept owner from to = owner == from
may_send kinds.Promise owner from to = owner == to
may_send kinds.Nack owner from to = owner == to
may_send kinds.Accepted owner from to = true

-- a reported vote is below the packet's ballot, and the promise of a Nack is above it
abbrev pub may_say : Body → Ballot → Bool
may_say Prepare b = true
may_say (Promise None) b = true
may_say (Promise (Some vote)) b = is_below vote.ballot b
may_say (Accept entry) b = true
may_say (Accepted entry) b = true
may_say (Nack promised) b = is_below b promised

-- the packet of these fields
abbrev pub packet_with : Route → ℕ → Ballot → Body → Packet
packet_with route number ballot body =
    record { circuit = route.circuit; from = route.from; to = route.to; number = number; ballot = ballot; body = body }

-- the rules of a packet: two members that differ, whose ballot it is, and what it reports
abbrev pub keeps_rules : Packet → Bool
keeps_rules p = not (p.from == p.to) && may_send (kind_of p.body) p.ballot.owner p.from p.to && may_say p.body p.ballot

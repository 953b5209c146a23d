-- What tells the datagrams of the two wires apart.
use Rattle.std.specs.Prelude.{ℕ, List}
use Rattle.protocol.specs.Versions.{Version}
use Rattle.protocol.specs.Packets.{Packet}
use Rattle.packets.specs.Grammar.{Spells}
use Rattle.seals.specs.declared.label.Label.{Label}
use Rattle.seals.specs.Opening.{Opens}

-- no bytes spell a packet in some version and are, under some key, a sealed datagram for some member
abbrev pub SealedIsNoPacket : Type 0
SealedIsNoPacket =
    (v : Version) (bytes : List ℕ) (p : Packet) (block : List ℕ) (own : ℕ) (label : Label) (index : ℕ) (part : List ℕ)
    → Spells v bytes p → ¬ Opens block own bytes label index part

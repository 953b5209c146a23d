-- The lines of the datagrams that were sent in a step.
use Rattle.std.specs.Prelude.{ℕ, ◌+◌, List, [], ◌∷◌, ◌++◌, Result, Ok, Err, codes, decimal}
use Rattle.protocol.specs.Versions.{Two}
use Rattle.protocol.specs.Packets.{Body, Prepare, Promise, Accept, Accepted, Nack, Packet}
use Rattle.protocol.specs.Circuit.{Datagram}
use Rattle.packets.specs.Reading.{packet_at}
use Rattle.packets.specs.declared.fault.PacketFault.{PacketFault}
use Rattle.ballots.specs.Texts.{ballot_text}

-- the word for what a packet says
abbrev pub kind_word : Body → List ℕ
kind_word Prepare = codes "prepare"
kind_word (Promise report) = codes "promise"
kind_word (Accept entry) = codes "accept"
kind_word (Accepted entry) = codes "accepted"
kind_word (Nack promised) = codes "nack"

-- from whom to whom, as `1>2`
abbrev pub route_text : ℕ → ℕ → List ℕ
route_text from to = decimal from ++ (codes ">" ++ decimal to)

-- the k-th packet ever sent: its kind, its way, its number and its ballot
abbrev pub packet_line : ℕ → Packet → List ℕ
packet_line k p =
    codes " #" ++ (decimal k ++ (codes " " ++ (kind_word p.body ++ (codes " " ++ (route_text p.from p.to
    ++ (codes " " ++ (decimal p.number ++ (codes " " ++ (ballot_text p.ballot ++ codes "\n")))))))))

-- the line of what bytes spell; those that spell no packet have none
abbrev pub spelled_line : ℕ → Result Packet PacketFault → List ℕ
spelled_line k (Ok p) = packet_line k p
spelled_line k (Err fault) = []

-- the line of the k-th datagram ever sent, in either version
abbrev pub datagram_line : ℕ → Datagram → List ℕ
datagram_line k d = spelled_line k (packet_at Two d.bytes)

-- a line for each of these datagrams, before which so many were sent
abbrev pub datagrams_text : ℕ → List Datagram → List ℕ
datagrams_text before [] = []
datagrams_text before (d ∷ ds) = datagram_line (before + 1) d ++ datagrams_text (before + 1) ds

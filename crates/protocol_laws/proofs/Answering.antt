-- A station answers as an acceptor does.
use Rattle.std.proofs.Common.{◌≡◌, refl, List, Option, Some, None}
use Rattle.protocol.specs.Seats.{Seat}
use Rattle.protocol.specs.Rows.{Vote, Row}
use Rattle.protocol.specs.Packets.{Packet}
use Rattle.protocol.specs.Acceptor.{Prepares, Accepts, Reply, Promises, Nacks, Says_nothing, Votes, Votes_again, reply_of, next_row}
use Rattle.protocol.specs.Marks.{Mark}
use Rattle.protocol.specs.Turn.{Note, Note_voted, Note_voted_again, take_vote, reply_turn}
use Rattle.protocol.specs.Table.{note_on, tells_vote, out_on, TurnsAreAnAcceptors}

votes : (seat : Seat) (marks : List Mark) (row : Row) (p : Packet) (note : Note) (v : Option Vote) → ((take_vote seat marks row p note v).row ≡ row) × ((take_vote seat marks row p note v).note ≡ note) × ((take_vote seat marks row p note v).out ≡ tells_vote seat p v)
votes seat marks row p note None = (refl, refl, refl)
votes seat marks row p note (Some v) = (refl, refl, refl)

replies :
    (seat : Seat) (marks : List Mark) (row : Row) (p : Packet) (r : Reply)
    → ((reply_turn seat marks row p r).row ≡ row) × ((reply_turn seat marks row p r).note ≡ note_on p.ballot r) × ((reply_turn seat marks row p r).out ≡ out_on seat p row.vote r)
replies seat marks row p (Promises report) = (refl, refl, refl)
replies seat marks row p (Nacks a) = (refl, refl, refl)
replies seat marks row p Says_nothing = (refl, refl, refl)
replies seat marks row p Votes = votes seat marks row p (Note_voted p.ballot) row.vote
replies seat marks row p Votes_again = votes seat marks row p (Note_voted_again p.ballot) row.vote

pub turns_are_an_acceptors : TurnsAreAnAcceptors
turns_are_an_acceptors seat now marks row p =
    (replies seat marks (next_row row (Prepares p.ballot)) p (reply_of row (Prepares p.ballot)), λ entry. replies seat marks (next_row row (Accepts p.ballot entry)) p (reply_of row (Accepts p.ballot entry)))

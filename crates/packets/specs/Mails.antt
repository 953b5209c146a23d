-- What goes out with a turn.
use Rattle.std.specs.Prelude.{◌≡◌, ◌≤◌, ℕ, List, [], ◌∷◌, Option, Some, None, IsTrue, length, slice_get, if◌then◌else◌}
use Rattle.protocol.specs.Ballots.{Ballot, is_below}
use Rattle.protocol.specs.Entries.{Entry}
use Rattle.protocol.specs.Rows.{Vote}
use Rattle.protocol.specs.Packets.{Packet, Prepare, Promise, Accepted, Nack}
use Rattle.protocol.specs.Turn.{packet_to, to_others, proposal_to_others}
use Rattle.packets.specs.Rules.{keeps_rules}
use Rattle.protocol.specs.Seats.{Seat}
use Rattle.protocol.specs.Limits.{most_sent}
use Rattle.packets.specs.declared.letter.Letter.{Letter}
use Rattle.packets.specs.declared.letter.Letter.TheVariants as letters

-- from which seat it goes out, about which number, at which ballot, and what it says to whom
pub record Mail : Type 0 where
  pub seat : Seat
  pub number : ℕ
  pub ballot : Ballot
  pub letter : Letter

-- the vote, where it is below the ballot
abbrev pub vote_below : Ballot → Option Vote → Option Vote
vote_below b None = None
vote_below b (Some v) = if is_below v.ballot b then Some v else None

-- the packets that carry the vote's entry; where there is no vote, none
abbrev pub of_entry : (Entry → List Packet) → Option Vote → List Packet
of_entry packets None = []
of_entry packets (Some v) = packets v.entry

-- what goes out, where this is the vote of the row after the turn
abbrev pub letter_sends : Seat → ℕ → Ballot → Option Vote → Letter → List Packet
letter_sends s n b vote letters.Prepare = to_others s n b Prepare
letter_sends s n b vote letters.Proposal = of_entry (proposal_to_others s n b) vote
letter_sends s n b vote letters.Vote = of_entry (λ entry. to_others s n b (Accepted entry)) vote
letter_sends s n b vote (letters.VoteTo to) = of_entry (λ entry. packet_to s n b (Accepted entry) to ∷ []) vote
letter_sends s n b vote (letters.Promise to) = packet_to s n b (Promise (vote_below b vote)) to ∷ []
letter_sends s n b vote (letters.Nack to promised) = packet_to s n b (Nack promised) to ∷ []

-- what a turn's mail sends; where it has none, nothing
abbrev pub mail_sends : Option Mail → Option Vote → List Packet
mail_sends None vote = []
mail_sends (Some m) vote = letter_sends m.seat m.number m.ballot vote m.letter

-- its packets keep the rules of packets
abbrev pub MayGo : Seat → ℕ → Ballot → Letter → Type 0
MayGo s n b letters.Prepare = b.owner ≡ s.me
MayGo s n b letters.Proposal = b.owner ≡ s.me
MayGo s n b letters.Vote = Unit {0}
MayGo s n b (letters.VoteTo to) = ¬ (s.me ≡ to)
MayGo s n b (letters.Promise to) = IsTrue (keeps_rules (packet_to s n b (Promise None) to))
MayGo s n b (letters.Nack to promised) = IsTrue (keeps_rules (packet_to s n b (Nack promised) to))

-- two packets go out to each of 14 others at most
abbrev pub IsFew : Option Mail → Type 0
IsFew mail = (vote : Option Vote) → length (mail_sends mail vote) ≤ most_sent

-- what stands at the first place says the same as what stands at the other, to another member
abbrev pub SaysTheSame : List Packet → ℕ → ℕ → Type 0
SaysTheSame packets first place = (p q : Packet) → slice_get packets first ≡ Some p → slice_get packets place ≡ Some q → p ≡ record q { to = p.to }

-- The turn of a station, as a function: from what it took in, the row of the event's number and the event
-- to the row that is saved, what it then has taken in, the packets that go out and the entry that is released.
use Rattle.std.specs.Prelude.{ℕ, List, [], ◌∷◌, ◌++◌, Option, Some, None, Bool, ◌==◌, not, nat_le, filter, map, if◌then◌else◌}
use Rattle.protocol.specs.Seats.{Seat}
use Rattle.protocol.specs.Ballots.{Ballot, is_below, next, members, is_majority}
use Rattle.protocol.specs.Entries.{Entry}
use Rattle.protocol.specs.Rows.{Vote, Row, raised, voted}
use Rattle.protocol.specs.Packets.{Packet, Body, Prepare, Promise, Accept, Accepted, Nack}
use Rattle.protocol.specs.Acceptor.{Reply, Prepares, Accepts, Promises, Nacks, Says_nothing, Votes, Votes_again, reply_of, next_row, is_at}
use Rattle.protocol.specs.Marks.{Mark, Began, Promised, Proposed, Denied, Heard, Closed, Released}
use Rattle.protocol.specs.Proposals.{Opening, Counted, was_released, open_proposal, proposal_at, gathering_at, since_began, counted, is_counted, pick, begun, denied, is_due}
use Rattle.protocol.specs.Learner.{ripe}

-- what comes to a station: an offer of an entry for a number, a search for a number's entry,
-- the due moment of a number, a packet; each at a moment in milliseconds;
-- and that the own vote for a number is to be told again to a member, which may be the station itself
pub data Event : Type 0 where
  Offered : (number : ℕ) → (entry : Entry) → (now : ℕ) → Event
  Sought : (number : ℕ) → (now : ℕ) → Event
  Came_due : (number : ℕ) → (now : ℕ) → Event
  Arrived : (packet : Packet) → (now : ℕ) → Event
  Recalled : (number : ℕ) → (to : ℕ) → Event

-- the number that an event is about
abbrev pub number_of : Event → ℕ
number_of (Offered n entry now) = n
number_of (Sought n now) = n
number_of (Came_due n now) = n
number_of (Arrived p now) = p.number
number_of (Recalled n to) = n

-- what a turn did, in a word
pub data Note : Type 0 where
  Note_began Note_nothing Note_proposed Note_gave_up Note_promised : (ballot : Ballot) → Note
  Note_voted_again Note_voted Note_overtaken Note_counted Note_heard : (ballot : Ballot) → Note
  Note_nacked Note_denied : (promised : Ballot) → Note
  Note_idle Note_silent Note_stale Note_repeated Note_settled : Note
  Note_recalled : (ballot : Ballot) → Note
  Note_blank : Note

-- a turn: the row after it, the marks after it, the packets that go out, the entry that is released
pub record Turn : Type 0 where
  pub row : Row
  pub marks : List Mark
  pub out : List Packet
  pub release : Option Entry
  pub note : Note

-- a turn that sends and releases nothing
abbrev pub stays : Row → List Mark → Note → Turn
stays row marks note = record { row = row; marks = marks; out = []; release = None; note = note }

-- all members but the station's, in rising order
abbrev pub others : Seat → List ℕ
others s = filter (λ k. not (k == s.me)) (members s.members)

-- the station's packet to a member
abbrev pub packet_to : Seat → ℕ → Ballot → Body → ℕ → Packet
packet_to s n b body to = record { circuit = s.circuit; from = s.me; to = to; number = n; ballot = b; body = body }

-- the packet to each of the others
abbrev pub to_others : Seat → ℕ → Ballot → Body → List Packet
to_others s n b body = map (packet_to s n b body) (others s)

-- what goes out as an entry is proposed: to each of the others an Accept, and then the news of the station's own vote
abbrev pub proposal_to_others : Seat → ℕ → Ballot → Entry → List Packet
proposal_to_others s n b entry = to_others s n b (Accept entry) ++ to_others s n b (Accepted entry)

-- the marks after a vote was heard, and what is released
pub record Hearing : Type 0 where
  pub marks : List Mark
  pub release : Option Entry

-- n is released where a vote is ripe
abbrev pub settle : ℕ → List Mark → Option Vote → Hearing
settle n marks None = record { marks = marks; release = None }
settle n marks (Some v) = record { marks = Released n v.entry ∷ marks; release = Some v.entry }

-- the vote of a member for n is heard, unless n was released (Lamport: a learner is told what was accepted)
abbrev pub hear : ℕ → ℕ → ℕ → Ballot → Entry → List Mark → Hearing
hear c n member b t marks =
    if was_released n marks then record { marks = marks; release = None }
    else settle n (Heard n member b t ∷ marks) (ripe c n (Heard n member b t ∷ marks))

-- a turn that heard a vote
abbrev pub after_hearing : Row → List Packet → Note → Hearing → Turn
after_hearing row out note h = record { row = row; marks = h.marks; out = out; release = h.release; note = note }

-- Lamport, phase 2 (a): the picked entry is voted for and proposed at b; where there is none, the proposal is closed
abbrev pub propose : Seat → ℕ → Ballot → ℕ → List Mark → Row → Option Entry → Turn
propose s n b now marks row None = stays row (Closed n ∷ marks) (Note_nothing b)
propose s n b now marks row (Some entry) =
    after_hearing (voted b entry) (proposal_to_others s n b entry) (Note_proposed b)
    (hear s.members n s.me b entry (Proposed n b now ∷ marks))

-- Lamport, phase 1 (a): the row is promised to b, and the others are asked; a member of one proposes at once
abbrev pub begin : Seat → ℕ → Ballot → Option Entry → ℕ → List Mark → Row → Turn
begin s n b own now marks row =
    if s.members == 1
    then propose s n b now (Began n b own row.vote now ∷ marks) (raised row b) (pick own (record { member = s.me; report = row.vote } ∷ []))
    else record { row = raised row b; marks = Began n b own row.vote now ∷ marks; out = to_others s n b Prepare; release = None; note = Note_began b }

-- an offer or a search begins the next ballot; there is no turn where the rounds are spent
abbrev pub start_turn : Seat → ℕ → Option Entry → ℕ → List Mark → Row → Option Ballot → Option Turn
start_turn s n own now marks row None = None
start_turn s n own now marks row (Some b) = Some (begin s n b own now marks row)

-- the greater of two ballots that may be none
abbrev pub greater_ballot : Option Ballot → Option Ballot → Option Ballot
greater_ballot None q = q
greater_ballot (Some p) None = Some p
greater_ballot (Some p) (Some q) = if is_below p q then Some q else Some p

-- how many ballots a proposal begins at most
abbrev pub most_ballots : ℕ
most_ballots = 32

-- the ballot after the saved promise and the greatest Nack; none after the most ballots, or where the rounds are spent
abbrev pub next_ballot : ℕ → ℕ → List Mark → Row → Option Ballot
next_ballot m n marks row = if nat_le most_ballots (begun n marks) then None else next (greater_ballot row.promised (denied n marks)) m

-- a proposal that is due begins anew, or gives up
abbrev pub renew : Seat → ℕ → ℕ → Opening → List Mark → Row → Option Ballot → Turn
renew s n now p marks row None = stays row (Closed n ∷ marks) (Note_gave_up p.ballot)
renew s n now p marks row (Some b) = begin s n b p.own now marks row

-- the due moment of a number: idle where no proposal of it is open or it has not come
abbrev pub due_turn : Seat → ℕ → ℕ → List Mark → Row → Option Opening → Turn
due_turn s n now marks row None = stays row marks Note_idle
due_turn s n now marks row (Some p) =
    if is_due s.me n now (since_began n marks) (Some p)
    then renew s n now p marks row (next_ballot s.me n marks row)
    else stays row marks Note_idle

-- a turn that answers the sender of a packet
abbrev pub answer : Seat → List Mark → Row → Packet → Body → Note → Turn
answer s marks row p body note = record { row = row; marks = marks; out = packet_to s p.number p.ballot body p.from ∷ []; release = None; note = note }

-- the station's vote is sent to the others and heard by itself
abbrev pub vote_turn : Seat → List Mark → Row → Packet → Entry → Note → Turn
vote_turn s marks row p entry note =
    after_hearing row (to_others s p.number p.ballot (Accepted entry)) note (hear s.members p.number s.me p.ballot entry marks)

-- the vote that the row has, if it has one, is sent and heard so
abbrev pub take_vote : Seat → List Mark → Row → Packet → Note → Option Vote → Turn
take_vote s marks row p note None = stays row marks note
take_vote s marks row p note (Some v) = vote_turn s marks row p v.entry note

-- the turn on an acceptor's reply to the request in p, with the row that it leaves: its report, or the promise that stands in the way,
-- goes back to the sender; the vote that its row then has is sent to the others and heard
abbrev pub reply_turn : Seat → List Mark → Row → Packet → Reply → Turn
reply_turn s marks row p (Promises report) = answer s marks row p (Promise report) (Note_promised p.ballot)
reply_turn s marks row p (Nacks a) = answer s marks row p (Nack a) (Note_nacked a)
reply_turn s marks row p Says_nothing = stays row marks Note_silent
reply_turn s marks row p Votes = take_vote s marks row p (Note_voted p.ballot) row.vote
reply_turn s marks row p Votes_again = take_vote s marks row p (Note_voted_again p.ballot) row.vote

-- Lamport, phase 1 (b): a Prepare is taken as an acceptor with this row takes it
abbrev pub prepare_turn : Seat → List Mark → Row → Packet → Turn
prepare_turn s marks row p = reply_turn s marks (next_row row (Prepares p.ballot)) p (reply_of row (Prepares p.ballot))

-- Lamport, phase 2 (b): so is an Accept
abbrev pub accept_turn : Seat → List Mark → Row → Packet → Entry → Turn
accept_turn s marks row p entry = reply_turn s marks (next_row row (Accepts p.ballot entry)) p (reply_of row (Accepts p.ballot entry))

-- the row's promise is b
abbrev pub is_promised : Row → Ballot → Bool
is_promised row b = is_at row.promised b

-- a promise is counted; where a majority is counted with it, its entry is proposed
abbrev pub count_promise : Seat → ℕ → List Mark → Row → Packet → Option Vote → Opening → List Counted → Turn
count_promise s now marks row p report o all =
    if is_majority s.members (is_counted all)
    then propose s p.number p.ballot now (Promised p.number p.from p.ballot report ∷ marks) row (pick o.own all)
    else stays row (Promised p.number p.from p.ballot report ∷ marks) (Note_counted p.ballot)

-- a Promise, to the proposal that gathers at its ballot, if any
abbrev pub promise_turn : Seat → ℕ → List Mark → Row → Packet → Option Vote → Option Opening → Turn
promise_turn s now marks row p report None = stays row marks Note_stale
promise_turn s now marks row p report (Some o) =
    if not (is_promised row p.ballot) then stays row marks (Note_overtaken p.ballot)
    else if is_counted (counted s.me p.number o (since_began p.number marks)) p.from then stays row marks Note_repeated
    else count_promise s now marks row p report o (counted s.me p.number o (Promised p.number p.from p.ballot report ∷ since_began p.number marks))

-- a Nack, to the proposal at its ballot, if any
abbrev pub nack_turn : List Mark → Row → Packet → Ballot → Option Opening → Turn
nack_turn marks row p a None = stays row marks Note_stale
nack_turn marks row p a (Some o) = stays row (Denied p.number a ∷ marks) (Note_denied a)

-- a vote of another member
abbrev pub accepted_turn : Seat → List Mark → Row → Packet → Entry → Turn
accepted_turn s marks row p entry =
    after_hearing row [] (if was_released p.number marks then Note_settled else Note_heard p.ballot) (hear s.members p.number p.from p.ballot entry marks)

-- a saved vote is told again: to another member in an Accepted, and by the station to itself, which hears it
-- (Lamport, section 2.3: a learner that missed a message could ask the acceptors what proposals they have accepted)
abbrev pub tell_again : Seat → ℕ → ℕ → List Mark → Row → Vote → Turn
tell_again s n to marks row v =
    if to == s.me then after_hearing row [] (Note_recalled v.ballot) (hear s.members n s.me v.ballot v.entry marks)
    else record { row = row; marks = marks; out = packet_to s n v.ballot (Accepted v.entry) to ∷ []; release = None; note = Note_recalled v.ballot }

-- a recall of n to a member: a row without a vote has nothing to tell, whatever it has promised
abbrev pub recall_turn : Seat → ℕ → ℕ → List Mark → Row → Option Vote → Turn
recall_turn s n to marks row None = stays row marks Note_blank
recall_turn s n to marks row (Some v) = tell_again s n to marks row v

-- a packet, by its body
abbrev pub packet_turn : Seat → ℕ → List Mark → Row → Packet → Body → Turn
packet_turn s now marks row p Prepare = prepare_turn s marks row p
packet_turn s now marks row p (Promise report) = promise_turn s now marks row p report (gathering_at p.number p.ballot marks)
packet_turn s now marks row p (Accept entry) = accept_turn s marks row p entry
packet_turn s now marks row p (Accepted entry) = accepted_turn s marks row p entry
packet_turn s now marks row p (Nack a) = nack_turn marks row p a (proposal_at p.number p.ballot marks)

-- the turn of the station of this seat, with these marks and this row of the event's number;
-- none where an offer or a search finds no ballot left
abbrev pub turn : Seat → List Mark → Row → Event → Option Turn
turn s marks row (Offered n entry now) = start_turn s n (Some entry) now marks row (next row.promised s.me)
turn s marks row (Sought n now) = start_turn s n None now marks row (next row.promised s.me)
turn s marks row (Came_due n now) = Some (due_turn s n now marks row (open_proposal n marks))
turn s marks row (Arrived p now) = Some (packet_turn s now marks row p p.body)
turn s marks row (Recalled n to) = Some (recall_turn s n to marks row row.vote)
